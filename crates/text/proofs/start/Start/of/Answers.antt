-- By the first two tokens.
use Rattle.std.proofs.Common.{◌∙◌, refl}
use Rattle.text.proofs.ReadLaws.{token_of}
use Rattle.text.proofs.StartLaws.{other-start, name-start, version-start}
use Rattle.text.proofs.start.Start.of.Goals as goal

pub returns-then-not-is_version : goal.returns-then-not-is_version
returns-then-not-is_version c =
    other-start c.args.text.now c.next_token-first.result c.next_token-first.ensures
    (c.is_version.ensures.tested (token_of c.args.text.now c.next_token-first.result) refl refl ∙ c.if-not-is_version.true)

pub returns-in_default : goal.returns-in_default
returns-in_default c =
    name-start c.args.text.now c.next_token-first.result c.next_token-first.ensures c.next_token-second.result c.next_token-second.ensures
    (c.is_version.ensures.name c.if-not-is_version.false) c.in_default.not-Dot

pub returns : goal.returns
returns c =
    version-start c.args.text.now c.next_token-first.result c.next_token-first.ensures c.next_token-second.result c.next_token-second.ensures
    (c.is_version.ensures.name c.if-not-is_version.false) (c.is_version.ensures.tested (token_of c.args.text.now c.next_token-first.result) refl refl ∙ c.if-not-is_version.false) c.in-Dot.is
