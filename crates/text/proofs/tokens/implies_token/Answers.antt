-- `:` and the byte after it.
use Rattle.std.proofs.Common.{sym, ◌∙◌}
use Rattle.text.proofs.TokenLaws.{colon-alone, implies-scanned}
use Rattle.text.proofs.tokens.implies_token.Goals as goal

pub returns-then-starts_with : goal.returns-then-starts_with
returns-then-starts_with c = implies-scanned c.args.text.now c.args.from c.requires.0 c.requires.1 (sym c.starts_with.ensures.value ∙ c.if-starts_with.true)

pub returns : goal.returns
returns c = rw c.one_byte.ensures (colon-alone c.args.text.now c.args.from c.requires.0 c.requires.1 (sym c.starts_with.ensures.value ∙ c.if-starts_with.false))
