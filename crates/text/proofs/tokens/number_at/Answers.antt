-- A number begins with no zero.
use Rattle.std.proofs.Common.{sym, ◌∙◌}
use Rattle.text.proofs.TokenLaws.{zero_number, other-number}
use Rattle.text.proofs.tokens.number_at.Goals as goal

pub returns-then-starts_with : goal.returns-then-starts_with
returns-then-starts_with c = zero_number c.args.text.now c.args.from c.requires (sym c.starts_with.ensures.value ∙ c.if-starts_with.true)

pub returns : goal.returns
returns c = other-number c.args.text.now c.args.from (sym c.starts_with.ensures.value ∙ c.if-starts_with.false) c.digits_at.result c.digits_at.ensures
