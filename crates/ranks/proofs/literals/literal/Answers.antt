-- `literal` meets its contract, by the kind of the cell. Assumes nothing.
use Rattle.std.proofs.Common.{◌∙◌, sym}
use Rattle.ranks.proofs.ValueLaws.{begins-positive, negative-high, begins-negative, begins_none}
use Rattle.ranks.proofs.literals.literal.Goals as goal

pub overflow_sub-result : goal.overflow_sub-result
overflow_sub-result c = negative-high c.args.symbols.now c.requires c.args.cell c.in-Negative.field-0 (sym c.read.ensures ∙ c.in-Negative.is)

pub returns-in-Positive : goal.returns-in-Positive
returns-in-Positive c = begins-positive c.args.symbols.now c.requires c.args.cell c.in-Positive.field-0 (sym c.read.ensures ∙ c.in-Positive.is)

pub returns-in-Negative : goal.returns-in-Negative
returns-in-Negative c = begins-negative c.args.symbols.now c.requires c.args.cell c.in-Negative.field-0 (sym c.read.ensures ∙ c.in-Negative.is)

pub returns-in_default : goal.returns-in_default
returns-in_default c = begins_none _ (λ k e. c.in_default.not-Positive k (c.read.ensures ∙ e)) (λ k e. c.in_default.not-Negative k (c.read.ensures ∙ e))
