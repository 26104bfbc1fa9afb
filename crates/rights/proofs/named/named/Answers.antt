-- `named` meets its contract.
use Rattle.std.proofs.Common.{◌∙◌, sym}
use Rattle.deck.specs.Kinds.{symbols_of}
use Rattle.rights.proofs.NamedLaws.{name-positive, name-negative, name-other}
use Rattle.rights.proofs.named.named.Goals as goal

pub overflow_sub-result : goal.overflow_sub-result
overflow_sub-result c = (name-negative (symbols_of c.args.symbols.now) c.args.cell c.in-Negative.field-0 (sym c.read.ensures ∙ c.in-Negative.is)).0

pub returns-in-Positive : goal.returns-in-Positive
returns-in-Positive c = name-positive (symbols_of c.args.symbols.now) c.args.cell c.in-Positive.field-0 (sym c.read.ensures ∙ c.in-Positive.is)

pub returns-in-Negative : goal.returns-in-Negative
returns-in-Negative c = (name-negative (symbols_of c.args.symbols.now) c.args.cell c.in-Negative.field-0 (sym c.read.ensures ∙ c.in-Negative.is)).1

pub returns-in_default : goal.returns-in_default
returns-in_default c = name-other _ (λ k e. c.in_default.not-Positive k (c.read.ensures ∙ e)) (λ k e. c.in_default.not-Negative k (c.read.ensures ∙ e))
