-- `kinds::negated`: only a predicate can be negated.
use mathlib.Core.Path.{ap, sym, ◌∙◌}
use Rattle.deck.specs.declared.kinds.Kind.TheVariants.{Negative, Invalid}
use Rattle.deck.proofs.KindLaws.{if_positive, negated-kind, not-positive}
use Rattle.deck.proofs.kinds.negated.Goals as goal

pub returns-in-Positive : goal.returns-in-Positive
returns-in-Positive c = sym (negated-kind _ _ ∙ ap (if_positive Negative Invalid) (sym c.symbol.ensures ∙ c.in-Positive.is))

pub returns-in_default : goal.returns-in_default
returns-in_default c = sym (negated-kind _ _ ∙ ap (if_positive Negative Invalid) (sym c.symbol.ensures) ∙ not-positive Negative Invalid c.symbol.result c.in_default.not-Positive)
