-- `order_and_count`: the goals that are left are put in order and counted.
use mathlib.Core.Path.{refl}
use Rattle.top_level.proofs.order_and_count.Goals as goal

pub order_goals-pending-requires : goal.order_goals-pending-requires
order_goals-pending-requires c = c.requires.stored

pub overflow_sub-result : goal.overflow_sub-result
overflow_sub-result c = rw c.left-left.ensures c.requires.within_budget

pub returns : goal.returns
returns c =
    λ S l h.
    record { steps = c.steps-steps.ensures; cost = rw c.left-left.ensures refl; answers = refl; ordered = c.order_goals-pending.ensures.ordered S l h }
