-- `step_from_goals`: one step of level 0.
use Rattle.evaluation.proofs.press.step_from_goals.Goals as goal

pub press-requires : goal.press-requires
press-requires c = record { opening = c.requires.opening; short_store = c.requires.short_store }

pub returns : goal.returns
returns c = c.press.ensures
