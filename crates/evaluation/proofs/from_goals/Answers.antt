-- `from_goals`: level 0.
use Rattle.evaluation.proofs.from_goals.Goals as goal

pub top-requires : goal.top-requires
top-requires c = record { opening = c.requires.opening; short_store = c.requires.short_store }

pub returns : goal.returns
returns c = c.top.ensures
