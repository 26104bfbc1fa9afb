-- `report`: the run's end, with the goals that are left in order.
use Rattle.top_level.proofs.TopLaws.{topped}
use Rattle.top_level.proofs.report.Goals as goal

pub order_and_count-steps-requires-clause-stored : goal.order_and_count-steps-requires-clause-stored
order_and_count-steps-requires-clause-stored c = record { symbols = c.requires.stops.started.deck.symbols; level = c.requires.stops.is.level; stored = c.requires.stops.is.stored }

pub returns : goal.returns
returns c = λ s answers b h. topped s _ _ h (λ S l z. rw b (c.order_and_count-steps.ensures S l z))
