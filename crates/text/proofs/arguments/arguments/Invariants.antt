-- The invariant: the arguments are counted as far as the walk has come.
use Rattle.std.proofs.Common.{◌≡◌}
use Rattle.text.proofs.CountLaws.{CountTo}
use Rattle.text.proofs.arguments.arguments.Given as goal

abbrev pub invariant-loop-t : goal.invariant-loop-t
invariant-loop-t l = record { same : l.t-iterator.text.now ≡ l.text; counted : CountTo l.text l.fn.at l.t-iterator.at l.count }
