-- The invariant: the walk has come to that number and that place.
use Rattle.std.proofs.Common.{◌≡◌}
use Rattle.naming.proofs.walks.count.Given as goal

abbrev pub invariant-loop-d : goal.invariant-loop-d
invariant-loop-d l =
    record { text : l.d-iterator.text ≡ l.text; count : l.count ≡ l.d-iterator.count; end : l.end ≡ l.d-iterator.at }
