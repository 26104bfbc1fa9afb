-- `write` meets its contract. The loop's invariant is `Writing`. Assumes nothing.
use Rattle.drill.specs.Listing.{terms_left}
use Rattle.drill.proofs.WriteLaws.{Writing}
use Rattle.drill.proofs.write.Given as goal

abbrev pub invariant-loop-term : goal.invariant-loop-term
invariant-loop-term l = Writing (terms_left l.terms) l.initial.out l.out l.at l.count (terms_left l.term-iterator)
