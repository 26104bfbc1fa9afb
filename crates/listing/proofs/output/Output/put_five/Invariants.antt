-- The invariant: the digits of the places below are still to be put.
use Rattle.listing.specs.Digits.{digits_at, weights_of, weights}
use Rattle.listing.proofs.PutLaws.{Left}
use Rattle.listing.proofs.output.Output.put_five.Given as goal

abbrev pub invariant-loop-place : goal.invariant-loop-place
invariant-loop-place l = Left l.initial.self (digits_at weights l.n) l.self (digits_at (weights_of l.place) l.n)
