-- The invariant: the digits of the places below are still to be put.
use Prim.Native.Nat.{◌-◌}
use mathlib.Core.List.{◌++◌}
use native.Mathlib.Omega.{arith}
use Rattle.listing.specs.Digits.{digit, digits_at, weights_of, weights}
use Rattle.listing.proofs.PutLaws.{Left, left-room, put_some}
use Rattle.listing.proofs.DigitLaws.{digits-next, weight-positive}
use Rattle.listing.proofs.output.Output.put_five.Goals as goal
use Rattle.listing.proofs.output.Output.put_five.Goals.{After-weight}

-- The next digit in front of the others.
next :
    (c : After-weight)
    → Left c.args.self.now (digits_at weights c.args.n) c.loop-place.self
    (digit c.weight.result c.args.n ++ digits_at (weights_of (c.loop-place.place - 1)) c.args.n)
next c = rw (c.weight.ensures) (rw (digits-next c.loop-place.place c.args.n (omega arith)) at c.loop-place.invariant)

pub put_digit-requires-clause-weight : goal.put_digit-requires-clause-weight
put_digit-requires-clause-weight c = rw c.weight.ensures (weight-positive _)

pub put_digit-requires-clause-room : goal.put_digit-requires-clause-room
put_digit-requires-clause-room c = left-room (digit c.weight.result c.args.n) _ (next (goal.at.put_digit-requires-clause-room c).After-weight) c.requires

pub loop-place-preserved : goal.loop-place-preserved
loop-place-preserved c = put_some (next (goal.at.loop-place-preserved c).After-weight) c.put_digit.ensures
