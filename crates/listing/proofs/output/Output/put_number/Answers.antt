-- Five digits, or those of n / 100,000 and then the last five.
use Prim.Native.Nat.{◌/◌}
use native.Mathlib.Omega.{arith}
use Rattle.listing.specs.Digits.{digits_at, weights}
use Rattle.listing.proofs.PutLaws.{all_left, left-room, rest-room, put_some, adds_then}
use Rattle.listing.proofs.DigitLaws.{decimal-five, decimal-long}
use Rattle.listing.proofs.output.Output.put_number.Goals as goal

pub put_five-requires : goal.put_five-requires
put_five-requires c = rw (decimal-five c.args.n c.if-n-lt100000.true) at c.requires

pub returns-then-n-lt100000 : goal.returns-then-n-lt100000
returns-then-n-lt100000 c = rw (decimal-five c.args.n c.if-n-lt100000.true) c.put_five.ensures

pub put_five-requires-2 : goal.put_five-requires-2
put_five-requires-2 c =
    left-room (digits_at weights (c.args.n / 100000)) (digits_at weights c.args.n) (all_left c.args.self.now (decimal-long c.args.n (omega arith) (omega arith))) c.requires

pub put_five-requires-3 : goal.put_five-requires-3
put_five-requires-3 c =
    rest-room (put_some (all_left c.args.self.now (decimal-long c.args.n (omega arith) (omega arith))) c.put_five-2.ensures) c.requires

pub returns : goal.returns
returns c = rw (decimal-long c.args.n (omega arith) (omega arith)) (adds_then c.put_five-2.ensures c.put_five-3.ensures)
