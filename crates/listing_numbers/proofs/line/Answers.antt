-- A number below 2 ^ 32 has at most ten digits.
use Rattle.std.proofs.Common.{length, ap, arith}
use Rattle.listing.proofs.DigitLaws.{decimal-length}
use Rattle.listing.proofs.PutLaws.{adds-length, written-room}
use Rattle.listing_numbers.proofs.line.Goals as goal

pub put_number-requires : goal.put_number-requires
put_number-requires g c = omega (arith, c.new-out.ensures.start, ap length c.new-out.ensures.bytes, decimal-length 9 c.args.n (omega arith))

pub put-requires : goal.put-requires
put-requires g c =
    let o = c.new-out.ensures in
    let a = c.put_number.ensures in
    omega (arith, o.start, ap length o.bytes, a.put.place, adds-length a, decimal-length 9 c.args.n (omega arith))

pub written-requires : goal.written-requires
written-requires g c =
    let o = c.new-out.ensures in
    let a = c.put_number.ensures in
    written-room (omega (arith, o.start, ap length o.bytes, a.put.place, adds-length a, decimal-length 9 c.args.n (omega arith))) c.put.ensures
