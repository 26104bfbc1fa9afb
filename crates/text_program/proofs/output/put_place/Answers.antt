-- The four parts of the line; the place has at most ten digits.
use Rattle.std.proofs.Common.{rules, [], ◌∷◌, length, ap, arith}
use Rattle.listing.proofs.PutLaws.{put_at_start, adds_then, adds-length}
use Rattle.listing.proofs.DigitLaws.{decimal-length}
use Rattle.listing.specs.Put.{Adds}
use Rattle.text_program.proofs.OutputLaws.{ten, line-parts}
use Rattle.text_program.proofs.output.put_place.Goals as goal
use Rattle.text_program.proofs.output.put_place.Goals.{After-put_number}

number : (c : After-put_number) → Adds c.put.new.self (49 ∷ 48 ∷ []) c.put_number.new.self
number c = rw (c.from.ensures, ten []) at c.put_number.ensures

pub put_number-requires : goal.put_number-requires
put_number-requires c =
    let o = c.new-out.ensures in
    let a = c.put.ensures in
    rw (c.from.ensures, ten []) (omega (arith, o.start, ap length o.bytes, a.put.place, adds-length a))

pub put_prefixed-requires : goal.put_prefixed-requires
put_prefixed-requires c =
    let o = c.new-out.ensures in
    let a = c.put.ensures in
    let n = number (goal.at.put_prefixed-requires c).After-put_number in
    omega (arith, o.start, ap length o.bytes, a.put.place, adds-length a, n.put.place, adds-length n, decimal-length 9 c.args.place (omega arith))

pub put-requires-2 : goal.put-requires-2
put-requires-2 c =
    let o = c.new-out.ensures in
    let a = c.put.ensures in
    let n = number (goal.at.put-requires-2 c).After-put_number in
    let b = c.put_prefixed.ensures in
    omega (arith, o.start, ap length o.bytes, a.put.place, adds-length a, n.put.place, adds-length n, b.put.place, adds-length b, decimal-length 9 c.args.place (omega arith))

pub returns : goal.returns
returns c =
    let o = c.new-out.ensures in
    let n = number (goal.at.returns c).After-put_number in
    let a = adds_then (adds_then (adds_then c.put.ensures n) c.put_prefixed.ensures) c.put-2.ensures in
    rw (line-parts c.args.place) (put_at_start o.bytes o.start a (search (rules, o.same_reference, a.same_reference)))
