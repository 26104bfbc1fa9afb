-- The listing goes to the start, and the room is enough for it.
use Rattle.std.proofs.Common.{rules, length, ap, arith}
use Rattle.listing.proofs.PutLaws.{put_at_start}
use Rattle.listing.proofs.PrintedLaws.{put-printed}
use Rattle.program_parts.proofs.put_run.Goals as goal

pub put_listing-requires-clause-room : goal.put_listing-requires-clause-room
put_listing-requires-clause-room c = let o = c.new-out.ensures in (omega (arith, c.told-answers), omega (arith, o.start, ap length o.bytes, c.told-out, c.told-answers))

pub shape_of-out : goal.shape_of-out
shape_of-out c =
    let s = c.requires in
    let a = c.put_listing.ensures.adds s.0 s.1 in
    search (rules, c.new-out.ensures.same_reference, a.same_reference)

pub returns : goal.returns
returns c = λ o s.
    let n = c.new-out.ensures in
    let a = c.put_listing.ensures.adds o s in
    put-printed (put_at_start n.bytes n.start a (search rules)) (omega (arith, a.put.place, c.put_listing.ensures.short, n.start, c.told-out, c.told-answers))
