-- The walk has come to its end.
use Rattle.std.proofs.Common.{sym, ap}
use Rattle.text.specs.declared.readable.Readable.{Readable}
use Rattle.naming.proofs.WalkLaws.{passed_counted}
use Rattle.naming.proofs.walks.count.Goals as goal

pub invariant_of-result : goal.invariant_of-result
invariant_of-result c =
    let l = c.loop-d in
    let s = l.d-iterator in
    record { counted = rw (l.invariant.count, l.invariant.end, sym (ap (λ (r : Readable). r.text.now) l.invariant.text)) (passed_counted s.text.text.now s.at s.count s.passed c.in-None.ensures.steps.found) }
