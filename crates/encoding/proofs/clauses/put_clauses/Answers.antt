-- The invariant: the entries so far are written.
use Rattle.encoding.proofs.ClauseLaws.{writing-end, start-room, start-few, writing-on}
use Rattle.encoding.proofs.clauses.put_clauses.Goals as goal

pub put_start-requires : goal.put_start-requires
put_start-requires c =
    let d = c.loop-entry.invariant.2 in
    let o = c.in-Some.ensures.steps.next in
    (start-room d c.next.new.self c.in-Some.entry o c.requires.starts, start-few d c.next.new.self c.in-Some.entry o c.requires.few)

pub loop-entry-preserved : goal.loop-entry-preserved
loop-entry-preserved c =
    let o = c.in-Some.ensures.steps.next in
    let on = writing-on c.loop-entry.invariant.2 c.next.new.self c.in-Some.entry o c.cell_of.result (c.cell_of.ensures o.0.0 o.0.1) c.with-s.result c.with-s.ensures in
    (tt, tt, rw c.put_start.ensures on)

pub returns-clause-starts : goal.returns-clause-starts
returns-clause-starts c = (writing-end c.loop-entry.invariant.2 c.next.new.self c.in-None.ensures.steps.next).0

pub returns-clause-cells : goal.returns-clause-cells
returns-clause-cells c = (writing-end c.loop-entry.invariant.2 c.next.new.self c.in-None.ensures.steps.next).1
