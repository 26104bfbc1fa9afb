-- `write` meets its contract. Assumes nothing.
use Rattle.drill.proofs.RestLaws.{term-length}
use Rattle.drill.proofs.WriteLaws.{writing-last, writing-full, writing_more}
use Rattle.drill.proofs.write.Goals as goal

pub returns-then-out-at : goal.returns-then-out-at
returns-then-out-at c =
    let t = c.in-Some.term in
    let w = writing-full _ _ _ _ _ _ c.loop-term.invariant _ _ c.in-Some.ensures.steps t.size t.sized.0 (term-length t) c.if-out-at.true in
    record { number = w.number; list = w.words }

pub loop-term-preserved : goal.loop-term-preserved
loop-term-preserved c =
    let t = c.in-Some.term in
    rw (c.copy_from_slice.ensures.after, c.cells.ensures)
    (writing_more _ _ _ _ _ _ c.loop-term.invariant _ _ c.in-Some.ensures.steps t.size t.sized.0 (term-length t) c.if-out-at.false)

pub returns : goal.returns
returns c =
    let w = writing-last _ _ _ _ _ _ c.loop-term.invariant c.in-None.ensures.steps.0 in
    record { number = w.number; list = w.words }
