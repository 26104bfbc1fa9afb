-- `row`: the scan from the start is the scan from `at`.
use Prim.Native.Nat.{◌-◌}
use mathlib.Core.Path.{sym, ◌∙◌}
use native.Mathlib.Omega.{arith}
use lib.ListN.{length}
use Rattle.deck.specs.Kinds.{symbols_of}
use Rattle.deck.proofs.CellsLaws.{row_next, row-wrong, row-end, row-few}
use Rattle.deck.proofs.terms.row.Goals as goal

pub returns-then-cells-terms : goal.returns-then-cells-terms
returns-then-cells-terms c = sym (row-few (symbols_of c.args.symbols.now) c.args.cells.now c.args.terms 0 c.if-cells-terms.true)

pub loop-at-preserved : goal.loop-at-preserved
loop-at-preserved c =
    let a = c.args in
    let l = c.loop-at in
    let w = c.in-Some.ensures in
    let e = row_next (symbols_of a.symbols.now) a.cells.now l.at l.todo l.next c.loop-at-test.true c.read-kind.result (length a.cells.now - l.at - 1) c.in-Some.t c.in-Some.n c.read-kind.ensures w in
    (omega (arith, c.loop-at-test.true), omega (arith, w.0), omega (arith, w.1), l.invariant.3 ∙ e)

pub returns-in_default : goal.returns-in_default
returns-in_default c =
    let a = c.args in
    let l = c.loop-at in
    sym (l.invariant.3 ∙ row-wrong (symbols_of a.symbols.now) a.cells.now l.at l.todo l.next c.loop-at-test.true c.read-kind.result c.read-kind.ensures c.in_default.ensures)

pub returns : goal.returns
returns c = sym (c.loop-at.invariant.3 ∙ row-end (symbols_of c.args.symbols.now) c.args.cells.now c.loop-at.at c.loop-at.todo c.loop-at.next c.loop-at-test.false c.loop-at.invariant.1)
