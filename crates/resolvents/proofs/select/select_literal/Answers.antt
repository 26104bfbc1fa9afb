-- `select::select_literal` meets its contract. The loop's invariant: the literals passed are negative and have variables.
use native.Mathlib.Omega.{arith}
use Rattle.resolvents.proofs.RowLaws.{goal-formed}
use Rattle.resolvents.proofs.PassedLaws.{passed_none, passed-all, Walked, walked_on, passed-positive, passed-negative, passed-more}
use Rattle.resolvents.proofs.select.select_literal.Goals as goal
use Rattle.resolvents.proofs.select.select_literal.Goals.{After-skip-end}

-- What `skip` found.
walked : (c : goal.After-skip-end) → Walked c.args.symbols.now c.args.cells.now c.loop-at.at c.skip-end.result
walked c = record { inside = c.loop-at-test.true; within = c.skip-end.ensures.0; next = c.skip-end.ensures.1 }

pub invariant_of-terms : goal.invariant_of-terms
invariant_of-terms c = record { formed = goal-formed c.requires.is }

pub loop-at-init : goal.loop-at-init
loop-at-init c = λ S g h. passed_none h

pub skip-end-requires : goal.skip-end-requires
skip-end-requires c =
    c.loop-at-test.true

pub offset_bounds-cells-at : goal.offset_bounds-cells-at
offset_bounds-cells-at c = omega arith

pub bounds-cells-at : goal.bounds-cells-at
bounds-cells-at c = omega arith

pub returns-then-cells-at-lt-NEGATED : goal.returns-then-cells-at-lt-NEGATED
returns-then-cells-at-lt-NEGATED c = λ S g h. passed-positive (walked (goal.at.returns-then-cells-at-lt-NEGATED c).After-skip-end) (c.loop-at.invariant S g h) c.if-cells-at-lt-NEGATED.true

pub returns-then-ground : goal.returns-then-ground
returns-then-ground c = λ S g h. passed-negative (walked (goal.at.returns-then-ground c).After-skip-end) (c.loop-at.invariant S g h) c.if-cells-at-lt-NEGATED.false (rw c.if-ground.true at c.ground.ensures)

pub loop-at-smaller : goal.loop-at-smaller
loop-at-smaller c = let on = walked_on (walked (goal.at.loop-at-smaller c).After-skip-end) in omega (arith, c.skip-end.ensures.0)

pub loop-at-preserved : goal.loop-at-preserved
loop-at-preserved c = λ S g h. passed-more (walked (goal.at.loop-at-preserved c).After-skip-end) (c.loop-at.invariant S g h) c.if-cells-at-lt-NEGATED.false (rw c.if-ground.false at c.ground.ensures)

pub returns : goal.returns
returns c = λ S g h. passed-all (c.loop-at.invariant S g h) (omega arith)

pub slice_bounds-ground-count : goal.slice_bounds-ground-count
slice_bounds-ground-count c = let on = walked_on (walked (goal.at.slice_bounds-ground-count c).After-skip-end) in omega arith

pub slice_bounds-ground-start : goal.slice_bounds-ground-start
slice_bounds-ground-start c = let on = walked_on (walked (goal.at.slice_bounds-ground-start c).After-skip-end) in omega arith
