-- `put_goal` meets its contract.
use native.Mathlib.Omega.{arith}
use Rattle.std.proofs.lemmas.Result.{err_from_is_err_and}
use lib.ListN.{length}
use Rattle.resolvents.specs.Child.{range_after}
use Rattle.resolvents.proofs.WroteLaws.{wrote-full, wrote-length}
use Rattle.resolvents.proofs.ChildLaws.{goal-narrow, goal-width, goal-first-full, goal-second-full, goal-all}
use Rattle.resolvents.proofs.resolve.Origin.put_goal.Goals as goal

pub put_range-requires : goal.put_range-requires
put_range-requires c =
    let ranges = c.args.self.now.ranges in
    record { inside = omega (arith, c.args.self.now.ranges.inside, ranges.answered, ranges.selected); p_le_end = (omega arith, omega arith) }

pub returns-in_err-first : goal.returns-in_err-first
returns-in_err-first c =
    let p = err_from_is_err_and c.from_residual.result c.from_residual.ensures.1 in
    rw (p.1, p.2) (wrote-full _ c.in_err-first.ensures)

pub put_range-requires-2 : goal.put_range-requires-2
put_range-requires-2 c =
    let ranges = c.args.self.now.ranges in
    record { inside = omega (arith, c.args.self.now.ranges.inside, ranges.selected); p_le_end = (ranges.answered, omega (arith, c.in_ok-first.ensures.tells.1)) }

pub returns-in_err-before : goal.returns-in_err-before
returns-in_err-before c =
    let p = err_from_is_err_and c.from_residual-in_err-before.result c.from_residual-in_err-before.ensures.1 in
    let b = c.args.self.now.bound in
    rw (p.1, p.2) (goal-first-full c.in_ok-first.ensures (range_after b.terms.symbols.now b.terms.cells.now b.table.now.bind b.table.now.trail b.table.now.bound c.args.self.now.call.e c.args.self.now.call.len) (range_after b.terms.symbols.now b.terms.cells.now b.table.now.bind b.table.now.trail b.table.now.bound c.args.self.now.body (length b.terms.cells.now)) c.in_err-before.ensures)

pub put_range-requires-3 : goal.put_range-requires-3
put_range-requires-3 c =
    let ranges = c.args.self.now.ranges in
    record { inside = c.args.self.now.ranges.inside; p_le_end = (ranges.rest, omega (arith, c.in_ok-before.ensures.tells.1, wrote-length c.in_ok-first.ensures)) }

pub returns-in_err-after : goal.returns-in_err-after
returns-in_err-after c =
    let p = err_from_is_err_and c.from_residual-in_err-after.result c.from_residual-in_err-after.ensures.1 in
    let b = c.args.self.now.bound in
    rw (p.1, p.2) (goal-second-full c.in_ok-first.ensures c.in_ok-before.ensures (range_after b.terms.symbols.now b.terms.cells.now b.table.now.bind b.table.now.trail b.table.now.bound c.args.self.now.body (length b.terms.cells.now)) c.in_err-after.ensures)

pub put_range-requires-4 : goal.put_range-requires-4
put_range-requires-4 c =
    let ranges = c.args.self.now.ranges in
    record { inside = omega arith; p_le_end = (ranges.clause, omega (arith, c.in_ok-after.ensures.tells.1, wrote-length c.in_ok-first.ensures, wrote-length c.in_ok-before.ensures)) }

pub returns-in_err-end : goal.returns-in_err-end
returns-in_err-end c =
    let p = err_from_is_err_and c.from_residual-in_err-end.result c.from_residual-in_err-end.ensures.1 in
    rw (p.1, p.2) (goal-all c.in_ok-first.ensures c.in_ok-before.ensures c.in_ok-after.ensures c.in_err-end.ensures)

pub overflow_sub-result : goal.overflow_sub-result
overflow_sub-result c = goal-narrow c.in_ok-first.ensures

pub returns : goal.returns
returns c = (goal-width c.in_ok-first.ensures, goal-all c.in_ok-first.ensures c.in_ok-before.ensures c.in_ok-after.ensures c.in_ok-end.ensures)
