-- `step`: one cell of the scan, case by case.
use Prim.Native.Nat.{◌-◌}
use native.Mathlib.Omega.{arith}
use Rattle.deck.proofs.CellsLaws.{variable-none, variable-late, variable-on, function-none, function-many, function-on, as-predicate, no_cell}
use Rattle.deck.proofs.terms.step.Goals as goal

pub returns-in_err-rest-in-Variable : goal.returns-in_err-rest-in-Variable
returns-in_err-rest-in-Variable c =
    let a = c.args in
    rw c.from_residual.ensures (variable-none (a.len - a.at - 1) a.todo a.next a.kind c.in-Variable.v c.in-Variable.is (omega (arith, c.in_err-rest-in-Variable.ensures)))

pub returns-then-next-v : goal.returns-then-next-v
returns-then-next-v c =
    let a = c.args in
    variable-late (a.len - a.at - 1) a.todo a.next a.kind c.in-Variable.v c.in-Variable.is (omega (arith, c.in_ok-rest-in-Variable.ensures.0)) c.if-next-v.true

pub returns-then-room-rest : goal.returns-then-room-rest
returns-then-room-rest c =
    let a = c.args in
    function-many (a.len - a.at - 1) a.todo a.next a.kind c.in-Function.k c.in-Function.is (omega (arith, c.in_ok-rest-in-Function.ensures.0)) (omega arith) (omega (arith, c.in_ok-rest-in-Function.ensures.1, c.if-room-rest.true))

pub returns-in_err-rest-in-Function : goal.returns-in_err-rest-in-Function
returns-in_err-rest-in-Function c =
    let a = c.args in
    rw c.from_residual-in_err-rest-in-Function.ensures (function-none (a.len - a.at - 1) a.todo a.next a.kind c.in-Function.k c.in-Function.is (omega (arith, c.in_err-rest-in-Function.ensures)))

pub returns-else-next-v : goal.returns-else-next-v
returns-else-next-v c =
    let a = c.args in
    rw c.in_ok-rest-in-Variable.ensures.1 (variable-on (a.len - a.at - 1) a.todo a.next a.kind c.in-Variable.v c.max.result c.in-Variable.is (omega (arith, c.in_ok-rest-in-Variable.ensures.0)) c.if-next-v.false (omega arith) (omega arith))

pub returns-else-room-rest : goal.returns-else-room-rest
returns-else-room-rest c =
    let a = c.args in
    rw c.in_ok-rest-in-Function.ensures.1 (function-on (a.len - a.at - 1) a.todo a.next a.kind c.in-Function.k c.in-Function.is (omega (arith, c.in_ok-rest-in-Function.ensures.0)) (omega arith) (omega (arith, c.in_ok-rest-in-Function.ensures.1, c.if-room-rest.false)))

pub returns-in-Positive : goal.returns-in-Positive
returns-in-Positive c =
    let a = c.args in
    as-predicate (a.len - a.at - 1) a.todo a.next a.kind c.in-Positive.k c.in-Positive.is c.predicate.result c.predicate.ensures

pub returns-in-Invalid : goal.returns-in-Invalid
returns-in-Invalid c = no_cell (c.args.len - c.args.at - 1) c.args.todo c.args.next c.args.kind c.in-Invalid.is
