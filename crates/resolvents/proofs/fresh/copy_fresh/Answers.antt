-- `fresh::copy_fresh` meets its contract. The loop's invariant: the cells before i are written.
use native.Mathlib.Omega.{arith}
use Rattle.resolvents.proofs.VariableLaws.{copying-none, copying-symbol, copying-variable, copying-all}
use Rattle.resolvents.proofs.fresh.copy_fresh.Goals as goal
use Rattle.resolvents.proofs.fresh.copy_fresh.Goals.{then-c-lt-VARIABLE, else-c-lt-VARIABLE}

pub loop-i-init : goal.loop-i-init
loop-i-init c = copying-none c.args.clause.now c.args.cells.now c.args.to c.args.offset

pub loop-i-preserved : goal.loop-i-preserved
loop-i-preserved c =
    elim c.if-c-lt-VARIABLE.branch [
      | then-c-lt-VARIABLE w ↦ rw w.cells-is (copying-symbol c.loop-i.invariant (omega arith) w.if-c-lt-VARIABLE.true)
      | else-c-lt-VARIABLE w ↦ rw w.cells-is (copying-variable c.loop-i.invariant (omega arith) w.if-c-lt-VARIABLE.false)
    ]

pub returns : goal.returns
returns c = copying-all c.loop-i.invariant (omega arith)
