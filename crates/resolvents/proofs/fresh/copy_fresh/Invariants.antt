-- `fresh::copy_fresh` meets its contract. The loop's invariant: the cells before i are written.
use Rattle.resolvents.proofs.VariableLaws.{Copying}
use Rattle.resolvents.proofs.fresh.copy_fresh.Given as goal

abbrev pub invariant-loop-i : goal.invariant-loop-i
invariant-loop-i l = Copying l.clause l.initial.cells l.to l.offset l.cells l.i
