-- `fresh::variables` meets its contract. The loop's invariant: `top` is the least number above the variables before the cell.
use Rattle.resolvents.proofs.VariableLaws.{AboveSoFar}
use Rattle.resolvents.proofs.fresh.variables.Given as goal

abbrev pub invariant-loop-cell : goal.invariant-loop-cell
invariant-loop-cell l = AboveSoFar l.cells l.top l.cell-index
