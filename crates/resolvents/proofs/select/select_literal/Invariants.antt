-- `select::select_literal` meets its contract. The loop's invariant: the literals passed are negative and have variables.
use Prim.Native.Nat.{◌-◌}
use mathlib.Core.List.{List}
use lib.ListN.{length}
use Rattle.rules.specs.Syntax.{Symbol, Goal}
use Rattle.resolvents.specs.Selecting.{GoalCells}
use Rattle.resolvents.proofs.PassedLaws.{Passed}
use Rattle.resolvents.proofs.select.select_literal.Given as goal

abbrev pub invariant-loop-at : goal.invariant-loop-at
invariant-loop-at l = (S : List Symbol) (g : Goal) → GoalCells l.symbols l.cells l.answer_cells S g → Passed l.symbols l.cells S g l.at

abbrev pub decreases-loop-at : goal.decreases-loop-at
decreases-loop-at l = length l.cells - l.at
