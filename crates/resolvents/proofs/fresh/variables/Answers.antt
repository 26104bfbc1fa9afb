-- `fresh::variables` meets its contract. The loop's invariant: `top` is the least number above the variables before the cell.
use Prim.Native.Nat.{ℕ, max}
use native.Mathlib.Omega.{arith}
use mathlib.Core.Path.{◌≡◌, ◌∙◌}
use Rattle.std.specs.Ordering.{ord_max, nat_cmp}
use Rattle.std.proofs.lemmas.Bool.Decides.{nat_tests}
use Rattle.resolvents.proofs.VariableLaws.{topped-none, topped-more, topped-same, topped-all, goal-topped}
use Rattle.resolvents.proofs.fresh.variables.Goals as goal
use Rattle.resolvents.proofs.fresh.variables.Goals.{then-cell-ge-VARIABLE, else-cell-ge-VARIABLE}

-- `a.max(b)` as the lemmas say it
max-is : (a b : ℕ) → ord_max nat_cmp a b ≡ max a b
max-is a b = grind (arith, nat_tests)

pub loop-cell-init : goal.loop-cell-init
loop-cell-init c = topped-none c.args.cells.now

pub loop-cell-preserved : goal.loop-cell-preserved
loop-cell-preserved c =
    elim c.if-cell-ge-VARIABLE.branch [
      | then-cell-ge-VARIABLE w ↦ topped-more c.loop-cell.invariant (omega arith) w.if-cell-ge-VARIABLE.true (omega (arith, c.type_inv.cells c.loop-cell.cell-index)) (w.top-is ∙ rw w.from.ensures at w.max-top.ensures ∙ max-is _ _)
      | else-cell-ge-VARIABLE w ↦ rw w.top-is (topped-same c.loop-cell.invariant (omega arith) w.if-cell-ge-VARIABLE.false)
    ]

pub returns : goal.returns
returns c = λ ar answer_cells S g h. topped-all c.loop-cell.invariant (omega arith) ∙ goal-topped h
