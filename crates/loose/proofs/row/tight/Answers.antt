-- `tight`: what the marks say of the cells passed.
use Prim.Native.Nat.{ℕ, ◌+◌, ◌-◌, ◌≤◌, ◌<◌}
use mathlib.Core.Path.{◌≡◌, sym, ◌∙◌, subst}
use mathlib.Core.Bool.{Bool}
use mathlib.Core.List.{List, [], ◌∷◌}
use native.Mathlib.Omega.{arith}
use lib.ListN.{length, get_or}
use Rattle.rules.specs.Syntax.{Symbol}
use Rattle.deck.specs.declared.kinds.Kind.{Kind}
use Rattle.deck.specs.declared.kinds.Kind.TheVariants.{Variable}
use Rattle.deck.specs.Kinds.{symbols_of}
use Rattle.deck.proofs.KindLaws.{Others, small-variable, no-variable}
use Rattle.loose.specs.Marks.{inside_after, waiting}
use Rattle.loose.proofs.MarkLaws.{waiting_few, waiting-set, kind_at, Passed, passed_none, passed-end, passed-below, passed-other, passed-variable, count-few}
use Rattle.loose.proofs.row.tight.Goals as goal
use Rattle.loose.proofs.row.tight.Goals.{In-Variable, in-Variable, in_default}

-- The variable at `at`.
is-variable : (k : goal.In-Variable) → kind_at (symbols_of k.args.symbols.now) k.args.cells.now k.loop-cell.cell-index ≡ Variable k.in-Variable.v
is-variable k = sym k.read.ensures ∙ k.in-Variable.is

small : (k : goal.In-Variable) → (k.in-Variable.v ≤ 1023) × (k.in-Variable.v < length k.loop-cell.marks)
small k =
    let l = small-variable (symbols_of k.args.symbols.now) _ k.in-Variable.v (is-variable k) in
    (l, omega (arith, l, k.loop-cell.invariant.size))

-- What the mark that is set changes in the count.
module _ (S : List Symbol) (cells marks : List ℕ) (stamp at : ℕ) (inside : Bool) (count : ℕ) (p : Passed S cells marks stamp at inside count)
    (v mark more less : ℕ) (h : v < length marks) (m : more ≡ waiting stamp mark) (l : less ≡ waiting stamp (get_or marks v 0)) where
  enough : less ≤ count + more
  enough = omega (arith, waiting-set stamp marks v mark h, p.counted)

  changed : count + more - less + waiting stamp (get_or marks v 0) ≡ count + waiting stamp mark
  changed = omega (arith, waiting-set stamp marks v mark h, p.counted)

pub loop-cell-init : goal.loop-cell-init
loop-cell-init c = let a = c.args in passed_none (symbols_of a.symbols.now) a.cells.now a.marks.now a.stamp c.requires.0

pub offset_bounds-marks-v : goal.offset_bounds-marks-v
offset_bounds-marks-v c = omega (arith, (small c).0)

pub bounds-marks-v : goal.bounds-marks-v
bounds-marks-v c = (small (goal.at.bounds-marks-v c).In-Variable).1

pub offset_bounds-marks-v-in-Variable : goal.offset_bounds-marks-v-in-Variable
offset_bounds-marks-v-in-Variable c = omega (arith, (small (goal.at.offset_bounds-marks-v-in-Variable c).In-Variable).0)

pub bounds-marks-v-in-Variable : goal.bounds-marks-v-in-Variable
bounds-marks-v-in-Variable c = (small (goal.at.bounds-marks-v-in-Variable c).In-Variable).1

pub overflow_add-count : goal.overflow_add-count
overflow_add-count c = omega (arith, count-few c.loop-cell.invariant, c.waits.ensures, waiting_few c.args.stamp c.mark_after-new.result)

pub overflow_sub-count : goal.overflow_sub-count
overflow_sub-count c =
    let k = (goal.at.overflow_sub-count c).In-Variable in
    enough _ _ _ _ _ _ _ c.loop-cell.invariant k.in-Variable.v _ _ _ (small k).1 c.waits.ensures c.waits-in-Variable.ensures

pub loop-cell-preserved : goal.loop-cell-preserved
loop-cell-preserved c =
    let a = c.args in
    let l = c.loop-cell in
    let S = symbols_of a.symbols.now in
    elim c.match-read.branch [
      | in-Variable w ↦
          let v = w.in-Variable.v in
          let e : kind_at S a.cells.now l.cell-index ≡ Variable v = sym c.read.ensures ∙ w.in-Variable.is in
          let few : v ≤ 1023 = small-variable S _ v e in
          rw (w.marks-is, w.inside-is, w.count-is)
          (passed-variable l.invariant (omega (arith, c.loop-cell-test.true)) v w.mark_after-new.result _ e few w.mark_after-new.ensures
          (changed _ _ _ _ _ _ _ l.invariant v _ _ _ (omega (arith, few, l.invariant.size)) w.waits.ensures w.waits-in-Variable.ensures))
      | in_default w ↦
          rw (w.marks-is, w.inside-is, w.count-is, w.inside_after-inside.ensures)
          (subst (λ (k : Kind). Passed S a.cells.now l.marks a.stamp (l.cell-index + 1) (inside_after k l.inside) l.count) (sym c.read.ensures)
          (passed-other l.invariant (omega (arith, c.loop-cell-test.true))
          (subst (Others (1 ∷ 2 ∷ 3 ∷ 4 ∷ [])) c.read.ensures (no-variable c.read.result w.in_default.not-Variable))))
    ]

pub returns : goal.returns
returns c = let p = c.loop-cell.invariant in (passed-end p (omega (arith, c.loop-cell-test.false)), passed-below p)
