-- The words of a derived goal, written from the cells of a goal and of a clause with fresh variables after them.
use Rattle.std.specs.Prelude.{ℕ, ◌+◌, ◌-◌, ◌≤◌, ◌<◌, ◌≡◌, List, [], ◌∷◌, length, get_or, take, Option, Some, None, Result, Ok, Err}
use Rattle.rules.specs.Terms.{Terms, ◌+++◌, count, size, sizes}
use Rattle.rules.specs.Unification.{Unification, fails, spent, solved, equations, applys}
use Rattle.matching.specs.Cells.{from, term_at, Formed}
use Rattle.matching.specs.Bindings.{Places, elims}
use Rattle.matching.specs.Outcomes.{unified}
use Rattle.resolvents.specs.Naming.{within, order_after, cells_under, Wrote}
use Rattle.matching.specs.declared.bindings.Bound.{Bound}
use Rattle.resolvents.specs.declared.resolve.Call.{Call}
use Rattle.resolvents.specs.declared.put.Full.{Full}
use Rattle.resolvents.specs.declared.resolve.Resolved.{Resolved}
use Rattle.resolvents.specs.declared.resolve.Resolved.TheVariants.{Nothing, Child, Oversized}

-- The terms that the cells from p up to `end` hold, after the eliminations.
abbrev pub range_after : List ℕ → List ℕ → Places → List ℕ → ℕ → ℕ → ℕ → Terms
range_after ar cells bs trail n p end = applys (elims ar cells bs trail n) (within ar cells p end)

-- The literals as terms: those before the selected one, those after it, and the clause's body from place `body` on.
abbrev pub literals_after : List ℕ → List ℕ → Places → List ℕ → ℕ → Call → ℕ → Terms
literals_after ar cells bs trail n call body =
    range_after ar cells bs trail n call.answer_cells call.s +++ (range_after ar cells bs trail n call.e call.len +++ range_after ar cells bs trail n body (length cells))

-- The same by the bindings b.
abbrev pub literals_by : Bound → Call → ℕ → Terms
literals_by b call body = literals_after b.terms.symbols.now b.terms.cells.now b.table.now.bind b.table.now.trail b.table.now.bound call body

-- Such ranges in the cells.
pub record Ranges (cells : List ℕ) (call : Call) (body : ℕ) : Type 0 where
  pub inside : call.len ≤ length cells
  pub answered : call.answer_cells ≤ call.s
  pub selected : call.s ≤ call.len
  pub rest : call.e ≤ call.len
  pub clause : body ≤ length cells

-- The answer terms and the literals are written from place 2 on, with how many cells are the answer terms'; or they do not fit.
abbrev pub GoalWritten : List ℕ → List ℕ → ℕ → Terms → Terms → List ℕ → List (Option ℕ) → List ℕ → ℕ → Result (ℕ × ℕ) Full → Type 0
GoalWritten out order m ans ls out' names' order' m' (Ok x) = (x.1 ≡ sizes ans) × Wrote out order 2 m (ans +++ ls) out' names' order' m' (Ok x.0)
GoalWritten out order m ans ls out' names' order' m' (Err why) = Wrote out order 2 m (ans +++ ls) out' names' order' m' (Err why)

-- The words of the goal with the answer terms `ans` and the literals `ls`, as terms, renumbered by first appearance; or they are over 1,024.
abbrev pub IsChild : Terms → Terms → List ℕ → Resolved → Type 0
IsChild ans ls child Nothing = ⊥
IsChild ans ls child (Child w) =
    (w ≡ 2 + sizes (ans +++ ls)) × (w ≤ 1024) × (take w child ≡ w ∷ sizes ans ∷ cells_under (order_after [] (ans +++ ls)) (ans +++ ls))
IsChild ans ls child Oversized = 1024 < 2 + sizes (ans +++ ls)

-- The same of what unification makes of them; nothing where it fails.
abbrev pub DerivedBy : Unification → Terms → Terms → List ℕ → Resolved → Type 0
DerivedBy (fails k) ans ls child r = r ≡ Nothing
DerivedBy spent ans ls child r = r ≡ Nothing
DerivedBy (solved k es) ans ls child r = IsChild (applys es ans) (applys es ls) child r

-- The same with what is left of `left` after the equations; or they are more.
abbrev pub AttemptedBy : Unification → ℕ → Terms → Terms → List ℕ → Option (Resolved × ℕ) → Type 0
AttemptedBy u left ans ls child (Some x) = (equations u + x.1 ≡ left) × DerivedBy u ans ls child x.0
AttemptedBy u left ans ls child None = left < equations u

-- The place after the term at p.
abbrev pub place_after : List ℕ → List ℕ → ℕ → ℕ
place_after ar cells p = p + size (term_at ar cells p)

-- The literals of `literals_after` before the eliminations; the clause's body begins after its head.
abbrev pub literals_before : List ℕ → List ℕ → Call → Terms
literals_before ar cells call =
    within ar cells call.answer_cells call.s +++ (within ar cells call.e call.len +++ within ar cells (place_after ar cells call.len) (length cells))

-- A goal's cells and then a clause's: in order, over 1,280 variables, with `number` arguments of the literal and of the head.
pub record GoalThenClause (ar cells : List ℕ) (call : Call) (number : ℕ) : Type 0 where
  pub formed : Formed ar cells
  pub few : (p : ℕ) → p < length cells → 32768 ≤ get_or cells p 0 → get_or cells p 0 - 32768 < 1280
  pub answered : call.answer_cells ≤ call.s
  pub selected : call.s < call.e
  pub rest : call.e ≤ call.len
  pub clause : call.len < length cells
  pub literal : number ≤ count (from ar cells (call.s + 1))
  pub head : number ≤ count (from ar cells (call.len + 1))

-- What unification makes of the first `number` terms of the literal and of the head, with the answer terms and the literals of the cells.
abbrev pub ResolvesCells : List ℕ → List ℕ → Call → ℕ → ℕ → List ℕ → Option (Resolved × ℕ) → Type 0
ResolvesCells ar cells call number left child r =
    AttemptedBy (unified ar cells (call.s + 1) (call.len + 1) number) left (within ar cells 0 call.answer_cells) (literals_before ar cells call) child r
