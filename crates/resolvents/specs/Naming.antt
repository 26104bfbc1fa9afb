-- Variables named in order of first appearance, and what writing terms under these names leaves.
use Rattle.std.specs.Prelude.{ℕ, ◌+◌, ◌≤◌, ◌<◌, ◌≡◌, true, false, List, [], length, get_or, take, count_by, is_none, Option, Some, None, Result, Ok, Err}
use Rattle.std.proofs.Math.Seq.{slice}
use Rattle.std.proofs.lemmas.List.Edits.{sets}
use Rattle.rules.specs.Terms.{Terms, sizes, vars_terms, renames}
use Rattle.rules.specs.Unification.{applys}
use Rattle.rules.specs.Cells.{write_terms}
use Rattle.rules.specs.Goals.{member, appearing, position}
use Rattle.matching.specs.Taking.{take_t}
use Rattle.matching.specs.Cells.{reads}
use Rattle.matching.specs.Bindings.{Places, elims, alone}
use Rattle.matching.specs.declared.bindings.Bound.{Bound}
use Rattle.resolvents.specs.declared.put.Full.{Full}

-- The terms that the cells from p up to `end` hold. A literal is read as a term.
abbrev pub within : List ℕ → List ℕ → ℕ → ℕ → Terms
within ar cells p end = reads ar (slice p end cells)

-- The first k of them after the eliminations.
abbrev pub shown : List ℕ → List ℕ → Places → List ℕ → ℕ → ℕ → ℕ → ℕ → Terms
shown ar cells bs trail n p end k = applys (elims ar cells bs trail n) (take_t k (within ar cells p end))

-- The same by the bindings b: the first k of the terms from p up to `end`; all of them; the term at p.
abbrev pub first_by : Bound → ℕ → ℕ → ℕ → Terms
first_by b p end k = shown b.terms.symbols.now b.terms.cells.now b.table.now.bind b.table.now.trail b.table.now.bound p end k

abbrev pub all_by : Bound → ℕ → ℕ → Terms
all_by b p end = applys (elims b.terms.symbols.now b.terms.cells.now b.table.now.bind b.table.now.trail b.table.now.bound) (within b.terms.symbols.now b.terms.cells.now p end)

abbrev pub alone_by : Bound → ℕ → Terms
alone_by b p = alone b.terms.symbols.now b.terms.cells.now b.table.now.bind b.table.now.trail b.table.now.bound p

-- The number of v among the variables xs: its position, or None where it is none of them.
unfoldable pub name_in : List ℕ → ℕ → Option ℕ
name_in xs v = elim (member v xs) [ true ↦ Some (position xs v) | false ↦ None ]

-- How many variables have no number.
abbrev pub unnamed : List (Option ℕ) → ℕ
unnamed names = count_by is_none names

-- The first m variables of `order` are named, and `names` has the number of each variable. As many entries are in use as are named.
pub record Named (names : List (Option ℕ)) (order : List ℕ) (m : ℕ) : Type 0 where
  pub narrow : length names ≤ 32768
  pub room : length names ≤ length order
  pub counted : m + unnamed names ≡ length names
  pub listed : (i : ℕ) → i < m → get_or order i 0 < length names
  pub given : (v : ℕ) → v < length names → get_or names v None ≡ name_in (take m order) v
  pub numbered : (i : ℕ) → i < m → get_or names (get_or order i 0) None ≡ Some i

-- The variables named after the terms ts: xs, and then those that are new, in order of first appearance.
abbrev pub order_after : List ℕ → Terms → List ℕ
order_after xs ts = appearing xs (vars_terms ts [])

-- The cells of the terms ts under the numbers of ys.
abbrev pub cells_under : List ℕ → Terms → List ℕ
cells_under ys ts = write_terms (renames (position ys) ts) []

-- The place after the terms ts, which stand in the list from `to` on, and the number of variables named; or the terms do not fit.
abbrev pub PutTells : List ℕ → List ℕ → ℕ → ℕ → Terms → List ℕ → List ℕ → ℕ → Result ℕ Full → Type 0
PutTells out order to m ts out' order' m' (Ok e) =
    (e ≡ to + sizes ts) × (e ≤ length out) × (take m' order' ≡ order_after (take m order) ts) × (out' ≡ sets out to (cells_under (order_after (take m order) ts) ts))
PutTells out order to m ts out' order' m' (Err why) = length out < to + sizes ts

pub record Wrote (out order : List ℕ) (to m : ℕ) (ts : Terms) (out' : List ℕ) (names' : List (Option ℕ)) (order' : List ℕ) (m' : ℕ) (r : Result ℕ Full) : Type 0 where
  pub tells : PutTells out order to m ts out' order' m' r
  pub kept : Named names' order' m'
