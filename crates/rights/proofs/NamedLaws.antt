-- The predicates that cells name: of literals, of a clause's body, of a goal. Assumes nothing.
use Prim.Native.Nat.{ℕ, zero, suc, ◌+◌, ◌-◌, ◌≤◌, ◌<◌}
use mathlib.Core.Path.{◌≡◌, refl, ap, sym, ◌∙◌}
use mathlib.Core.Option.{Option, none, some, none-ne-some}
use mathlib.Core.List.Memᴰ
use mathlib.Core.Logic.{inl, inr}
use mathlib.Core.List.{List, [], ◌∷◌, ◌++◌}
use native.Mathlib.Omega.{arith}
use lib.ListN.{length, get_elem?, drop}
use Rattle.std.specs.Prelude.{Option as Maybe, Some, None}
use Rattle.rules.specs.Syntax.{Symbol, Literal, Clause, Goal}
use Rattle.rules.specs.Cells.{write_terms, write_literals, Cell, variable, function, positive, negative, invalid, negated_cell, read_cell}
use Rattle.rules.specs.Decks.{write_clause}
use Rattle.rules.specs.Goals.{goal_cells}
use Rattle.rules.specs.WellFormed.{WfLiterals, WfClause, WfGoal}
use Rattle.rules.proofs.NumberingLaws.{In}
use Rattle.deck.specs.declared.kinds.Kind.TheVariants.{Positive, Negative}
use Rattle.deck.specs.Kinds.{kind_of}
use Rattle.rules.proofs.FlatLaws.{beginning_at, beginning, terms-begin, literals-name, goal-names as goal_names_lem}
use Rattle.rules.proofs.CellLaws.{cell-negated, Written, cell-written, positive-below}
use Rattle.rules.specs.Rights.{predicates}
use Rattle.rights.specs.Named.{named_by, then_others, named}

-- They are those of the literals that begin in the cells.
module _ (S : List Symbol) where
  named-cells : (cells : List ℕ) → named S cells ≡ predicates (beginning S cells)
  unfolding named beginning beginning_at
  named-cells [] = refl
  named-cells (c ∷ cs) = ap (then_others (named_by (read_cell S c))) (named-cells cs) ∙ at (read_cell S c) (beginning S cs)
    where
      at : (x : Cell) (ls : List Literal) → then_others (named_by x) (predicates ls) ≡ predicates (beginning_at x ls)
      at (variable v) ls = refl
      at (function f k) ls = refl
      at (positive p k) ls = refl
      at (negative p k) ls = refl
      at invalid ls = refl

  pub literals-named : (ls : List Literal) → WfLiterals S ls → named S (write_literals ls) ≡ predicates ls
  literals-named ls w = named-cells (write_literals ls) ∙ literals-name S ls w

  -- A clause's cells after the first, which is its head's predicate.
  pub body-names : (c : Clause) → WfClause S c → named S (drop 1 (write_clause c)) ≡ predicates c.body
  unfolding write_clause
  body-names c w =
      named-cells (write_terms c.arguments (write_literals c.body)) ∙ ap predicates (terms-begin S c.arguments (write_literals c.body) w.literals.0.1)
      ∙ literals-name S c.body w.literals.1

  pub goal-names : (g : Goal) → WfGoal S g → named S (goal_cells g) ≡ predicates g.literals
  goal-names g w = named-cells (goal_cells g) ∙ goal_names_lem S g w.answer_terms w.literals

-- What is named is one of the symbols.
elem-below : (S : List Symbol) (i : ℕ) (s : Symbol) → get_elem? S i ≡ some s → i < length S
elem-below [] i s e = absurd (none-ne-some s e)
elem-below (t ∷ S) zero s e = omega arith
elem-below (t ∷ S) (suc i) s e = omega (arith, elem-below S i s e)

negative-below : (S : List Symbol) (c p k : ℕ) → read_cell S c ≡ negative p k → c ≡ 16384 + p → c < 32768 → p < length S
unfolding negated_cell
negative-below S c p k e w l =
    let z : c - 16384 ≡ p = omega arith in
    go (get_elem? S p) refl (ap (λ i. negated_cell i (get_elem? S i)) (sym z) ∙ sym (cell-negated S c (omega arith) l) ∙ e)
  where
    go : (o : Option Symbol) → get_elem? S p ≡ o → negated_cell p o ≡ negative p k → p < length S
    go none q f = absurd (let z : ◌≡◌ {A = ℕ} 0 1 = cc in omega arith)
    go (some s) q f = elem-below S p s q

pub name-below : (S : List Symbol) (c p : ℕ) → named_by (read_cell S c) ≡ Some p → p < length S
name-below S c p e = go (read_cell S c) refl (cell-written S c) e
  where
    go : (x : Cell) → read_cell S c ≡ x → Written x c → named_by x ≡ Some p → p < length S
    go (variable v) r w f = absurd (let z : ◌≡◌ {A = ℕ} 0 1 = cc in omega arith)
    go (function v j) r w f = absurd (let z : ◌≡◌ {A = ℕ} 0 1 = cc in omega arith)
    go (positive v j) r w f = let z : v ≡ p = cc in omega (arith, positive-below S v j (ap (read_cell S) (sym w.0) ∙ r))
    go (negative v j) r w f = let z : v ≡ p = cc in omega (arith, negative-below S c v j r w.0 w.1)
    go invalid r w f = absurd (let z : ◌≡◌ {A = ℕ} 0 1 = cc in omega arith)

pub named-below : (S : List Symbol) (cells : List ℕ) (q : ℕ) → In q (named S cells) → q < length S
unfolding named
named-below S [] q i = absurd (Memᴰ.not-nil i)
named-below S (c ∷ cs) q i = go (named_by (read_cell S c)) refl i (named-below S cs q)
  where
    go : (o : Maybe ℕ) → named_by (read_cell S c) ≡ o → In q (then_others o (named S cs)) → (In q (named S cs) → q < length S) → q < length S
    go None e i later = later i
    go (Some p) e i later = elim (Memᴰ.cases_cons i) [ inl f ↦ (let b = name-below S c p e in omega (arith, f, b)) | inr j ↦ later j ]

-- By what the code takes the cell for.
pub name-positive : (S : List Symbol) (c k : ℕ) → kind_of (read_cell S c) ≡ Positive k → Some c ≡ named_by (read_cell S c)
name-positive S c k e = go (read_cell S c) (cell-written S c) e
  where
    go : (x : Cell) → Written x c → kind_of x ≡ Positive k → Some c ≡ named_by x
    go (variable v) r f = absurd (let z : ◌≡◌ {A = ℕ} 0 1 = cc in omega arith)
    go (function v j) r f = absurd (let z : ◌≡◌ {A = ℕ} 0 1 = cc in omega arith)
    go (positive v j) r f = ap Some r.0
    go (negative v j) r f = absurd (let z : ◌≡◌ {A = ℕ} 0 1 = cc in omega arith)
    go invalid r f = absurd (let z : ◌≡◌ {A = ℕ} 0 1 = cc in omega arith)

pub name-negative : (S : List Symbol) (c k : ℕ) → kind_of (read_cell S c) ≡ Negative k → (16384 ≤ c) × (Some (c - 16384) ≡ named_by (read_cell S c))
name-negative S c k e = go (read_cell S c) (cell-written S c) e
  where
    go : (x : Cell) → Written x c → kind_of x ≡ Negative k → (16384 ≤ c) × (Some (c - 16384) ≡ named_by x)
    go (variable v) r f = absurd (let z : ◌≡◌ {A = ℕ} 0 1 = cc in omega arith)
    go (function v j) r f = absurd (let z : ◌≡◌ {A = ℕ} 0 1 = cc in omega arith)
    go (positive v j) r f = absurd (let z : ◌≡◌ {A = ℕ} 0 1 = cc in omega arith)
    go (negative v j) r f = (omega (arith, r.0), ap Some (omega (arith, r.0)))
    go invalid r f = absurd (let z : ◌≡◌ {A = ℕ} 0 1 = cc in omega arith)

pub name-other : (x : Cell) → ((k : ℕ) → kind_of x ≡ Positive k → ⊥) → ((k : ℕ) → kind_of x ≡ Negative k → ⊥) → None ≡ named_by x
name-other (variable v) h g = refl
name-other (function f k) h g = refl
name-other (positive p k) h g = absurd (h k refl)
name-other (negative p k) h g = absurd (g k refl)
name-other invalid h g = refl

-- Cell by cell.
module _ (S : List Symbol) where
  pub named-none : named S [] ≡ []
  unfolding named
  named-none = refl

  module _ (c : ℕ) (cs : List ℕ) where
    pub named-next : (p : ℕ) → named_by (read_cell S c) ≡ Some p → named S (c ∷ cs) ≡ (p ∷ []) ++ named S cs
    unfolding named
    named-next p e = ap (λ o. then_others o (named S cs)) e

    pub named-past : named_by (read_cell S c) ≡ None → named S (c ∷ cs) ≡ named S cs
    unfolding named
    named-past e = ap (λ o. then_others o (named S cs)) e
