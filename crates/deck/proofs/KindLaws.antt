-- What the code takes a cell for, case by case.
use Prim.Native.Nat.{ℕ, ◌-◌, ◌≤◌, ◌<◌}
use mathlib.Core.Path.{◌≡◌, refl, ◌∙◌}
use mathlib.Core.Option.{Option, none, some}
use mathlib.Core.List.{List, [], ◌∷◌}
use native.Mathlib.Omega.{arith}
use denote.Enum.Declared.{tag_of}
use types.Run.{OneOf, hit}
use borrow.Author.Tests.{le-leb, lt-leb}
use Rattle.rules.specs.Syntax.{Symbol, functor, predicate}
use Rattle.rules.specs.Cells.{Cell, variable, function, positive, negative, invalid, symbol_cell, negated_cell, variable_cell, read_cell}
use Rattle.rules.proofs.CellLaws.{cell-variable, Written, cell-written}
use Rattle.deck.specs.declared.kinds.Kind.{Kind}
use Rattle.deck.specs.declared.kinds.Kind.TheVariants.{Variable, Function, Positive, Negative, Invalid}
use Rattle.deck.specs.Kinds.{kind_of}
use Rattle.deck.specs.contracts.kinds.Kind.{the_type}

-- What a predicate's arity gives, and `other` for whatever is no predicate.
abbrev pub if_positive : {A : Type 0} → (ℕ → A) → A → Kind → A
if_positive f other (Variable v) = other
if_positive f other (Function k) = other
if_positive f other (Positive k) = f k
if_positive f other (Negative k) = other
if_positive f other Invalid = other

-- A kind whose tag is one of these.
abbrev pub Others : List ℕ → Kind → Type 0
Others tags k = OneOf tags (tag_of the_type k)

-- A kind that none of the arms before took is one of the others.
pub no-variable : (k : Kind) → ((v : ℕ) → k ≡ Variable v → ⊥) → Others (1 ∷ 2 ∷ 3 ∷ 4 ∷ []) k
no-variable (Variable v) h = absurd (h v refl)
no-variable (Function k) h = hit (1 ∷ 2 ∷ 3 ∷ 4 ∷ []) 1 tt
no-variable (Positive k) h = hit (1 ∷ 2 ∷ 3 ∷ 4 ∷ []) 2 tt
no-variable (Negative k) h = hit (1 ∷ 2 ∷ 3 ∷ 4 ∷ []) 3 tt
no-variable Invalid h = hit (1 ∷ 2 ∷ 3 ∷ 4 ∷ []) 4 tt

pub no-predicate : (k : Kind) → ((a : ℕ) → k ≡ Positive a → ⊥) → ((a : ℕ) → k ≡ Negative a → ⊥) → Others (0 ∷ 1 ∷ 4 ∷ []) k
no-predicate (Variable v) h g = hit (0 ∷ 1 ∷ 4 ∷ []) 0 tt
no-predicate (Function k) h g = hit (0 ∷ 1 ∷ 4 ∷ []) 1 tt
no-predicate (Positive k) h g = absurd (h k refl)
no-predicate (Negative k) h g = absurd (g k refl)
no-predicate Invalid h g = hit (0 ∷ 1 ∷ 4 ∷ []) 4 tt

pub not-positive : {A : Type 0} (f : ℕ → A) (other : A) (k : Kind) → ((a : ℕ) → k ≡ Positive a → ⊥) → if_positive f other k ≡ other
not-positive f other (Variable v) h = refl
not-positive f other (Function k) h = refl
not-positive f other (Positive k) h = absurd (h k refl)
not-positive f other (Negative k) h = refl
not-positive f other Invalid h = refl

pub negated-kind : (n : ℕ) (o : Option Symbol) → kind_of (negated_cell n o) ≡ if_positive Negative Invalid (kind_of (symbol_cell n o))
unfolding negated_cell symbol_cell
negated-kind n none = refl
negated-kind n (some (functor k)) = refl
negated-kind n (some (predicate k)) = refl

-- A variable's cell by its number.
pub read-variable : (S : List Symbol) (c : ℕ) → 32768 ≤ c → c - 32768 ≤ 1023 → read_cell S c ≡ variable (c - 32768)
unfolding variable_cell
read-variable S c h l = cell-variable S c h ∙ rw (le-leb (c - 32768) 1023 l, variable_cell)

pub read-over : (S : List Symbol) (c : ℕ) → 32768 ≤ c → 1023 < c - 32768 → read_cell S c ≡ invalid
unfolding variable_cell
read-over S c h l = cell-variable S c h ∙ rw (lt-leb (c - 32768) 1023 l, variable_cell)

-- A variable's number is at most 1,023.
pub small-variable : (S : List Symbol) (c v : ℕ) → kind_of (read_cell S c) ≡ Variable v → v ≤ 1023
small-variable S c v e = go (read_cell S c) (cell-written S c) e
  where
    go : (x : Cell) → Written x c → kind_of x ≡ Variable v → v ≤ 1023
    go (variable u) w q = let z : u ≡ v = cc in omega (arith, w.1)
    go (function f k) w q = absurd (let z : ◌≡◌ {A = ℕ} 0 1 = cc in omega arith)
    go (positive p k) w q = absurd (let z : ◌≡◌ {A = ℕ} 0 1 = cc in omega arith)
    go (negative p k) w q = absurd (let z : ◌≡◌ {A = ℕ} 0 1 = cc in omega arith)
    go invalid w q = absurd (let z : ◌≡◌ {A = ℕ} 0 1 = cc in omega arith)
