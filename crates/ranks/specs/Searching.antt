-- Marks of what a predicate leads to, and the predicates whose clauses are still to be followed.
use Rattle.std.specs.Prelude.{ℕ, ◌+◌, ◌≤◌, ◌<◌, ◌≡◌, min, Bool, true, false, Option, Some, None, [], ◌∷◌, ◌++◌, length, sum, set}
use mathlib.Core.List.{List, Memᴰ}
use Rattle.rules.specs.Syntax.{Literal, Clause, predicate_of}
use Rattle.rules.specs.WellFormed.{All}
use Rattle.rules.specs.Ranks.{nots, Circular}
use Rattle.ranks.specs.Raising.{at}

-- Each that waits is marked, and there is room for it: it was put there by a raise of a mark, and no mark is above 2.
pub record Ready (marks waiting : List ℕ) : Type 0 where
  pub size : length marks ≡ 4096
  pub two : (x : ℕ) → at marks x ≤ 2
  pub room : length waiting ≤ sum marks
  pub marked : (x : ℕ) → Memᴰ x waiting → 0 < at marks x
  pub small : (x : ℕ) → Memᴰ x waiting → x < 4096

-- Nothing is marked, and none waits.
pub record NothingReached (marks waiting : List ℕ) : Type 0 where
  pub size : length marks ≡ 4096
  pub unmarked : (x : ℕ) → at marks x ≡ 0
  pub none_waits : waiting ≡ []

-- The mark of q is raised, and q waits; nothing is changed where the mark is as high already.
pub record Raised (q mark : ℕ) (marks₀ waiting₀ marks waiting : List ℕ) : Type 0 where
  pub same : mark ≤ at marks₀ q → (marks ≡ marks₀) × (waiting ≡ waiting₀)
  pub raised : at marks₀ q < mark → (marks ≡ set marks₀ q mark) × (waiting ≡ waiting₀ ++ (q ∷ []))

-- p alone is marked and waits.
pub record Begun (p : ℕ) (marks waiting : List ℕ) : Type 0 where
  pub here : at marks p ≡ 1
  pub others : (x : ℕ) → (p ≡ x → ⊥) → at marks x ≡ 0
  pub waits : waiting ≡ p ∷ []

-- The mark that a literal gives its predicate, from the mark of the predicate in whose bodies it is.
abbrev pub lifted : Literal → ℕ → ℕ
lifted l mark = min (nots l + mark) 2

-- Marks raised by literals in the bodies of a predicate with the mark `mark`; each that is raised waits.
pub data Pushes (ls : List Literal) (mark : ℕ) (marks₀ waiting₀ : List ℕ) : List ℕ → List ℕ → Type 0 where
  none : Pushes ls mark marks₀ waiting₀ marks₀ waiting₀
  more : {marks waiting : List ℕ} (l : Literal) → Pushes ls mark marks₀ waiting₀ marks waiting → Memᴰ l ls → predicate_of l < length marks
      → at marks (predicate_of l) < lifted l mark
      → Pushes ls mark marks₀ waiting₀ (set marks (predicate_of l) (lifted l mark)) (waiting ++ (predicate_of l ∷ []))

-- Nothing is left to be raised by these literals.
abbrev pub Reaches : List Literal → ℕ → List ℕ → Type 0
Reaches ls mark marks = All (λ l. lifted l mark ≤ at marks (predicate_of l)) ls

-- The literals are followed.
pub record Follows (ls : List Literal) (mark : ℕ) (marks₀ waiting₀ marks waiting : List ℕ) : Type 0 where
  pub pushes : Pushes ls mark marks₀ waiting₀ marks waiting
  pub reaches : Reaches ls mark marks

-- The last that waits is taken, if there is one.
abbrev pub Popped : List ℕ → List ℕ → Option ℕ → List ℕ → List ℕ → Type 0
Popped marks₀ waiting₀ (Some q) marks waiting = (marks ≡ marks₀) × (waiting₀ ≡ waiting ++ (q ∷ []))
Popped marks₀ waiting₀ None marks waiting = (marks ≡ marks₀) × (waiting₀ ≡ []) × (waiting ≡ [])

-- Whether a predicate is on a chain through a "not" back to itself.
abbrev pub CircleSays : List Clause → ℕ → Bool → Type 0
CircleSays clauses p true = Circular clauses p
CircleSays clauses p false = Circular clauses p → ⊥

-- The lowest-numbered one that is, if there is one.
abbrev pub Named : List Clause → Option ℕ → Type 0
Named clauses (Some p) = Circular clauses p × ((q : ℕ) → q < p → Circular clauses q → ⊥)
Named clauses None = (q : ℕ) → Circular clauses q → ⊥
