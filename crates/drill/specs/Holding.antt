-- A term as the code has it, and what one is to be: the least of a size, or the first of a list of drill terms.
use Rattle.std.specs.Prelude.{ℕ, ◌≤◌, ◌≡◌, true, List, [], ◌∷◌, take}
use Rattle.std.specs.Prelude as answer
use Rattle.std.specs.Option.{ForSome}
use Rattle.rules.specs.Syntax.{Symbol}
use Rattle.rules.specs.Drill.{fillings}
use Rattle.drill.specs.declared.term.Term.{Term}
use Rattle.drill.specs.Successors.{fills, Heads, rest_after}

-- The cells of a term, and of one that may be there.
abbrev pub term_cells : Term → List ℕ
term_cells t = take t.size t.cells

abbrev pub cells_of : answer.Option Term → List ℕ
cells_of answer.None = []
cells_of (answer.Some t) = term_cells t

-- There is no term yet, or it is one of at most n cells.
pub record Within (S : List Symbol) (n : ℕ) (t : Term) : Type 0 where
  pub short : t.size ≤ n
  pub valid : fills S 1 (term_cells t) ≡ true

abbrev pub Holds : List Symbol → ℕ → answer.Option Term → Type 0
Holds S n before = ForSome before (Within S n)

-- The least term of some cells.
pub record Least (S : List Symbol) (size : ℕ) (t : Term) : Type 0 where
  pub is : t.size ≡ size
  pub heads : Heads S 1 (fillings S size 1) (term_cells t)

-- A list of drill terms begins with this one, and goes on with those after it; or it is empty.
pub record BeginsHere (S : List Symbol) (n : ℕ) (list : List (List ℕ)) (t : Term) : Type 0 where
  pub is : Within S n t
  pub begins : list ≡ term_cells t ∷ rest_after S n (term_cells t)

abbrev pub Begins : List Symbol → ℕ → List (List ℕ) → answer.Option Term → Type 0
Begins S n list answer.None = list ≡ []
Begins S n list (answer.Some t) = BeginsHere S n list t
