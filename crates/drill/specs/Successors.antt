-- The fillings of places by cells, as the code goes through them: those after a given one, whether there is any, and the table of that.
use Rattle.std.specs.Prelude.{ℕ, zero, suc, ◌+◌, ◌-◌, ◌/◌, ◌%◌, ◌≤◌, ◌<◌, ◌≡◌, Bool, true, false, List, [], ◌∷◌, ◌++◌, map, length, get_or, take, drop}
use Rattle.std.specs.Prelude as answer
use Rattle.std.proofs.Math.Option.{Option, none, some}
use Rattle.std.proofs.Math.ListN.{get_elem?}
use Rattle.rules.specs.Syntax.{Symbol, functor, predicate}
use Rattle.rules.specs.Drill.{with_first, fillings, terms_from, drill_terms, after}

-- The number of terms that follow symbol f.
abbrev pub symbol_arity : Option Symbol → ℕ
symbol_arity none = 0
symbol_arity (some (functor a)) = a
symbol_arity (some (predicate a)) = a

unfoldable pub arity_at : List Symbol → ℕ → ℕ
arity_at S f = symbol_arity (get_elem? S f)

-- Whether cells are k variable-free terms.
unfoldable pub fills_from : Option Symbol → (ℕ → Bool) → Bool
fills_from none go = false
fills_from (some (functor a)) go = go a
fills_from (some (predicate a)) go = false

unfoldable pub fills : List Symbol → ℕ → List ℕ → Bool
fills S zero [] = true
fills S (suc k) [] = false
fills S zero (c ∷ cs) = false
fills S (suc k) (c ∷ cs) = fills_from (get_elem? S c) (λ a. fills S (a + k) cs)

-- The fillings of k + 1 places by m + 1 cells whose first cell is f or greater.
unfoldable pub later : List Symbol → ℕ → ℕ → ℕ → List (List ℕ)
later S m k f = with_first (λ a. fillings S m (a + k)) f (drop f S)

-- The fillings of k places after a given one, with as many cells.
unfoldable pub followers : List Symbol → ℕ → List ℕ → List (List ℕ)
followers S k [] = []
followers S zero (f ∷ xs) = []
followers S (suc k) (f ∷ xs) = map (f ∷◌) (followers S (arity_at S f + k) xs) ++ later S (length xs) k (suc f)

-- A list of fillings of k places begins with x, and goes on with those after x.
pub record Heads (S : List Symbol) (k : ℕ) (list : List (List ℕ)) (x : List ℕ) : Type 0 where
  pub begins : list ≡ x ∷ followers S k x
  pub valid : fills S k x ≡ true

unfoldable pub nonempty : List (List ℕ) → Bool
nonempty [] = false
nonempty (x ∷ xs) = true

-- Whether k + 1 places can be filled by m + 1 cells of which a symbol is the first.
unfoldable pub starts_with : List Symbol → ℕ → ℕ → Option Symbol → Bool
starts_with S m k none = false
starts_with S m k (some (functor a)) = nonempty (fillings S m (a + k))
starts_with S m k (some (predicate a)) = false

-- Entry k of a row says whether k places can be filled by m cells.
pub record Known (S : List Symbol) (m : ℕ) (row : List Bool) : Type 0 where
  pub size : length row ≡ 8
  pub at : (k : ℕ) → k < 8 → get_or row k false ≡ nonempty (fillings S m k)

-- The first n rows of the table are those of 0, 1, .. cells.
pub record AllKnown (S : List Symbol) (rows : List (List Bool)) (n : ℕ) : Type 0 where
  pub size : length rows ≡ 8
  pub at : (m : ℕ) → m < n → Known S m (get_or rows m [])

-- The least functor at or above `from` with which the first of k + 1 places can be filled, so that m cells fill the others.
pub record Found (S : List Symbol) (m k from f : ℕ) : Type 0 where
  pub symbol : get_elem? S f ≡ some (functor (arity_at S f))
  pub fillable : nonempty (fillings S m (arity_at S f + k)) ≡ true
  pub list : later S m k from ≡ map (f ∷◌) (fillings S m (arity_at S f + k)) ++ later S m k (suc f)

abbrev pub Sought : List Symbol → ℕ → ℕ → ℕ → answer.Option ℕ → Type 0
Sought S m k from answer.None = later S m k from ≡ []
Sought S m k from (answer.Some f) = Found S m k from f

-- The cells were advanced to the next filling of k places, or there is none.
abbrev pub Advanced : List Symbol → ℕ → List ℕ → Bool → List ℕ → Type 0
Advanced S k before true after = Heads S k (followers S k before) after
Advanced S k before false after = followers S k before ≡ []

-- The drill terms of at most n cells after x.
unfoldable pub rest_after : List Symbol → ℕ → List ℕ → List (List ℕ)
rest_after S n x = followers S 1 x ++ terms_from S (suc (length x)) (n - length x)

-- The given cells are none, or a term of at most n cells, n at most 8; and whether they are.
pub record Given (S : List Symbol) (n : ℕ) (given : List ℕ) : Type 0 where
  pub small : n ≤ 8
  pub inside : length given ≤ n
  pub valid : 1 ≤ length given → fills S 1 given ≡ true

abbrev pub Accepts : List Symbol → ℕ → List ℕ → Bool → Type 0
Accepts S n given true = Given S n given
Accepts S n given false = n ≤ 8 → after given (drill_terms S n) ≡ none
