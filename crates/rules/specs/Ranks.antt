-- Which rules rest on which (document 02, U8): the levels (strata) of a stratification of the predicates. A predicate's level is called its rank
-- here, since `Level` is a level of the evaluation.
use Rattle.std.specs.Prelude.{ℕ, zero, suc, ◌+◌, ◌≤◌, ◌<◌, max, ◌≡◌}
use mathlib.Core.List.{List, [], ◌∷◌, ◌++◌, Memᴰ}
use Rattle.rules.specs.Syntax.{Literal, pos, neg, Clause, Deck, predicate_of}
use Rattle.rules.specs.Refusals.{Refusal, Checked, refused, accepted}
use Rattle.rules.specs.Decks.{open_deck}
use Rattle.rules.specs.Resolution.{clauses_about}

-- How often a literal is negated.
abbrev pub nots : Literal → ℕ
nots (pos p ts) = 0
nots (neg p ts) = 1

-- The greatest of a number that literals have, 0 for none.
abbrev pub greatest : (Literal → ℕ) → List Literal → ℕ
greatest number [] = 0
greatest number (l ∷ ls) = max (number l) (greatest number ls)

-- The highest rank among literals, a negated one counting one more than its predicate.
abbrev pub highest : (ℕ → ℕ) → List Literal → ℕ
highest rank ls = greatest (λ l. nots l + rank (predicate_of l)) ls

-- The literals that a predicate rests on: those in the bodies of the clauses about it.
abbrev pub bodies : List Clause → List Literal
bodies [] = []
bodies (c ∷ cs) = c.body ++ bodies cs

unfoldable pub rests_on : List Clause → ℕ → List Literal
rests_on clauses p = bodies (clauses_about p clauses)

-- A predicate's rank is at least that of each predicate in its bodies, and at least one more where that one is negated.
abbrev pub Ranked : List Clause → (ℕ → ℕ) → Type 0
Ranked clauses rank = (p : ℕ) → highest rank (rests_on clauses p) ≤ rank p

pub record Least (clauses : List Clause) (rank : ℕ → ℕ) : Type 0 where
  pub ranked : Ranked clauses rank
  pub least : (other : ℕ → ℕ) → Ranked clauses other → (p : ℕ) → rank p ≤ other p

-- A chain from one predicate to another, through so many "nots". It may pass a predicate twice.
pub data Chain (clauses : List Clause) : ℕ → ℕ → ℕ → Type 0 where
  stays : {p : ℕ} → Chain clauses p p 0
  goes : {p q n : ℕ} (l : Literal) → Memᴰ l (rests_on clauses p) → Chain clauses (predicate_of l) q n → Chain clauses p q (nots l + n)

-- The predicate is on a chain through a "not" back to itself.
abbrev pub Circular : List Clause → ℕ → Type 0
Circular clauses p = (n : ℕ) × Chain clauses p p (suc n)

-- What is told of a deck's clauses: the least ranks, or the lowest-numbered predicate on such a chain.
pub data Telling : Type 0 where
  ranks : (ℕ → ℕ) → Telling
  circular : ℕ → Telling

abbrev pub TellsLevels : List Clause → Telling → Type 0
TellsLevels clauses (ranks rank) = Least clauses rank
TellsLevels clauses (circular p) = Circular clauses p × ((q : ℕ) → q < p → Circular clauses q → ⊥)

-- The numbers by symbol, here of the first n: all 0 where there are no ranks.
abbrev pub rank_of : Telling → ℕ → ℕ
rank_of (ranks rank) p = rank p
rank_of (circular q) p = 0

unfoldable pub numbers : Telling → ℕ → List ℕ
numbers t zero = []
numbers t (suc n) = numbers t n ++ (rank_of t n ∷ [])

-- THE CALL. What it answers: the levels are given, or the predicate is named; as a number 0, or 1 more than the predicate's.
pub data Levels : Type 0 where
  given : Levels
  chained : ℕ → Levels

abbrev pub levels_number : Levels → ℕ
levels_number given = 0
levels_number (chained p) = suc p

abbrev pub levels_of : Telling → Levels
levels_of (ranks rank) = given
levels_of (circular p) = chained p

-- What it returns and leaves in the lent list: refusals 1 to 5, which touch nothing; or what is told of the deck's clauses, and the 4,096 numbers.
-- There is always just one such answer (`levels-some`, `levels-same`).
pub data Levelled (deck_words entry : List ℕ) : Checked Levels → List ℕ → Type 0 where
  turned_down : {n : Refusal} → open_deck deck_words ≡ refused n → Levelled deck_words entry (refused n) entry
  told : {deck : Deck} (t : Telling) → open_deck deck_words ≡ accepted deck → TellsLevels deck.clauses t → Levelled deck_words entry (accepted (levels_of t)) (numbers t 4096)
