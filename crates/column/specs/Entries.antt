-- What the walks over an answer list and over an answer's terms ask and promise.
use Rattle.std.specs.Prelude.{ℕ, ◌<◌, ◌≡◌, List, ◌++◌, length, ℤ, Option, Some, None}
use Rattle.std.proofs.Math.Option as rules
use Rattle.rules.specs.Terms.{Terms, count, sizes}
use Rattle.rules.specs.Syntax.{Deck, Goal}
use Rattle.rules.specs.Refusals.{accepted}
use Rattle.rules.specs.Decks.{symbol_words, open_deck}
use Rattle.rules.specs.Goals.{unmarked, write_goals}
use Rattle.rules.specs.WellFormed.{All}
use Rattle.rules.specs.Column.{column_words, total}
use Rattle.listing.specs.Standing.{TermsAt}
use Rattle.listing.specs.Shown.{AnswersAt}

-- The cells are those of terms, and there is one at the place.
pub record EntryAt (symbols cells : List ℕ) (ts : Terms) (place : ℕ) : Type 0 where
  pub terms : TermsAt symbols cells ts
  pub many : length cells ≡ sizes ts
  pub short : length cells < 65536
  pub inside : place < count ts

abbrev pub SomeEntry : List ℕ → List ℕ → ℕ → Type 0
SomeEntry deck_words cells place = (d : Deck) × (ts : Terms) × (open_deck deck_words ≡ accepted d) × EntryAt (symbol_words deck_words) cells ts place

-- The list begins with the words of goals.
pub record GoalsAt (list : List ℕ) (gs : List Goal) : Type 0 where
  pub rest : List ℕ
  pub written : list ≡ write_goals (unmarked gs) ++ rest

abbrev pub SomeGoals : List ℕ → ℕ → Type 0
SomeGoals list n = (gs : List Goal) × GoalsAt list gs × (length gs ≡ n)

-- It begins with answers, each of which has a term at the place.
pub record ColumnAt (symbols list : List ℕ) (gs : List Goal) (place : ℕ) : Type 0 where
  pub answers : AnswersAt symbols list gs
  pub inside : All (λ g. place < count g.answer_terms) gs

abbrev pub SomeAnswers : List ℕ → List ℕ → ℕ → ℕ → Type 0
SomeAnswers deck_words list n place = (d : Deck) × (gs : List Goal) × (open_deck deck_words ≡ accepted d) × ColumnAt (symbol_words deck_words) list gs place × (length gs ≡ n)

-- The sum of the words of a column.
abbrev pub Summed : rules.Option (List ℕ) → Option ℤ → Type 0
Summed rules.none r = r ≡ None
Summed (rules.some ws) r = r ≡ Some (total ws)

abbrev pub ColumnSummed : List ℕ → List ℕ → ℕ → ℕ → Option ℤ → Type 0
ColumnSummed deck_words list n place r =
    (d : Deck) (gs : List Goal) → open_deck deck_words ≡ accepted d → ColumnAt (symbol_words deck_words) list gs place → length gs ≡ n → Summed (column_words d.format place gs) r
