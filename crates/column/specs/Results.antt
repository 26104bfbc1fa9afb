-- The result of the call as the rules'.
use Rattle.std.specs.Prelude.{ℕ, ◌≡◌, Bool, List, Result, Ok, Err}
use Rattle.rules.specs.Syntax.{Deck}
use Rattle.rules.specs.Refusals as rules
use Rattle.rules.specs.Decks.{open_deck}
use Rattle.rules.specs.Column.{Mean, read_answers}
use Rattle.deck.specs.Answers.{number_of, found}
use Rattle.deck.specs.declared.Refusal.{Refusal}
use Rattle.means.specs.declared.Mean as code
use Rattle.means.specs.Means.{as_mean}

-- A refusal with its number, or the sum and the mean.
abbrev pub Answers : rules.Checked Mean → Result code.Mean Refusal → Type 0
Answers (rules.refused n) (Err why) = number_of (Err why) ≡ rules.refusal_number n
Answers (rules.refused n) (Ok m) = ⊥
Answers (rules.accepted m) (Err why) = ⊥
Answers (rules.accepted m) (Ok r) = as_mean r ≡ m

-- Whether the list begins with so many answers of so many terms.
abbrev pub ListFits : List ℕ → List ℕ → ℕ → ℕ → Bool → Type 0
ListFits deck_words list n terms b = (d : Deck) → open_deck deck_words ≡ rules.accepted d → b ≡ found (read_answers d.symbols n terms list)
