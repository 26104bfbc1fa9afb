-- The predicates that the code has reached, each once, and the marks that say which they are.
use Rattle.std.specs.Prelude.{ℕ, suc, ◌<◌, ◌≡◌, ◌↔◌, Bool, true, false, List, [], ◌∷◌, length, get_or}
use mathlib.Core.List.{Memᴰ}
use Rattle.rules.specs.Syntax.{Symbol, Literal, Clause, Deck}
use Rattle.rules.specs.Refusals.{accepted}
use Rattle.rules.specs.Decks.{open_deck}
use Rattle.rules.specs.Goals.{Marked, member, write_goals}
use Rattle.rules.specs.WellFormed.{All, WfMarked}
use Rattle.rules.specs.Rights.{Reaches}

-- The number of marks.
unfoldable pub ones : List Bool → ℕ
ones [] = 0
ones (true ∷ ms) = suc (ones ms)
ones (false ∷ ms) = ones ms

-- There is a mark for each symbol number. The predicates of the list are marked, no others are, and there are as many marks as places in the list.
pub record Marks (marks : List Bool) (list : List ℕ) : Type 0 where
  pub size : length marks ≡ 4096
  pub marked : (q : ℕ) → q < 4096 → get_or marks q false ≡ member q list
  pub small : (q : ℕ) → member q list ≡ true → q < 4096
  pub many : ones marks ≡ length list

-- Each of them is one of so many symbols.
pub record Within (symbols : ℕ) (list : List ℕ) : Type 0 where
  pub each : (q : ℕ) → Memᴰ q list → q < symbols

-- They are those that the starting literals reach.
pub record AllReached (clauses : List Clause) (starts : List Literal) (list : List ℕ) : Type 0 where
  pub each : (q : ℕ) → Memᴰ q list ↔ Reaches clauses starts q

-- The words are those of the goals ms.
pub record AreGoals (S : List Symbol) (words : List ℕ) (ms : List Marked) : Type 0 where
  pub formed : All (WfMarked S) ms
  pub written : words ≡ write_goals ms

-- There are such goals: for a `requires`, which cannot quantify over what the rules have.
pub record SomeGoals (S : List Symbol) (words : List ℕ) : Type 0 where
  pub goals : List Marked
  pub are : AreGoals S words goals

-- The words are those of goals of the deck.
abbrev pub GoalsOf : List ℕ → List ℕ → Type 0
GoalsOf deck_words words = (d : Deck) → open_deck deck_words ≡ accepted d → SomeGoals d.symbols words
