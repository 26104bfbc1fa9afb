-- How goals live in the store while a run is under way: the pending goals as the mirror image of their words, so that the first goal
-- stands at the end of the words held.
use Rattle.std.specs.Prelude.{ℕ, ◌+◌, ◌-◌, ◌≤◌, ◌≡◌, List, [], ◌∷◌, ◌++◌, reverse, length, get_or, take, drop}
use Rattle.rules.specs.Terms.{Terms, nil}
use Rattle.rules.specs.Syntax.{Symbol, pos, Deck, Goal}
use Rattle.rules.specs.Refusals.{accepted}
use Rattle.rules.specs.Decks.{open_deck}
use Rattle.rules.specs.Goals.{Mark, floundered, undecided, oversized, deep, unmarked, write_goals}
use Rattle.rules.specs.WellFormed.{All, WfGoal}
use Rattle.goals.specs.declared.Mark as declared
use Rattle.goals.specs.declared.Mark.TheVariants as marks

-- The first `held` words of the store hold the goals gs.
pub record Holding (S : List Symbol) (store : List ℕ) (held : ℕ) (gs : List Goal) : Type 0 where
  pub inside : held ≤ length store
  pub well_formed : All (WfGoal S) gs
  pub words : take held store ≡ reverse (write_goals (unmarked gs))

-- There are an opened deck and goals held over its symbols: for a `requires`, which cannot quantify over what the rules have.
pub record SomeHolding (deck_words store : List ℕ) (held : ℕ) : Type 0 where
  pub deck : Deck
  pub goals : List Goal
  pub opens : open_deck deck_words ≡ accepted deck
  pub holding : Holding deck.symbols store held goals

-- The same with one goal at least: for a `requires`, which cannot quantify over what the rules have.
pub record SomeFirst (deck_words store : List ℕ) (held : ℕ) : Type 0 where
  pub deck : Deck
  pub first : Goal
  pub goals : List Goal
  pub opens : open_deck deck_words ≡ accepted deck
  pub holding : Holding deck.symbols store held (first ∷ goals)

-- The words held after those from s up to e of the first goal's cells are taken out of it.
abbrev pub words_without : List ℕ → ℕ → ℕ → ℕ → List ℕ
words_without store held s e =
    reverse ((get_or store (held - 1) 0 - (e - s)) ∷ (take (s + 1) (drop 1 (reverse (take held store))) ++ drop (e + 2) (reverse (take held store))))

-- The new level's goal for the atom p(ts).
abbrev pub atom_goal : ℕ → Terms → Goal
atom_goal p ts = record { answer_terms = nil; literals = pos p ts ∷ [] }

-- The marks of the code as those of the rules.
abbrev pub mark_of : declared.Mark → Mark
mark_of marks.Floundered = floundered
mark_of marks.Undecided = undecided
mark_of marks.Oversized = oversized
mark_of marks.Deep = deep
