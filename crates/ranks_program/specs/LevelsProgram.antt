-- What the program over levels prints for the bytes of its deck file (document 02, U8).
use Rattle.std.specs.Prelude.{ℕ, ◌≡◌, List, [], ◌∷◌, ◌++◌, length, Option, Some, None, Result, Ok, Err}
use Rattle.std.proofs.Math.Option as math
use Rattle.rules.specs.Refusals.{Refusal, Checked, refused, accepted}
use Rattle.rules.specs.Listing.{listing}
use Rattle.rules.specs.Program.{deck_file, bytes_from}
use Rattle.rules.specs.Ranks.{Levels, given, chained, Levelled}
use Rattle.deck.specs.declared.Refusal.{Refusal as Why}
use Rattle.deck.specs.Answers.{refusal_for}
use Rattle.listing.specs.Printed.{Printed}

-- The words before the numbers: 0 and 0, or 1 and the predicate that is named.
abbrev pub front : Option ℕ → List ℕ
front None = 0 ∷ 0 ∷ []
front (Some p) = 1 ∷ p ∷ []

abbrev pub named_in : Levels → Option ℕ
named_in given = None
named_in (chained p) = Some p

-- A refusal is printed as in a listing; else those words and the numbers.
abbrev pub levels_prints : Checked Levels → List ℕ → List ℕ
levels_prints (refused n) numbers = listing (refused n)
levels_prints (accepted levels) numbers = bytes_from (front (named_in levels) ++ numbers)

-- The text of a deck file: a refusal of the file, or what the call for the deck's levels tells.
pub data LevelsText (file : math.Option (List ℕ)) : List ℕ → Type 0 where
  no_deck : {n : Refusal} → deck_file file ≡ refused n → LevelsText file (listing (refused n))
  shown : {words entry numbers : List ℕ} {r : Checked Levels} → deck_file file ≡ accepted words → length entry ≡ 4096 → Levelled words entry r numbers
      → LevelsText file (levels_prints r numbers)

pub record LevelsPrinted (file : math.Option (List ℕ)) (before : List ℕ) (n : ℕ) (after : List ℕ) : Type 0 where
  pub text : List ℕ
  pub of : LevelsText file text
  pub printed : Printed text before n after

-- The text is printed; or nothing yet, and the refusal is returned.
abbrev pub LevelsTold : math.Option (List ℕ) → List ℕ → Result ℕ Why → List ℕ → Type 0
LevelsTold file before (Ok n) after = LevelsPrinted file before n after
LevelsTold file before (Err why) after = LevelsText file (listing (refused (refusal_for why))) × (after ≡ before)
