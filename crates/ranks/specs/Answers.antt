-- What the call answers (document 02, U8).
use Rattle.std.specs.Prelude.{◌≡◌, ℕ, List, ◌++◌, length, take, drop, Result, Ok, Err, Option, Some, None}
use Rattle.rules.specs.Refusals.{Checked, refused, accepted}
use Rattle.rules.specs.Ranks.{Levels, given, chained, Levelled}
use Rattle.deck.specs.declared.Refusal.{Refusal}
use Rattle.deck.specs.Answers.{refusal_for}

abbrev pub levels_told : Option ℕ → Levels
levels_told None = given
levels_told (Some p) = chained p

abbrev pub answered : Result (Option ℕ) Refusal → Checked Levels
answered (Err why) = refused (refusal_for why)
answered (Ok named) = accepted (levels_told named)

-- A list with numbers written from its start on, as many as it has room for.
abbrev pub written : List ℕ → List ℕ → List ℕ
written ns old = take (length old) ns ++ drop (length ns) old

-- The lent list may have any length. Of a deck that opens it gets as many of the 4,096 numbers as it has room for; a refusal leaves it as it was.
pub record Answers (deck_words : List ℕ) (answer : Result (Option ℕ) Refusal) (old new : List ℕ) : Type 0 where
  pub numbers : List ℕ
  pub levelled : Levelled deck_words old (answered answer) numbers
  pub list : new ≡ written numbers old
