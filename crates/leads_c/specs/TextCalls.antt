-- What the calls that read and write a deck as text promise: the public calls' contracts, and the numbers that they leave behind the pointers.
use Rattle.std.specs.Prelude.{ℕ, ◌≡◌, List, Result}
use Rattle.std.proofs.Math.Option.{Option, none, some}
use Rattle.rules.specs.Refusals.{refusal_number, Checked, refused, accepted}
use Rattle.text_rules.specs.Text.{bad_place}
use Rattle.reading.specs.declared.ReadError.{ReadError}
use Rattle.reading.specs.Reads.{result_of, DidRead}
use Rattle.writing.specs.Writes.{Wrote}

-- A refusal returns its number and leaves the number as it was; else 0 is returned and the number is the result.
abbrev pub TellsNumber : Checked ℕ → ℕ → ℕ → ℕ → Type 0
TellsNumber (refused n) before r after = (r ≡ refusal_number n) × (after ≡ before)
TellsNumber (accepted number) before r after = (r ≡ 0) × (after ≡ number)

-- The place of refusal 10, or the number as it was.
abbrev pub place_or : ℕ → Option ℕ → ℕ
place_or before none = before
place_or before (some place) = place

pub record ReadCalled (text deck : List ℕ) (words place r : ℕ) (deck_after : List ℕ) (words_after place_after : ℕ) : Type 0 where
  pub result : Result ℕ ReadError
  pub read : DidRead text deck result deck_after
  pub tells : TellsNumber (result_of result) words r words_after
  pub tells_place : place_after ≡ place_or place (bad_place text)

pub record WriteCalled (deck text : List ℕ) (before r : ℕ) (text_after : List ℕ) (after : ℕ) : Type 0 where
  pub result : Checked ℕ
  pub wrote : Wrote deck text result text_after
  pub tells : TellsNumber result before r after
