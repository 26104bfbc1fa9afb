-- What the call that lists drill terms promises: the rules' result, what is left of the lent list, and the number that is left behind the pointer.
use Rattle.std.specs.Prelude.{ℕ, ◌≡◌, List, length}
use Rattle.rules.specs.Refusals.{refusal_number, Checked, refused, accepted}
use Rattle.rules.specs.Drill.{drill, list_after}

-- A refusal returns its number and leaves the number as it was; else 0 is returned and the number is that of the terms.
abbrev pub TellsTerms : Checked (List (List ℕ)) → ℕ → ℕ → ℕ → Type 0
TellsTerms (refused n) before r number = (r ≡ refusal_number n) × (number ≡ before)
TellsTerms (accepted terms) before r number = (r ≡ 0) × (number ≡ length terms)

pub record DrillCalled (deck : List ℕ) (n : ℕ) (given list : List ℕ) (before r : ℕ) (exit : List ℕ) (number : ℕ) : Type 0 where
  pub tells : TellsTerms (drill deck n given (length list)) before r number
  pub leaves : exit ≡ list_after (drill deck n given (length list)) list
