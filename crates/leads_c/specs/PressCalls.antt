-- What the call that presses promises: the contract of the press with a display, and the number that it leaves behind the pointer.
use Rattle.std.specs.Prelude.{ℕ, ◌≡◌, List}
use Rattle.rules.specs.Refusals.{refusal_number, Checked, refused, accepted}
use Rattle.rules.specs.Evaluation.{stop_number}
use Rattle.rules.specs.Run.{Slices}
use Rattle.rules.specs.Press.{Advance, stepped, prevented, Display, PressedWith}

-- The number of what a press came to: 4 for a step that was taken, or the stop's.
abbrev pub outcome_number : Advance → ℕ
outcome_number stepped = 4
outcome_number (prevented s) = stop_number s

-- The record, of the numbers behind the pointers.
abbrev pub record_of : ℕ → ℕ → ℕ → ℕ → ℕ → Display
record_of steps cost answers pending parked = record { steps = steps; cost = cost; answers = answers; pending = pending; parked = parked }

-- A refusal returns its number and leaves the outcome as it was; else 0 is returned and the outcome is that of the press.
abbrev pub TellsPress : Checked Advance → ℕ → ℕ → ℕ → Type 0
TellsPress (refused n) before r outcome = (r ≡ refusal_number n) × (outcome ≡ before)
TellsPress (accepted a) before r outcome = (r ≡ 0) × (outcome ≡ outcome_number a)

pub record PressCalled (deck : List ℕ) (terms : ℕ) (bars : List ℕ) (budget : ℕ) (entry : Slices) (shown : Display) (before r : ℕ) (exit : Slices) (shown' : Display) (outcome : ℕ) : Type 0 where
  pub result : Checked Advance
  pub presses : PressedWith deck terms bars budget entry shown result exit shown'
  pub tells : TellsPress result before r outcome
