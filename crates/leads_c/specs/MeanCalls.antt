-- What the call for a column's mean promises: the rules' result, in the three numbers that are left behind the pointers.
use Rattle.std.specs.Prelude.{ℕ, ℤ, ◌≡◌, List}
use Rattle.rules.specs.Refusals.{refusal_number, Checked, refused, accepted}
use Rattle.rules.specs.Column.{Mean, column}

-- A refusal returns its number and leaves the numbers as they were; else 0 is returned, and they are the mean's.
abbrev pub TellsMean : Checked Mean → Mean → ℕ → Mean → Type 0
TellsMean (refused n) before r after = (r ≡ refusal_number n) × (after ≡ before)
TellsMean (accepted m) before r after = (r ≡ 0) × (after ≡ m)

abbrev pub mean_of : ℤ → ℤ → ℕ → Mean
mean_of sum whole remainder = record { sum = sum; whole = whole; remainder = remainder }

abbrev pub MeanCalled : List ℕ → List ℕ → ℕ → ℕ → ℕ → Mean → ℕ → Mean → Type 0
MeanCalled deck list count terms place before r after = TellsMean (column deck list count terms place) before r after
