-- What the calls from C promise that run: the public runs' contracts, and the numbers that they leave behind the pointers.
use Rattle.std.specs.Prelude.{ℕ, ◌≡◌, List}
use Rattle.rules.specs.Refusals.{refusal_number, Checked, refused, accepted}
use Rattle.rules.specs.Evaluation.{Outcome, stop_number}
use Rattle.rules.specs.Run.{Report, Slices, Gives, run_on, carry_from}
use Rattle.rules.specs.Preview.{preview_on}

pub record Numbers : Type 0 where
  pub stop : ℕ
  pub steps : ℕ
  pub cost : ℕ
  pub answers : ℕ
  pub pending : ℕ
  pub parked : ℕ

abbrev pub numbers : ℕ → ℕ → ℕ → ℕ → ℕ → ℕ → Numbers
numbers stop steps cost answers pending parked = record { stop = stop; steps = steps; cost = cost; answers = answers; pending = pending; parked = parked }

abbrev pub numbers_of : Report → Numbers
numbers_of r = numbers (stop_number r.stop) r.steps r.cost r.answers r.pending r.parked

-- A refusal returns its number and leaves the numbers as they were; else 0 is returned and the numbers are the report's.
abbrev pub TellsRun : Checked Report → Numbers → ℕ → Numbers → Type 0
TellsRun (refused n) before r after = (r ≡ refusal_number n) × (after ≡ before)
TellsRun (accepted report) before r after = (r ≡ 0) × (after ≡ numbers_of report)

-- A call for what the checks and the evaluation come to.
pub record Calls (c : Checked Outcome) (entry : Slices) (before : Numbers) (r : ℕ) (exit : Slices) (after : Numbers) : Type 0 where
  pub result : Checked Report
  pub gives : Gives c entry result exit
  pub tells : TellsRun result before r after

-- The calls for a run, for one that carries on, and for a preview.
abbrev pub Called : List ℕ → List ℕ → List ℕ → ℕ → Slices → Numbers → ℕ → Slices → Numbers → Type 0
Called deck query bars budget entry = Calls (run_on deck query bars budget entry) entry

abbrev pub CalledOn : List ℕ → ℕ → ℕ → ℕ → List ℕ → ℕ → Slices → Numbers → ℕ → Slices → Numbers → Type 0
CalledOn deck pending parked terms bars budget entry = Calls (carry_from deck pending parked terms bars budget entry) entry

abbrev pub PreviewCalled : List ℕ → List ℕ → List ℕ → List ℕ → ℕ → Slices → Numbers → ℕ → Slices → Numbers → Type 0
PreviewCalled deck clause query bars budget entry = Calls (preview_on deck clause query bars budget entry) entry
