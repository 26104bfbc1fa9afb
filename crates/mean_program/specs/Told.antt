-- What the code has of a run and a column's mean that were not refused.
use Rattle.std.specs.Prelude.{◌≡◌, ◌<◌, ◌≤◌, Result, Ok, Err}
use Rattle.std.specs.Int.RustNames.{unsigned_abs}
use Rattle.rules.specs.Refusals.{Checked, refused, accepted}
use Rattle.rules.specs.Run as run
use Rattle.deck.specs.declared.Refusal.{Refusal}
use Rattle.deck.specs.Answers.{refusal_for}
use Rattle.report.specs.Reports.{report_of}
use Rattle.means.specs.Means.{as_mean}
use Rattle.mean_program.specs.declared.Told.{Told}
use Rattle.mean_program.specs.MeanProgram.{MeanRun}

-- The report and the mean are those of a run, and all numbers are short.
pub record ToldOf (r : MeanRun) (t : Told) : Type 0 where
  pub reported : report_of t.report ≡ run.report r.outcome
  pub mean : as_mean t.mean ≡ r.mean
  pub some : 1 ≤ t.report.answers
  pub few : t.report.answers < 65536
  pub sum : unsigned_abs t.mean.sum < 4294967296
  pub whole : unsigned_abs t.mean.whole < 4294967296
  pub remainder : t.mean.remainder < 65536

abbrev pub TellsMeanRun : Checked MeanRun → Result Told Refusal → Type 0
TellsMeanRun c (Ok t) = (r : MeanRun) × (c ≡ accepted r) × ToldOf r t
TellsMeanRun c (Err why) = c ≡ refused (refusal_for why)
