-- The numbers behind the pointers, after a refusal and after a run.
use Rattle.std.proofs.Common.{◌≡◌, ℕ, Result, Ok, Err, refl, sym, subst}
use Rattle.rules.specs.Evaluation.{stop_number}
use Rattle.rules.specs.Refusals.{refusal_number}
use Rattle.report.specs.Reports.{stop_of}
use Rattle.report.specs.declared.Report.{Report}
use Rattle.deck.specs.Answers.{refusal_for}
use Rattle.deck.specs.declared.Refusal.{Refusal}
use Rattle.evaluation.specs.Results.{result_of}
use Rattle.leads_c.specs.Calls.{Numbers, numbers, TellsRun}

pub tells-refused : (r : Result Report Refusal) (why : Refusal) (n : ℕ) (before : Numbers) → r ≡ Err why → n ≡ refusal_number (refusal_for why) → TellsRun (result_of r) before n before
tells-refused r why n before e f = subst (λ (x : Result Report Refusal). TellsRun (result_of x) before n before) (sym e) (f, refl)

pub tells-done : (r : Result Report Refusal) (report : Report) (stop : ℕ) (before : Numbers) → r ≡ Ok report → stop ≡ stop_number (stop_of report.stop)
    → TellsRun (result_of r) before 0 (numbers stop report.steps report.cost report.answers report.pending report.parked)
tells-done r report stop before e f =
    subst (λ (x : Result Report Refusal). TellsRun (result_of x) before 0 (numbers stop report.steps report.cost report.answers report.pending report.parked)) (sym e) (refl, rw f refl)
