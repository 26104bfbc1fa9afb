-- What a public run lists can be asked for a mean (document 02, U10): of whatever words are passed, as long as the run's result meets what its contract
-- ensures (its reading `Post`), the answers at the start of the answer list are as check 17 wants them, with the returned number and the number of the
-- query's variables. So where there is an answer, a column that there is is refused only with 18.
use Prim.Native.Nat.{ℕ, ◌≤◌, ◌<◌}
use mathlib.Core.Path.{◌≡◌}
use mathlib.Core.List.{List}
use lib.ListN.{length}
use contract.Lifetimes.{Lfts}
use denote.Triple.Clauses.{AtExit}
use borrow.Fn.World.{ArgsD}
use Rattle.rules.specs.Syntax.{Literal, Deck}
use Rattle.rules.specs.Refusals.{not_number, accepted, and_then, obtain}
use Rattle.rules.specs.Decks.{open_deck, read_query}
use Rattle.rules.specs.Goals.{query_variables}
use Rattle.rules.specs.Run.{Slices}
use Rattle.rules.specs.Column.{column_words, total, mean, column}
use Rattle.rules.proofs.ColumnRuns.{Listed, run-answers, on-answers, run-column}
use Rattle.report.specs.Reports.{report_of}
use Rattle.report.specs.declared.Report.{Report}
use Rattle.evaluation.specs.Results.{slices}
use Rattle.std.specs.Prelude.{Ok}
use Rattle.evaluation.specs.contracts.run.{signature, ended}
use Rattle.evaluation.proofs.run.Reads.{Post}
use Rattle.evaluation.specs.contracts.carry.carry_on as on
use Rattle.evaluation.proofs.carry.carry_on.Reads as on-reads
use Rattle.evaluation.proofs.PublicRun.{left_in}
use Rattle.evaluation.proofs.PublicCarry.{lent_on, left_on}

module _ (κs : Lfts 6) (entry : ArgsD signature κs) (exit : AtExit ended κs) (r : Report) (post : Post κs entry (Ok r) exit) where
  -- The words of the slices that were lent.
  abbrev lent : Slices
  lent = slices entry.1.1.1.1.0.now entry.1.1.1.1.1.0.now entry.1.1.1.1.1.1.0.now

  pub public-listed :
      (deck : Deck) × (query : List Literal) × (open_deck entry.0.now ≡ accepted deck) × (read_query deck entry.1.0.now ≡ accepted query)
      × Listed entry.0.now (length (query_variables query)) (report_of r) (left_in κs exit)
  public-listed = run-answers entry.0.now entry.1.0.now entry.1.1.0.now entry.1.1.1.0 lent (left_in κs exit) (report_of r) post

  pub public-column :
      (place : ℕ) → 1 ≤ r.answers → r.answers ≤ 65535 → let l = public-listed in place < length (query_variables l.1)
      → column entry.0.now (left_in κs exit).answers r.answers (length (query_variables l.1)) place
      ≡ and_then (obtain not_number (column_words l.4.deck.format place l.4.answers)) (λ words. accepted (mean r.answers (total words)))
  public-column place least most inside =
      let l = public-listed in
      run-column entry.0.now (length (query_variables l.1)) (report_of r) (left_in κs exit) l.4 place least most inside

-- The same of a run that carries on, with the number of answer terms that it was given.
module _ (κs : Lfts 5) (entry : ArgsD on.signature κs) (exit : AtExit on.ended κs) (r : Report) (post : on-reads.Post κs entry (Ok r) exit) where
  pub public-on-listed : Listed entry.0.now entry.1.1.1.0 (report_of r) (left_on κs exit)
  public-on-listed = on-answers entry.0.now entry.1.0 entry.1.1.0 entry.1.1.1.0 entry.1.1.1.1.0.now entry.1.1.1.1.1.0 (lent_on κs entry) (left_on κs exit) (report_of r) post
