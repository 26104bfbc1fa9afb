-- What the contract of `run` says on a deck with levels (document 02, U8). Of whatever words are passed, and whatever report and words come back, as
-- long as they meet what the contract ensures (its reading `Post`): where levels are given for the deck's words, the report comes from an evaluation
-- that opens no level deeper than the highest among the query's literals.
use Prim.Native.Nat.{ℕ}
use mathlib.Core.List.{List}
use lib.ListN.{length}
use contract.Lifetimes.{Lfts}
use denote.Triple.Clauses.{AtExit}
use borrow.Fn.World.{ArgsD}
use Rattle.rules.specs.Refusals.{accepted}
use Rattle.rules.specs.Run.{Slices}
use Rattle.rules.specs.Ranks.{given, Levelled}
use Rattle.rules.proofs.RankRuns.{Bounded, ran-bounded}
use Rattle.report.specs.Reports.{report_of}
use Rattle.report.specs.declared.Report.{Report}
use Rattle.evaluation.specs.Results.{slices}
use Rattle.std.specs.Prelude.{Ok}
use Rattle.evaluation.specs.contracts.run.{signature, ended}
use Rattle.evaluation.proofs.run.Reads.{Post}
use Rattle.evaluation.proofs.PublicRun.{left_in}

module _ (κs : Lfts 6) (entry : ArgsD signature κs) (exit : AtExit ended κs) (r : Report) (post : Post κs entry (Ok r) exit) where
  -- The words of the slices that were lent.
  abbrev lent : Slices
  lent = slices entry.1.1.1.1.0.now entry.1.1.1.1.1.0.now entry.1.1.1.1.1.1.0.now

  -- NO DEEPER LEVEL, whatever levels the call gives for the deck.
  pub public-bounded : (old levels : List ℕ) → Levelled entry.0.now old (accepted given) levels
      → Bounded entry.0.now entry.1.0.now entry.1.1.1.0 (length lent.answers) (length lent.store) (report_of r) levels
  public-bounded = ran-bounded entry.0.now entry.1.0.now entry.1.1.0.now entry.1.1.1.0 lent (left_in κs exit) (report_of r) post
