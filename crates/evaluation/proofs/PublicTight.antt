-- What the contract of `run` says about loose variables (document 02, U5). Of whatever words are passed, and whatever report and words come back, as
-- long as they meet what the contract ensures (its reading `Post`): no level that the run passes parks with mark 1, no goal that it leaves in the
-- store has that mark, and no answer in the answer list has a variable.
use Prim.Native.Nat.{ℕ, ◌+◌}
use mathlib.Core.Path.{◌≡◌}
use mathlib.Core.List.{List}
use mathlib.Core.Option.{some}
use lib.ListN.{length}
use contract.Lifetimes.{Lfts}
use denote.Triple.Clauses.{AtExit}
use borrow.Fn.World.{ArgsD}
use Rattle.rules.specs.Syntax.{Literal, Deck}
use Rattle.rules.specs.Refusals.{accepted}
use Rattle.rules.specs.Decks.{open_deck, read_query}
use Rattle.rules.specs.Goals.{Marked, read_goals}
use Rattle.rules.specs.WellFormed.{All}
use Rattle.rules.specs.Evaluation.{Level, Place, Account}
use Rattle.rules.specs.Passes.{FreshPasses}
use Rattle.rules.specs.Run.{Slices}
use Rattle.rules.proofs.TightLaws.{Unfloundered, Closed}
use Rattle.rules.proofs.TightRuns.{ran-never-flounders, ran-unfloundered, ran-closed}
use Rattle.report.specs.Reports.{report_of}
use Rattle.report.specs.declared.Report.{Report}
use Rattle.evaluation.specs.Results.{slices}
use Rattle.std.specs.Prelude.{Ok}
use Rattle.evaluation.specs.contracts.run.{signature, ended}
use Rattle.evaluation.proofs.run.Reads.{Post}
use Rattle.evaluation.proofs.PublicRun.{left_in}

module _ (κs : Lfts 6) (entry : ArgsD signature κs) (exit : AtExit ended κs) (r : Report) (post : Post κs entry (Ok r) exit) where
  -- The words of the slices that were lent.
  abbrev lent : Slices
  lent = slices entry.1.1.1.1.0.now entry.1.1.1.1.1.0.now entry.1.1.1.1.1.1.0.now

  -- NEVER MARK 1, on any level: whatever level the run passes, of the deck that was opened and the query that was read.
  pub public-never-flounders : (deck : Deck) → open_deck entry.0.now ≡ accepted deck → (query : List Literal) → read_query deck entry.1.0.now ≡ accepted query
      → (below : ℕ) (at : Place) (l : Level) (a : Account) → FreshPasses deck (length lent.answers) (length lent.store) query entry.1.1.1.0 below at l a
      → All Unfloundered l.parked
  public-never-flounders = ran-never-flounders entry.0.now entry.1.0.now entry.1.1.0.now entry.1.1.1.0 lent (left_in κs exit) (report_of r) post

  -- Nor has any goal that is read at the start of the store, as many as are returned.
  pub public-unfloundered : (deck : Deck) → open_deck entry.0.now ≡ accepted deck
      → (left_open : List Marked) → read_goals deck.symbols (r.pending + r.parked) (left_in κs exit).store ≡ some left_open → All Unfloundered left_open
  public-unfloundered = ran-unfloundered entry.0.now entry.1.0.now entry.1.1.0.now entry.1.1.1.0 lent (left_in κs exit) (report_of r) post

  -- NO ANSWER HAS A VARIABLE: whatever goals are read at the start of the answer list, as many as are returned.
  pub public-closed : (deck : Deck) → open_deck entry.0.now ≡ accepted deck
      → (listed : List Marked) → read_goals deck.symbols r.answers (left_in κs exit).answers ≡ some listed → All (λ m. Closed m.goal) listed
  public-closed = ran-closed entry.0.now entry.1.0.now entry.1.1.0.now entry.1.1.1.0 lent (left_in κs exit) (report_of r) post
