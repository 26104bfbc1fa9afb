-- What the contract of `run` says about the completed deck. Of whatever words are passed, and whatever report and words come back, as long as they
-- meet what the contract ensures (its reading `Post`), demand 3 holds, and its corollaries, in every interpretation, of two values and of three.
-- And the steps are at most the cost, and the cost at most the budget.
use Prim.Native.Nat.{◌+◌, ◌≤◌}
use mathlib.Core.Path.{◌≡◌}
use mathlib.Core.Logic.{◌↔◌}
use native.Mathlib.Omega.{arith}
use lib.ListN.{length}
use contract.Lifetimes.{Lfts}
use denote.Triple.Clauses.{AtExit}
use borrow.Fn.World.{ArgsD}
use Rattle.rules.specs.Goals.{query_variables}
use Rattle.rules.specs.Run.{Slices}
use Rattle.rules.specs.Meaning.{Inds, Interpretation, Satisfies, individuals, QueryHolds, SomeCovers}
use Rattle.rules.specs.ThreeValues.{◌≈◌, Interpretation3, Satisfies3, query_value, goals_value, ExcludedMiddle}
use Rattle.rules.specs.Demand.{Valued, Known, Said, Demand3}
use Rattle.rules.proofs.Demand3.{ran-spends, demand-3, all_listed, nothing_left, demand-3-valued, demand-3-known, all-listed-valued, nothing-left-false}
use Rattle.report.specs.Reports.{report_of}
use Rattle.report.specs.declared.Report.{Report}
use Rattle.evaluation.specs.Results.{slices}
use Rattle.std.specs.Prelude.{Ok}
use Rattle.evaluation.specs.contracts.run.{signature, ended}
use Rattle.evaluation.proofs.run.Reads.{Post}

-- The words of the slices that were lent, as the run leaves them.
abbrev pub left_in : (κs : Lfts 6) → AtExit ended κs → Slices
left_in κs exit = slices exit.1.1.1.1.0.now exit.1.1.1.1.1.0.now exit.1.1.1.1.1.1.0.now

module _ (κs : Lfts 6) (entry : ArgsD signature κs) (exit : AtExit ended κs) (r : Report) (post : Post κs entry (Ok r) exit) where
  -- No more steps than their cost, and a cost of at most the budget; so no more steps than the budget.
  pub public-spends : (r.steps ≤ r.cost) × (r.cost ≤ entry.1.1.1.0)
  public-spends =
      ran-spends entry.0.now entry.1.0.now entry.1.1.0.now entry.1.1.1.0
      (slices entry.1.1.1.1.0.now entry.1.1.1.1.1.0.now entry.1.1.1.1.1.1.0.now) (left_in κs exit) (report_of r) post

  pub public-steps-within : r.steps ≤ entry.1.1.1.0
  public-steps-within = omega (arith, public-spends)

  -- DEMAND 3 OF THE PUBLIC RUN
  pub public-demand-3 : Demand3 entry.0.now entry.1.0.now (report_of r) (left_in κs exit)
  public-demand-3 =
      demand-3 entry.0.now entry.1.0.now entry.1.1.0.now entry.1.1.1.0
      (slices entry.1.1.1.1.0.now entry.1.1.1.1.1.0.now entry.1.1.1.1.1.1.0.now) (left_in κs exit) (report_of r) post

  -- Where nothing is left open, the query holds exactly for the choices that a listed answer covers;
  pub public-all-listed : r.pending + r.parked ≡ 0 → (I : Interpretation) → Satisfies I public-demand-3.deck
      → (choice : Inds) → individuals choice ≡ length (query_variables public-demand-3.query)
      → QueryHolds I public-demand-3.query choice ↔ SomeCovers I choice public-demand-3.listed
  public-all-listed = all_listed public-demand-3

  -- and where nothing is listed either, it holds for no choice.
  pub public-nothing-left : r.answers ≡ 0 → r.pending + r.parked ≡ 0 → (I : Interpretation) → Satisfies I public-demand-3.deck
      → (choice : Inds) → individuals choice ≡ length (query_variables public-demand-3.query) → ¬ QueryHolds I public-demand-3.query choice
  public-nothing-left = nothing_left public-demand-3

  -- IN THREE VALUES: the query's value is the highest that an answer or an open goal gives, by excluded middle; and what needs none.
  pub public-valued : ExcludedMiddle → Said Valued entry.0.now entry.1.0.now (report_of r) (left_in κs exit)
  public-valued em =
      demand-3-valued em entry.0.now entry.1.0.now entry.1.1.0.now entry.1.1.1.0
      (slices entry.1.1.1.1.0.now entry.1.1.1.1.1.0.now entry.1.1.1.1.1.1.0.now) (left_in κs exit) (report_of r) post

  pub public-known : Said Known entry.0.now entry.1.0.now (report_of r) (left_in κs exit)
  public-known =
      demand-3-known entry.0.now entry.1.0.now entry.1.1.0.now entry.1.1.1.0
      (slices entry.1.1.1.1.0.now entry.1.1.1.1.1.0.now entry.1.1.1.1.1.1.0.now) (left_in κs exit) (report_of r) post

  -- Where nothing is left open, the listed answers give the query's value; and where nothing is listed either, it is false.
  module _ (em : ExcludedMiddle) where
    pub public-all-listed-valued : r.pending + r.parked ≡ 0 → (I : Interpretation3) → Satisfies3 I (public-valued em).deck
        → (choice : Inds) → individuals choice ≡ length (query_variables (public-valued em).query)
        → query_value I (public-valued em).query choice ≈ goals_value I choice (public-valued em).listed
    public-all-listed-valued = all-listed-valued (public-valued em)

    pub public-nothing-left-false : r.answers ≡ 0 → r.pending + r.parked ≡ 0 → (I : Interpretation3) → Satisfies3 I (public-valued em).deck
        → (choice : Inds) → individuals choice ≡ length (query_variables (public-valued em).query) → (query_value I (public-valued em).query choice).is_false
    public-nothing-left-false = nothing-left-false (public-valued em)
