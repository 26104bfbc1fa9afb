-- What the contract of `preview` says (document 02, U11). Of whatever words are passed, and whatever report and words come back, as long as they meet
-- what the contract ensures (its reading `Post`): it is a run on the lengthened copy. So demand 3 holds of it, no goal flounders and no answer has a
-- variable, no level goes deeper than the copy's levels allow, and closed sites stay closed, each with the copy as the deck, which is the deck with the clause at its end.
use Prim.Native.Nat.{ℕ, ◌+◌, ◌≤◌}
use mathlib.Core.Path.{◌≡◌}
use mathlib.Core.Bool.{true}
use mathlib.Core.List.{List}
use mathlib.Core.Option.{some}
use lib.ListN.{length}
use contract.Lifetimes.{Lfts}
use denote.Triple.Clauses.{AtExit}
use borrow.Fn.World.{ArgsD}
use Rattle.rules.specs.Syntax.{Literal, Clause, Deck}
use Rattle.rules.specs.Refusals.{accepted}
use Rattle.rules.specs.Decks.{open_deck, read_query}
use Rattle.rules.specs.Goals.{Marked, read_goals}
use Rattle.rules.specs.Loose.{tight_clauses}
use Rattle.rules.specs.Rights.{SameClauses}
use Rattle.rules.specs.WellFormed.{All}
use Rattle.rules.specs.Evaluation.{Level, Place, Account}
use Rattle.rules.specs.Passes.{FreshPasses}
use Rattle.rules.specs.Ranks.{given, Levelled}
use Rattle.rules.specs.Run.{Slices, Ran}
use Rattle.rules.specs.Preview.{lengthened, open_copy, preview_on, with_clause}
use Rattle.rules.specs.ThreeValues.{ExcludedMiddle}
use Rattle.rules.specs.Demand.{Valued, Known, Said, Demand3}
use Rattle.rules.proofs.Demand3.{ran-spends, demand-3, demand-3-valued, demand-3-known}
use Rattle.rules.proofs.TightLaws.{Unfloundered, Closed}
use Rattle.rules.proofs.TightRuns.{ran-never-flounders, ran-unfloundered, ran-closed}
use Rattle.rules.proofs.RankRuns.{Bounded, ran-bounded}
use Rattle.rules.proofs.CopyLaws.{Addable}
use Rattle.rules.proofs.PreviewRuns.{preview-ran, preview-deck, preview-same}
use Rattle.deck.specs.declared.Refusal.{Refusal}
use Rattle.report.specs.Reports.{report_of}
use Rattle.report.specs.declared.Report.{Report}
use Rattle.evaluation.specs.Results.{result_of, slices}
use Rattle.std.specs.Prelude.{Result, Ok}
use Rattle.evaluation.specs.contracts.preview.preview.{signature, ended}
use Rattle.evaluation.proofs.preview.preview.Reads.{Post}
use Rattle.evaluation.proofs.PublicRights.{SameGot, gives-same}

-- The words of the slices that were lent, and as the preview leaves them.
abbrev pub lent_to : (κs : Lfts 7) → ArgsD signature κs → Slices
lent_to κs entry = slices entry.1.1.1.1.1.0.now entry.1.1.1.1.1.1.0.now entry.1.1.1.1.1.1.1.0.now

abbrev pub left_by : (κs : Lfts 7) → AtExit ended κs → Slices
left_by κs exit = slices exit.1.1.1.1.1.0.now exit.1.1.1.1.1.1.0.now exit.1.1.1.1.1.1.1.0.now

module _ (κs : Lfts 7) (entry : ArgsD signature κs) (exit : AtExit ended κs) (r : Report) (post : Post κs entry (Ok r) exit) where
  -- The deck's words with the clause at their end.
  abbrev copy : List ℕ
  copy = lengthened entry.0.now entry.1.0.now

  -- A RUN ON THE COPY,
  pub public-ran : Ran copy entry.1.1.0.now entry.1.1.1.0.now entry.1.1.1.1.0 (lent_to κs entry) (accepted (report_of r)) (left_by κs exit)
  public-ran = preview-ran entry.0.now entry.1.0.now entry.1.1.0.now entry.1.1.1.0.now entry.1.1.1.1.0 (lent_to κs entry) (left_by κs exit) (report_of r) post

  -- which opens as the deck with the clause at its end.
  pub public-deck : (d d' : Deck) → open_deck entry.0.now ≡ accepted d → open_deck copy ≡ accepted d'
      → (c : Clause) × Addable (length entry.0.now) d entry.1.0.now c × (d' ≡ with_clause d c)
  public-deck = preview-deck entry.0.now entry.1.0.now

  -- No more steps than their cost, and a cost of at most the budget.
  pub public-spends : (r.steps ≤ r.cost) × (r.cost ≤ entry.1.1.1.1.0)
  public-spends = ran-spends copy entry.1.1.0.now entry.1.1.1.0.now entry.1.1.1.1.0 (lent_to κs entry) (left_by κs exit) (report_of r) public-ran

  -- DEMAND 3, with the copy as the deck; in three values, by excluded middle; and what needs none.
  pub public-demand-3 : Demand3 copy entry.1.1.0.now (report_of r) (left_by κs exit)
  public-demand-3 = demand-3 copy entry.1.1.0.now entry.1.1.1.0.now entry.1.1.1.1.0 (lent_to κs entry) (left_by κs exit) (report_of r) public-ran

  pub public-valued : ExcludedMiddle → Said Valued copy entry.1.1.0.now (report_of r) (left_by κs exit)
  public-valued em = demand-3-valued em copy entry.1.1.0.now entry.1.1.1.0.now entry.1.1.1.1.0 (lent_to κs entry) (left_by κs exit) (report_of r) public-ran

  pub public-known : Said Known copy entry.1.1.0.now (report_of r) (left_by κs exit)
  public-known = demand-3-known copy entry.1.1.0.now entry.1.1.1.0.now entry.1.1.1.1.0 (lent_to κs entry) (left_by κs exit) (report_of r) public-ran

  -- NEVER MARK 1 on any level, nor in the store; and no answer has a variable.
  pub public-never-flounders : (deck : Deck) → open_deck copy ≡ accepted deck → (query : List Literal) → read_query deck entry.1.1.0.now ≡ accepted query
      → (below : ℕ) (at : Place) (l : Level) (a : Account)
      → FreshPasses deck (length (lent_to κs entry).answers) (length (lent_to κs entry).store) query entry.1.1.1.1.0 below at l a → All Unfloundered l.parked
  public-never-flounders = ran-never-flounders copy entry.1.1.0.now entry.1.1.1.0.now entry.1.1.1.1.0 (lent_to κs entry) (left_by κs exit) (report_of r) public-ran

  pub public-unfloundered : (deck : Deck) → open_deck copy ≡ accepted deck
      → (left_open : List Marked) → read_goals deck.symbols (r.pending + r.parked) (left_by κs exit).store ≡ some left_open → All Unfloundered left_open
  public-unfloundered = ran-unfloundered copy entry.1.1.0.now entry.1.1.1.0.now entry.1.1.1.1.0 (lent_to κs entry) (left_by κs exit) (report_of r) public-ran

  pub public-closed : (deck : Deck) → open_deck copy ≡ accepted deck
      → (listed : List Marked) → read_goals deck.symbols r.answers (left_by κs exit).answers ≡ some listed → All (λ m. Closed m.goal) listed
  public-closed = ran-closed copy entry.1.1.0.now entry.1.1.1.0.now entry.1.1.1.1.0 (lent_to κs entry) (left_by κs exit) (report_of r) public-ran

  -- NO DEEPER LEVEL, whatever levels are given for the copy.
  pub public-bounded : (old levels : List ℕ) → Levelled copy old (accepted given) levels
      → Bounded copy entry.1.1.0.now entry.1.1.1.1.0 (length (lent_to κs entry).answers) (length (lent_to κs entry).store) (report_of r) levels
  public-bounded = ran-bounded copy entry.1.1.0.now entry.1.1.1.0.now entry.1.1.1.1.0 (lent_to κs entry) (left_by κs exit) (report_of r) public-ran

-- CLOSED SITES: previews over two decks, with the same query, list, budget and buffer sizes.
module _ (κs λs : Lfts 7) (entry : ArgsD signature κs) (other : ArgsD signature λs) (exit : AtExit ended κs) (other_exit : AtExit ended λs)
    (result other_result : Result Report Refusal) (post : Post κs entry result exit) (other_post : Post λs other other_result other_exit) where
  pub public-preview-same : (d e : Deck) → open_copy entry.0.now entry.1.0.now ≡ accepted d → open_copy other.0.now other.1.0.now ≡ accepted e
      → tight_clauses d.clauses ≡ true → tight_clauses e.clauses ≡ true → d.symbols ≡ e.symbols
      → other.1.1.0.now ≡ entry.1.1.0.now → other.1.1.1.0.now ≡ entry.1.1.1.0.now → other.1.1.1.1.0 ≡ entry.1.1.1.1.0
      → length (lent_to λs other).answers ≡ length (lent_to κs entry).answers → length (lent_to λs other).store ≡ length (lent_to κs entry).store
      → length (lent_to λs other).scratch ≡ length (lent_to κs entry).scratch
      → ((query : List Literal) → read_query d entry.1.1.0.now ≡ accepted query → SameClauses d.clauses e.clauses entry.1.1.1.0.now query)
      → SameGot (result_of result) (result_of other_result) (left_by κs exit) (left_by λs other_exit)
  unfolding preview_on
  public-preview-same d e o p t u s query bars budget answers store scratch h =
      let q = preview-same entry.0.now entry.1.0.now other.0.now other.1.0.now entry.1.1.0.now entry.1.1.1.0.now d e o p t u s h entry.1.1.1.1.0
      (length (lent_to κs entry).answers) (length (lent_to κs entry).store) (length (lent_to κs entry).scratch) in
      gives-same _ _ _ (left_by κs exit) (left_by λs other_exit) (result_of result) (result_of other_result) post (rw (query, bars, budget, answers, store, scratch, ← q) at other_post)
