-- What the contract of `carry_on` says about the completed deck, of whatever words are passed and whatever comes back, as long as it meets what the
-- contract ensures (its reading `Post`): demand 3 with the goals in the store in place of the query, in two values and in three; the next run is let
-- carry on from what is left; and of runs continued one from the other, after a fresh run or from a store filled by hand.
use Prim.Native.Nat.{ℕ, ◌+◌, ◌≤◌}
use mathlib.Core.Path.{◌≡◌, refl}
use mathlib.Core.List.{List, ◌++◌}
use mathlib.Core.Option.{some}
use lib.ListN.{length}
use contract.Lifetimes.{Lfts}
use denote.Triple.Clauses.{AtExit}
use borrow.Fn.World.{ArgsD}
use Rattle.rules.specs.Syntax.{Symbol, Literal, Deck}
use Rattle.rules.specs.Refusals.{accepted}
use Rattle.rules.specs.Decks.{open_deck, read_query}
use Rattle.rules.specs.Goals.{Marked, unmarked, query_variables, read_goals}
use Rattle.rules.specs.Run.{Slices}
use Rattle.rules.specs.ThreeValues.{ExcludedMiddle}
use Rattle.rules.specs.Demand.{Covered, Valued, Known, CoveredFrom, ValuedFrom, KnownFrom, SaidOn}
use Rattle.rules.proofs.StoredLaws.{open-reads, open-list}
use Rattle.rules.proofs.Carried.{CarriesOn, CarriedOn, goes_on, demand-on, demand-on-valued, demand-on-known, on-within, on-spends, carries-on, fresh-carries, carried-covers, query-carried, query-carried-values, query-carried-stays}
use Rattle.report.specs.Reports.{report_of}
use Rattle.report.specs.declared.Report.{Report}
use Rattle.evaluation.specs.Results.{slices}
use Rattle.std.specs.Prelude.{Ok}
use Rattle.evaluation.specs.contracts.run as fresh
use Rattle.evaluation.proofs.run.Reads as fresh-reads
use Rattle.evaluation.specs.contracts.carry.carry_on.{signature, ended}
use Rattle.evaluation.proofs.carry.carry_on.Reads.{Post}
use Rattle.evaluation.proofs.PublicRun.{left_in, public-demand-3, public-valued, public-known}

-- The words of the slices that were lent, and as the run leaves them.
abbrev pub lent_on : (κs : Lfts 5) → ArgsD signature κs → Slices
lent_on κs entry = slices entry.1.1.1.1.1.1.0.now entry.1.1.1.1.1.1.1.0.now entry.1.1.1.1.1.1.1.1.0.now

abbrev pub left_on : (κs : Lfts 5) → AtExit ended κs → Slices
left_on κs exit = slices exit.1.1.1.1.1.1.0.now exit.1.1.1.1.1.1.1.0.now exit.1.1.1.1.1.1.1.1.0.now

module _ (κs : Lfts 5) (entry : ArgsD signature κs) (exit : AtExit ended κs) (r : Report) (post : Post κs entry (Ok r) exit) where
  -- Such a statement of this run.
  abbrev pub SaidHere : (Deck → List Marked → List Marked → Type 1) → Type 1
  SaidHere Statement = SaidOn Statement entry.0.now entry.1.0 entry.1.1.0 entry.1.1.1.0 (lent_on κs entry) (report_of r) (left_on κs exit)

  -- DEMAND 3, with the goals that the store began with in place of the query
  pub public-demand-on : SaidHere CoveredFrom
  public-demand-on = demand-on entry.0.now entry.1.0 entry.1.1.0 entry.1.1.1.0 entry.1.1.1.1.0.now entry.1.1.1.1.1.0 (lent_on κs entry) (left_on κs exit) (report_of r) post

  -- IN THREE VALUES: by excluded middle, and what needs none.
  pub public-on-valued : ExcludedMiddle → SaidHere ValuedFrom
  public-on-valued em = demand-on-valued entry.0.now entry.1.0 entry.1.1.0 entry.1.1.1.0 entry.1.1.1.1.0.now entry.1.1.1.1.1.0 (lent_on κs entry) (left_on κs exit) (report_of r) post em

  pub public-on-known : SaidHere KnownFrom
  public-on-known = demand-on-known entry.0.now entry.1.0 entry.1.1.0 entry.1.1.1.0 entry.1.1.1.1.0.now entry.1.1.1.1.1.0 (lent_on κs entry) (left_on κs exit) (report_of r) post

  -- THE NEXT RUN is let carry on: with the counts that are returned and as many answer terms, over any store of an allowed size that begins with these goals.
  pub public-carries-on : CarriesOn entry.0.now entry.1.1.1.0 (report_of r) (left_on κs exit)
  public-carries-on = carries-on entry.0.now entry.1.0 entry.1.1.0 entry.1.1.1.0 entry.1.1.1.1.0.now entry.1.1.1.1.1.0 (lent_on κs entry) (left_on κs exit) (report_of r) post

  -- No more steps than their cost, and a cost of at most the budget; so no more steps than the budget.
  pub public-on-spends : (r.steps ≤ r.cost) × (r.cost ≤ entry.1.1.1.1.1.0)
  public-on-spends = on-spends entry.0.now entry.1.0 entry.1.1.0 entry.1.1.1.0 entry.1.1.1.1.0.now entry.1.1.1.1.1.0 (lent_on κs entry) (left_on κs exit) (report_of r) post

  pub public-on-steps-within : r.steps ≤ entry.1.1.1.1.1.0
  public-on-steps-within = on-within entry.0.now entry.1.0 entry.1.1.0 entry.1.1.1.0 entry.1.1.1.1.0.now entry.1.1.1.1.1.0 (lent_on κs entry) (left_on κs exit) (report_of r) post

  -- Runs continued from this one; the answers of all of the later ones, and the goals open after the last.
  module _ (symbols : List Symbol) {later left_open : List Marked}
      (rest : CarriedOn entry.0.now symbols entry.1.1.1.0 r.pending r.parked (left_on κs exit).store later left_open) where
    -- ONE LINK: this run, on a store that begins with the goals of `store_words`, and then the later ones.
    pub public-goes-on : {store_words : List ℕ} {listed : List Marked}
        → read_goals symbols (entry.1.0 + entry.1.1.0) (lent_on κs entry).store ≡ read_goals symbols (entry.1.0 + entry.1.1.0) store_words
        → read_goals symbols r.answers (left_on κs exit).answers ≡ some listed
        → CarriedOn entry.0.now symbols entry.1.1.1.0 entry.1.0 entry.1.1.0 store_words (listed ++ later) left_open
    public-goes-on w answers = goes_on entry.1.1.1.1.0.now entry.1.1.1.1.1.0 {exit = left_on κs exit} {r = report_of r} w post answers rest

  -- A STORE FILLED BY HAND: one of its goals covers a choice exactly when an answer of this run or of a later one does, or a goal open after the last.
  pub public-carried : {later left_open : List Marked}
      → CarriedOn entry.0.now public-demand-on.deck.symbols entry.1.1.1.0 r.pending r.parked (left_on κs exit).store later left_open
      → CoveredFrom public-demand-on.deck (unmarked public-demand-on.before.pending ++ public-demand-on.before.parked) ((public-demand-on.listed ++ later) ++ left_open)
  public-carried rest =
      let d = public-demand-on in
      let S : List Symbol = d.deck.symbols in
      carried-covers entry.0.now d.deck d.opens (public-goes-on S rest refl d.reads.answers) (unmarked d.before.pending ++ d.before.parked)
      (open-list S entry.1.0 entry.1.1.0 entry.1.1.1.0 (lent_on κs entry).store d.before (open-reads S entry.1.0 entry.1.1.0 entry.1.1.1.0 (lent_on κs entry).store d.before d.carries))

-- AFTER A FRESH RUN
module _ (κs : Lfts 6) (entry : ArgsD fresh.signature κs) (exit : AtExit fresh.ended κs) (r : Report) (post : fresh-reads.Post κs entry (Ok r) exit) where
  -- The first one is let carry on, with as many answer terms as the query has variables.
  pub public-fresh-carries : (deck : Deck) × (query : List Literal) × (open_deck entry.0.now ≡ accepted deck) × (read_query deck entry.1.0.now ≡ accepted query)
      × CarriesOn entry.0.now (length (query_variables query)) (report_of r) (left_in κs exit)
  public-fresh-carries =
      fresh-carries entry.0.now entry.1.0.now entry.1.1.0.now entry.1.1.1.0
      (slices entry.1.1.1.1.0.now entry.1.1.1.1.1.0.now entry.1.1.1.1.1.1.0.now) (left_in κs exit) (report_of r) post

  -- The query holds of a choice exactly when an answer of any of the runs, or a goal open after the last, covers it; and the same in three values.
  module _ (terms : ℕ) (later left_open : List Marked) where
    abbrev pub Later : Deck → Type 0
    Later deck = CarriedOn entry.0.now deck.symbols terms r.pending r.parked (left_in κs exit).store later left_open

    pub public-query-carried : let d = public-demand-3 κs entry exit r post in Later d.deck → Covered d.deck d.query d.listed (later ++ left_open)
    public-query-carried rest =
        let d = public-demand-3 κs entry exit r post in
        query-carried entry.0.now d.deck d.opens entry.1.0.now (report_of r) (left_in κs exit) rest d

    pub public-query-valued : (em : ExcludedMiddle) → let d = public-valued κs entry exit r post em in Later d.deck → Valued d.deck d.query d.listed (later ++ left_open)
    public-query-valued em rest =
        let d = public-valued κs entry exit r post em in
        query-carried-values entry.0.now d.deck d.opens entry.1.0.now (report_of r) (left_in κs exit) rest em d

    pub public-query-known : let d = public-known κs entry exit r post in Later d.deck → Known d.deck d.query d.listed (later ++ left_open)
    public-query-known rest =
        let d = public-known κs entry exit r post in
        query-carried-stays entry.0.now d.deck d.opens entry.1.0.now (report_of r) (left_in κs exit) rest d
