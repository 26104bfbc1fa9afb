-- What U5 says of accepted runs: no level that a fresh run passes parks with mark 1, and none of its answers has a variable; about the outcome,
-- and about the words that the run leaves.
use Prim.Native.Nat.{ℕ, ◌+◌}
use mathlib.Core.Path.{◌≡◌, refl, sym, ◌∙◌, subst}
use mathlib.Core.Option.{some, some-injective}
use mathlib.Core.List.{List, [], ◌∷◌, ◌++◌}
use native.Mathlib.Omega.{arith}
use lib.ListN.{length}
use Rattle.rules.specs.Syntax.{Literal, Goal, Deck}
use Rattle.rules.specs.Refusals.{Checked, refused, accepted}
use Rattle.rules.specs.Decks.{open_deck, read_query}
use Rattle.rules.specs.Goals.{Marked, unmarked, read_goals, first_goal}
use Rattle.rules.specs.Evaluation.{Level, Place, Account, zeroth, Outcome}
use Rattle.rules.specs.Run.{Report, report, returned, Slices, Leaves, run_on, Ran}
use Rattle.rules.specs.WellFormed.{All}
use Rattle.rules.specs.Passes.{FreshPasses}
use Rattle.rules.specs.Demand.{Read}
use Rattle.rules.proofs.ListLaws.{all_append, unmarked-all}
use Rattle.rules.proofs.DeckLaws.{opened-written, query-reads}
use Rattle.rules.proofs.FirstGoal.{first_goal-wf}
use Rattle.rules.proofs.Keeps.{OutcomeHas}
use Rattle.rules.proofs.GoalsKept.{WellFormed, evaluate-keeps}
use Rattle.rules.proofs.EndLaws.{Bare, answers-bare}
use Rattle.rules.proofs.Demand3.{Accepted, run-accepted, left-read}
use Rattle.rules.proofs.PassLaws.{fresh-end}
use Rattle.rules.proofs.TightLaws.{Unfloundered, Closed, never-flounders, answers-closed}

-- Of an accepted outcome.
module _ {deck_words query_words : List ℕ} {budget answer_room store_size : ℕ} {o : Outcome} (a : Accepted deck_words query_words budget answer_room store_size o) where
  pub accepted-never-flounders : (below : ℕ) (at : Place) (l : Level) (left : Account)
      → FreshPasses a.deck answer_room store_size a.query budget below at l left → All Unfloundered l.parked
  accepted-never-flounders = never-flounders a.deck a.query a.tight_deck a.tight_asked answer_room store_size budget

  pub accepted-unfloundered : All Unfloundered o.parked
  accepted-unfloundered = subst (λ (x : Outcome). All Unfloundered x.parked) (sym a.evaluates)
      (fresh-end (λ ps ks us. All Unfloundered ks) a.deck answer_room store_size a.query budget (accepted-never-flounders 32 zeroth))

  pub accepted-closed : All Closed o.answers
  accepted-closed = subst (λ (x : Outcome). All Closed x.answers) (sym a.evaluates)
      (answers-closed a.deck a.query a.tight_deck a.tight_asked answer_room store_size budget)

  -- Whatever deck was opened and query was read, they are those of the outcome.
  pub passed-unfloundered : (deck : Deck) → open_deck deck_words ≡ accepted deck → (query : List Literal) → read_query deck query_words ≡ accepted query
      → (below : ℕ) (at : Place) (l : Level) (left : Account) → FreshPasses deck answer_room store_size query budget below at l left → All Unfloundered l.parked
  passed-unfloundered deck opens query asks below at l left p =
      let d : deck ≡ a.deck = let x = a.opens in cc in
      let r : read_query a.deck query_words ≡ accepted query = subst (λ (x : Deck). read_query x query_words ≡ accepted query) d asks in
      let q : query ≡ a.query = let x = a.asks in cc in
      accepted-never-flounders below at l left
      (subst (λ (x : List Literal). FreshPasses a.deck answer_room store_size x budget below at l left) q
      (subst (λ (x : Deck). FreshPasses x answer_room store_size query budget below at l left) d p))

-- About the words that a run leaves: they are read as the goals of an accepted outcome.
record LeftBy (deck_words query_words : List ℕ) (budget : ℕ) (entry exit : Slices) (r : Report) : Type 0 where
  ends : Outcome
  is : Accepted deck_words query_words budget (length entry.answers) (length entry.store) ends
  reads : Read is.deck r exit (unmarked ends.answers) (unmarked ends.pending ++ ends.parked)

pending-unfloundered : (gs : List Goal) → All Unfloundered (unmarked gs)
pending-unfloundered [] = tt
pending-unfloundered (g ∷ gs) = (λ e. let z : ◌≡◌ {A = ℕ} 0 1 = cc in omega arith, pending-unfloundered gs)

module _ (deck_words query_words bars : List ℕ) (budget : ℕ) (entry exit : Slices) (r : Report) (ran : Ran deck_words query_words bars budget entry (accepted r) exit) where
  ran-left : LeftBy deck_words query_words budget entry exit r
  unfolding Leaves returned run_on
  ran-left = go (run_on deck_words query_words bars budget entry) refl ran.returns ran.leaves
    where
      go : (c : Checked Outcome) → run_on deck_words query_words bars budget entry ≡ c → accepted r ≡ returned c → Leaves c entry exit → LeftBy deck_words query_words budget entry exit r
      go (refused n) e back left = absurd (let z : ◌≡◌ {A = ℕ} 0 1 = cc in omega arith)
      go (accepted o) e back left =
          let a = run-accepted deck_words query_words bars budget (length entry.answers) (length entry.store) (length entry.scratch) o e in
          let same : report o ≡ r = cc in
          let wf = (opened-written deck_words a.deck a.opens).1 in
          let first = first_goal-wf a.deck.symbols a.query (query-reads a.deck query_words a.query a.asks).1 in
          let kept = evaluate-keeps a.deck wf (length entry.answers) (length entry.store) (first_goal a.query ∷ []) [] budget (first, tt) tt in
          let reads = left-read a.deck o entry exit (subst (OutcomeHas (WellFormed a.deck.symbols)) (sym a.evaluates) kept)
          (subst (λ (x : Outcome). All Bare x.answers) (sym a.evaluates) (answers-bare a.deck (length entry.answers) (length entry.store) (first_goal a.query ∷ []) [] budget)) left in
          record { ends = o; is = a; reads = subst (λ (x : Report). Read a.deck x exit (unmarked o.answers) (unmarked o.pending ++ o.parked)) same reads }

  -- No level that it passes parks with mark 1;
  pub ran-never-flounders : (deck : Deck) → open_deck deck_words ≡ accepted deck → (query : List Literal) → read_query deck query_words ≡ accepted query
      → (below : ℕ) (at : Place) (l : Level) (left : Account) → FreshPasses deck (length entry.answers) (length entry.store) query budget below at l left
      → All Unfloundered l.parked
  ran-never-flounders deck opens query asks below at l left p = passed-unfloundered ran-left.is deck opens query asks below at l left p

  module _ (deck : Deck) (opens : open_deck deck_words ≡ accepted deck) where
    abbrev same-deck : deck ≡ ran-left.is.deck
    same-deck = let x = ran-left.is.opens in cc

    -- no goal read from the start of the store has mark 1;
    pub ran-unfloundered : (left_open : List Marked) → read_goals deck.symbols (r.pending + r.parked) exit.store ≡ some left_open → All Unfloundered left_open
    ran-unfloundered left_open reads =
        let o : Outcome = ran-left.ends in
        let there = subst (λ (x : Deck). read_goals x.symbols (r.pending + r.parked) exit.store ≡ some left_open) same-deck reads in
        subst (All Unfloundered) (some-injective (unmarked o.pending ++ o.parked) left_open (sym ran-left.reads.store ∙ there))
        (all_append Unfloundered (unmarked o.pending) o.parked (pending-unfloundered o.pending) (accepted-unfloundered ran-left.is))

    -- and no answer read from the start of the answer list has a variable.
    pub ran-closed : (listed : List Marked) → read_goals deck.symbols r.answers exit.answers ≡ some listed → All (λ m. Closed m.goal) listed
    ran-closed listed reads =
        let o : Outcome = ran-left.ends in
        let there = subst (λ (x : Deck). read_goals x.symbols r.answers exit.answers ≡ some listed) same-deck reads in
        subst (All (λ m. Closed m.goal)) (some-injective (unmarked o.answers) listed (sym ran-left.reads.answers ∙ there))
        (unmarked-all Closed o.answers (accepted-closed ran-left.is))
