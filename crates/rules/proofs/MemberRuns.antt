-- A member's runs and presses on words (document 02, U9 and U14): what an accepted one has checked and evaluated; and from what it leaves the
-- member's next run or press is accepted.
use Prim.Native.Nat.{ℕ}
use mathlib.Core.Path.{◌≡◌, refl, sym, subst}
use mathlib.Core.Bool.{true}
use mathlib.Core.Option.{some}
use mathlib.Core.List.{List, [], ◌∷◌, ◌++◌}
use native.Mathlib.Omega.{arith}
use lib.ListN.{length, take}
use Rattle.rules.specs.Syntax.{Literal, Deck, Goal}
use Rattle.rules.specs.Refusals.{Checked, refused, accepted, and_then}
use Rattle.rules.specs.Decks.{open_deck, read_query}
use Rattle.rules.specs.Goals.{Marked, unmarked, query_variables, first_goal}
use Rattle.rules.specs.WellFormed.{All}
use Rattle.rules.specs.Stored.{OpenGoals, read_open}
use Rattle.rules.specs.Loose.{tight_clauses, check_tight_query}
use Rattle.rules.specs.Rights.{check_rights}
use Rattle.rules.specs.Evaluation.{Outcome, evaluate}
use Rattle.rules.specs.Run.{run_from, check_sizes, run, carry, carry_on, Report, report, returned, store_start, Slices, Filled, Leaves, run_on, carry_from, Ran, RanOn}
use Rattle.rules.specs.Press.{Pressed, press, press_once, press_from}
use Rattle.rules.proofs.DeckLaws.{opened-written}
use Rattle.rules.proofs.Demand3.{passed, run-accepted}
use Rattle.rules.proofs.StoredLaws.{Fits, ParkedFits, open-reads, left-fit}
use Rattle.rules.proofs.Carried.{carry-parts, carry-accepted, first_fits, open_words, goals-open, left-accepted}
use Rattle.rules.proofs.ClosedSites.{rights-kept}

module _ (deck_words bars : List ℕ) (d : Deck) (opens : open_deck deck_words ≡ accepted d) where
  -- The goals that an evaluation leaves are read from any store that begins with them.
  pub left-reads : (terms : ℕ) (gs : List Goal) (ms : List Marked) → All (Fits d.symbols terms) gs → All (ParkedFits d.symbols terms) ms
      → (answer_room store_size budget : ℕ) (entry exit : Slices) (o : Outcome) → o ≡ evaluate d answer_room store_size gs ms budget → Filled o entry exit
      → read_open d.symbols (length o.pending) (length o.parked) terms exit.store ≡ some (record { pending = o.pending; parked = o.parked })
  unfolding store_start
  left-reads terms gs ms p q answer_room store_size budget entry exit o ev filled =
      let fit = subst (λ (x : Outcome). All (Fits d.symbols terms) x.pending × All (ParkedFits d.symbols terms) x.parked) (sym ev)
      (left-fit d (opened-written deck_words d opens).1 terms gs ms p q answer_room store_size budget) in
      goals-open terms d (record { pending = o.pending; parked = o.parked }) fit.0 fit.1 exit.store filled.store

  -- What a fresh run accepts and evaluates.
  pub fresh-accepted : (query_words : List ℕ) (budget : ℕ) (entry : Slices) (o : Outcome) → run_on deck_words query_words bars budget entry ≡ accepted o
      → (query : List Literal) × (u : Unit {0}) × (read_query d query_words ≡ accepted query) × (check_rights d bars (unmarked (first_goal query ∷ []) ++ []) ≡ accepted u)
      × (o ≡ evaluate d (length entry.answers) (length entry.store) (first_goal query ∷ []) [] budget)
  unfolding run_on run run_from and_then
  fresh-accepted query_words budget entry o eq =
      let q = passed (read_query d query_words) _ (rw opens at eq) in
      let s = passed (check_sizes (length entry.store) (length entry.scratch)) _ q.2 in
      let t = passed (check_tight_query d q.0) _ s.2 in
      let r = passed (check_rights d bars (unmarked (first_goal q.0 ∷ []) ++ [])) _ t.2 in
      (q.0, r.0, q.1, r.1, let z = r.2 in cc)

  -- And one that carries on.
  pub carried-accepted : (pending parked terms budget : ℕ) (entry : Slices) (o : Outcome) → carry_from deck_words pending parked terms bars budget entry ≡ accepted o
      → (g : OpenGoals) × (u : Unit {0}) × (read_open d.symbols pending parked terms entry.store ≡ some g) × (check_rights d bars (unmarked g.pending ++ g.parked) ≡ accepted u)
      × (o ≡ evaluate d (length entry.answers) (length entry.store) g.pending g.parked budget)
  unfolding carry_from carry_on run_from
  carried-accepted pending parked terms budget entry o eq =
      let c = passed (carry deck_words pending parked terms entry.store (length entry.scratch)) _ eq in
      let k = c.0 in
      let parts = carry-parts deck_words pending parked terms entry.store (length entry.scratch) k c.1 in
      let same : k.deck ≡ d = let z = parts.0 in cc in
      let r = passed (check_rights k.deck bars (unmarked k.goals.pending ++ k.goals.parked)) _ c.2 in
      let ev : o ≡ evaluate k.deck (length entry.answers) (length entry.store) k.goals.pending k.goals.parked budget = let z = r.2 in cc in (
        k.goals,
        r.0,
        subst (λ (x : Deck). read_open x.symbols pending parked terms entry.store ≡ some k.goals) same parts.1,
        subst (λ (x : Deck). check_rights x bars (unmarked k.goals.pending ++ k.goals.parked) ≡ accepted r.0) same r.1,
        subst (λ (x : Deck). o ≡ evaluate x (length entry.answers) (length entry.store) k.goals.pending k.goals.parked budget) same ev,
      )

  -- And a press.
  pub pressed-accepted : (pending parked terms budget : ℕ) (entry : Slices) (p : Pressed) → press_from deck_words pending parked terms bars budget entry ≡ accepted p
      → (g : OpenGoals) × (u : Unit {0}) × (read_open d.symbols pending parked terms entry.store ≡ some g) × (check_rights d bars (unmarked g.pending ++ g.parked) ≡ accepted u)
      × (press d (length entry.answers) (length entry.store) g.pending g.parked budget ≡ p)
  unfolding press_from press_once
  pressed-accepted pending parked terms budget entry p eq =
      let c = passed (carry deck_words pending parked terms entry.store (length entry.scratch)) _ eq in
      let k = c.0 in
      let parts = carry-parts deck_words pending parked terms entry.store (length entry.scratch) k c.1 in
      let same : k.deck ≡ d = let z = parts.0 in cc in
      let r = passed (check_rights k.deck bars (unmarked k.goals.pending ++ k.goals.parked)) _ c.2 in
      let ev : press k.deck (length entry.answers) (length entry.store) k.goals.pending k.goals.parked budget ≡ p = let z = r.2 in cc in (
        k.goals,
        r.0,
        subst (λ (x : Deck). read_open x.symbols pending parked terms entry.store ≡ some k.goals) same parts.1,
        subst (λ (x : Deck). check_rights x bars (unmarked k.goals.pending ++ k.goals.parked) ≡ accepted r.0) same r.1,
        subst (λ (x : Deck). press x (length entry.answers) (length entry.store) k.goals.pending k.goals.parked budget ≡ p) same ev,
      )

-- The member's next run or press, with the counts that were returned, over any store of an allowed size that begins with the words left: it is accepted.
pub record LetOn (deck_words bars : List ℕ) (terms : ℕ) (r : Report) (exit : Slices) : Type 0 where
  pub deck : Deck
  pub goals : OpenGoals
  pub left : take (length (open_words goals)) exit.store ≡ open_words goals
  pub goes_on : (budget : ℕ) (next : Slices) → take (length (open_words goals)) next.store ≡ open_words goals
      → check_sizes (length next.store) (length next.scratch) ≡ accepted tt
      → carry_from deck_words r.pending r.parked terms bars budget next
      ≡ accepted (evaluate deck (length next.answers) (length next.store) goals.pending goals.parked budget)
  pub presses_on : (budget : ℕ) (next : Slices) → take (length (open_words goals)) next.store ≡ open_words goals
      → check_sizes (length next.store) (length next.scratch) ≡ accepted tt
      → press_from deck_words r.pending r.parked terms bars budget next
      ≡ accepted (press deck (length next.answers) (length next.store) goals.pending goals.parked budget)

module _ (deck_words bars : List ℕ) (d : Deck) (opens : open_deck deck_words ≡ accepted d) (tight : tight_clauses d.clauses ≡ true) where
  pub let-on : (terms : ℕ) (gs : List Goal) (ms : List Marked) → All (Fits d.symbols terms) gs → All (ParkedFits d.symbols terms) ms
      → {u : Unit {0}} → check_rights d bars (unmarked gs ++ ms) ≡ accepted u → (answer_room store_size budget : ℕ) (entry exit : Slices)
      → Filled (evaluate d answer_room store_size gs ms budget) entry exit → LetOn deck_words bars terms (report (evaluate d answer_room store_size gs ms budget)) exit
  unfolding report store_start carry_from carry_on run_from press_from press_once and_then
  let-on terms gs ms p q right answer_room store_size budget entry exit f =
      let o : Outcome = evaluate d answer_room store_size gs ms budget in
      let goals : OpenGoals = record { pending = o.pending; parked = o.parked } in
      let fit = left-fit d (opened-written deck_words d opens).1 terms gs ms p q answer_room store_size budget in
      let kept = rights-kept d bars gs ms right answer_room store_size budget in
      record {
        deck = d;
        goals = goals;
        left = f.store;
        goes_on = λ later next begun sizes.
            let through = left-accepted deck_words terms d opens tight goals fit.0 fit.1 next.store (length next.scratch) begun sizes in
            rw (through, kept) refl;
        presses_on = λ later next begun sizes.
            let through = left-accepted deck_words terms d opens tight goals fit.0 fit.1 next.store (length next.scratch) begun sizes in
            rw (through, kept) refl;
      }

pub fresh-let-on :
    (deck_words query_words bars : List ℕ) (budget : ℕ) (entry exit : Slices) (r : Report) → Ran deck_words query_words bars budget entry (accepted r) exit
    → (deck : Deck) × (query : List Literal) × (open_deck deck_words ≡ accepted deck) × (read_query deck query_words ≡ accepted query)
    × LetOn deck_words bars (length (query_variables query)) r exit
unfolding Leaves returned run_on
fresh-let-on deck_words query_words bars budget entry exit r ran = go (run_on deck_words query_words bars budget entry) refl ran.returns ran.leaves
  where
    go : (c : Checked Outcome) → run_on deck_words query_words bars budget entry ≡ c → accepted r ≡ returned c → Leaves c entry exit
        → (deck : Deck) × (query : List Literal) × (open_deck deck_words ≡ accepted deck) × (read_query deck query_words ≡ accepted query)
        × LetOn deck_words bars (length (query_variables query)) r exit
    go (refused n) e back left = absurd (let z : ◌≡◌ {A = ℕ} 0 1 = cc in omega arith)
    go (accepted o) e back left =
        let a = run-accepted deck_words query_words bars budget (length entry.answers) (length entry.store) (length entry.scratch) o e in
        let k = fresh-accepted deck_words bars a.deck a.opens query_words budget entry o e in
        let query : List Literal = k.0 in
        let terms : ℕ = length (query_variables query) in
        let same : report o ≡ r = cc in (
          a.deck,
          query,
          a.opens,
          k.2,
          subst (λ (x : Report). LetOn deck_words bars terms x exit) same
              (subst (λ (x : Outcome). Filled x entry exit → LetOn deck_words bars terms (report x) exit) (sym k.4)
              (let-on deck_words bars a.deck a.opens a.tight_deck terms (first_goal query ∷ []) [] (first_fits a.deck query_words query k.2, tt) tt k.3
              (length entry.answers) (length entry.store) budget entry exit) left),
        )

pub carried-let-on :
    (deck_words : List ℕ) (pending parked terms : ℕ) (bars : List ℕ) (budget : ℕ) (entry exit : Slices) (r : Report)
    → RanOn deck_words pending parked terms bars budget entry (accepted r) exit → LetOn deck_words bars terms r exit
unfolding Leaves returned carry_from
carried-let-on deck_words pending parked terms bars budget entry exit r ran = go (carry_from deck_words pending parked terms bars budget entry) refl ran.returns ran.leaves
  where
    go : (c : Checked Outcome) → carry_from deck_words pending parked terms bars budget entry ≡ c → accepted r ≡ returned c → Leaves c entry exit
        → LetOn deck_words bars terms r exit
    go (refused n) e back left = absurd (let z : ◌≡◌ {A = ℕ} 0 1 = cc in omega arith)
    go (accepted o) e back left =
        let a = carry-accepted deck_words pending parked terms bars budget (length entry.answers) entry.store (length entry.scratch) o e in
        let k = carried-accepted deck_words bars a.deck a.opens pending parked terms budget entry o e in
        let g : OpenGoals = k.0 in
        let reads = open-reads a.deck.symbols pending parked terms entry.store g k.2 in
        let same : report o ≡ r = cc in
        subst (λ (x : Report). LetOn deck_words bars terms x exit) same
        (subst (λ (x : Outcome). Filled x entry exit → LetOn deck_words bars terms (report x) exit) (sym k.4)
        (let-on deck_words bars a.deck a.opens a.tight_deck terms g.pending g.parked reads.pending reads.parked k.3
        (length entry.answers) (length entry.store) budget entry exit) left)
