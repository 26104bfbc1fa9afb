-- Every list of presses on one deck from a fresh query, on words (document 02, U14): a run of budget 0, whose result is the first record; then presses,
-- each with a budget, an answer list and a store of its own.
use Prim.Native.Nat.{ℕ, ◌≤◌}
use mathlib.Core.Path.{◌≡◌, refl, sym, ◌∙◌, ap, subst}
use mathlib.Core.Logic.{◌↔◌}
use mathlib.Core.Option.{some}
use mathlib.Core.List.{List, [], ◌∷◌}
use native.Mathlib.Nat.{zero-add}
use native.Mathlib.Omega.{arith}
use lib.ListN.{length}
use Rattle.rules.specs.Syntax.{Literal, Deck}
use Rattle.rules.specs.Refusals.{Checked, refused, accepted}
use Rattle.rules.specs.Decks.{open_deck, read_query}
use Rattle.rules.specs.Goals.{query_variables, first_goal}
use Rattle.rules.specs.Stored.{read_open}
use Rattle.rules.specs.Evaluation.{Level, Outcome, evaluate}
use Rattle.rules.specs.Run.{Report, report, returned, Slices, Filled, Leaves, run_on, Ran}
use Rattle.rules.specs.Press.{Display}
use Rattle.rules.specs.WellFormed.{All}
use Rattle.rules.specs.Meaning.{Inds, Interpretation, Satisfies, individuals, QueryHolds, SomeCovers}
use Rattle.rules.proofs.DeckLaws.{query-reads}
use Rattle.rules.proofs.LevelSound.{level}
use Rattle.rules.proofs.Continued.{Lent, goals_of}
use Rattle.rules.proofs.Demand3.{Accepted, run-accepted}
use Rattle.rules.proofs.Carried.{first_fits}
use Rattle.rules.proofs.MemberRuns.{left-reads}
use Rattle.rules.proofs.PressList.{press_all, taken, taken_cost, rooms, steps_of, cost_of_all}
use Rattle.rules.proofs.Presses.{ComesTo, budget-0, presses-leave, query-pressed, Shows, displays-show}
use Rattle.rules.proofs.PressWords.{PressChain, ChainShows, chain-shows, ChainLists, chain-lists}

-- The record that a run returns.
abbrev pub display_from : Report → Display
display_from r = record { steps = r.steps; cost = r.cost; answers = r.answers; pending = r.pending; parked = r.parked }

-- What a run of budget 0 leaves: the query's first goal, and nothing is counted.
pub record FirstRecord (deck_words query_words : List ℕ) (r : Report) (exit : Slices) : Type 0 where
  pub deck : Deck
  pub query : List Literal
  pub opens : open_deck deck_words ≡ accepted deck
  pub asks : read_query deck query_words ≡ accepted query
  pub reads : read_open deck.symbols r.pending r.parked (length (query_variables query)) exit.store ≡ some (record { pending = first_goal query ∷ []; parked = [] })
  pub counts : Shows (display_from r) 0 0 (level (first_goal query ∷ []) [] [])

-- Of the accepted outcome.
module _ (deck_words query_words bars : List ℕ) (entry exit : Slices) (o : Outcome) (a : Accepted deck_words query_words 0 (length entry.answers) (length entry.store) o) (left : Filled o entry exit) where
  first : Level
  first = level (first_goal a.query ∷ []) [] []

  comes : ComesTo o 0 0 (level (first_goal a.query ∷ []) [] [])
  comes = subst (λ (x : Outcome). ComesTo x 0 0 (level (first_goal a.query ∷ []) [] [])) (sym a.evaluates) (budget-0 a.deck (length entry.answers) (length entry.store) (first_goal a.query ∷ []) [])

  opened : read_open a.deck.symbols (length o.pending) (length o.parked) (length (query_variables a.query)) exit.store ≡ some (record { pending = o.pending; parked = o.parked })
  opened =
      left-reads deck_words bars a.deck a.opens (length (query_variables a.query)) (first_goal a.query ∷ []) [] (first_fits a.deck query_words a.query a.asks, tt) tt
      (length entry.answers) (length entry.store) 0 entry exit o a.evaluates left

  first-left : FirstRecord deck_words query_words (report o) exit
  unfolding report
  first-left = record {
    deck = a.deck;
    query = a.query;
    opens = a.opens;
    asks = a.asks;
    reads = opened ∙ (λ i. some (record { pending = comes.pending i; parked = comes.parked i }));
    counts = record {
      steps = omega (arith, comes.steps);
      cost = omega (arith, comes.cost);
      answers = omega (arith, ap length comes.answers);
      pending = ap length comes.pending;
      parked = ap length comes.parked;
    };
  }

pub first-record : (deck_words query_words bars : List ℕ) (entry exit : Slices) (r : Report) → Ran deck_words query_words bars 0 entry (accepted r) exit → FirstRecord deck_words query_words r exit
unfolding Leaves returned run_on
first-record deck_words query_words bars entry exit r ran = go (run_on deck_words query_words bars 0 entry) refl ran.returns ran.leaves
  where
    go : (c : Checked Outcome) → run_on deck_words query_words bars 0 entry ≡ c → accepted r ≡ returned c → Leaves c entry exit → FirstRecord deck_words query_words r exit
    go (refused n) e back left = absurd (let z : ◌≡◌ {A = ℕ} 0 1 = cc in omega arith)
    go (accepted o) e back left =
        let a = run-accepted deck_words query_words bars 0 (length entry.answers) (length entry.store) (length entry.scratch) o e in
        let same : report o ≡ r = cc in
        subst (λ (x : Report). FirstRecord deck_words query_words x exit) same (first-left deck_words query_words bars entry exit o a left)

-- AFTER THE PRESSES the store begins with the goals of `after`, and its answers are those at the starts of the presses' answer lists. They are the
-- evaluation's goals, and its answers, with the cost of
-- the presses that were not cut short for its budget; it takes their steps. The record's counts are the sums over all presses up to the greatest value,
-- and pending and parked count the goals. And the query is covered. Between any two presses it is `presses-cover`, from the goals after the first.
pub record QueryPressed (deck : Deck) (query : List Literal) {deck_words : List ℕ} {bs : List Lent} {first last : List ℕ} {shown d : Display}
    (chain : PressChain deck_words deck.symbols (length (query_variables query)) bs first shown last d) : Type 1 where
  pub after : Level
  pub listed : ChainLists chain after.answers
  pub reads : read_open deck.symbols d.pending d.parked (length (query_variables query)) last ≡ some (record { pending = after.pending; parked = after.parked })
  pub evaluated : (room store_size : ℕ) → All (λ b. b.store_size ≤ store_size) bs → rooms bs ≤ room
      → let start = level (first_goal query ∷ []) [] [] in
      ComesTo (evaluate deck room store_size (first_goal query ∷ []) [] (taken_cost deck bs start)) (taken deck bs start) (taken_cost deck bs start) after
  pub shows : let start = level (first_goal query ∷ []) [] [] in Shows d (steps_of deck bs start) (cost_of_all deck bs start) after
  pub covered : (I : Interpretation) → Satisfies I deck → (choice : Inds) → individuals choice ≡ length (query_variables query)
      → QueryHolds I query choice ↔ SomeCovers I choice (goals_of after)

pub query-presses : (deck_words query_words bars : List ℕ) (entry exit : Slices) (r : Report) (ran : Ran deck_words query_words bars 0 entry (accepted r) exit)
    → let f = first-record deck_words query_words bars entry exit r ran in
    (bs : List Lent) (last : List ℕ) (d : Display) (chain : PressChain deck_words f.deck.symbols (length (query_variables f.query)) bs exit.store (display_from r) last d)
    → QueryPressed f.deck f.query chain
query-presses deck_words query_words bars entry exit r ran bs last d chain =
    let f = first-record deck_words query_words bars entry exit r ran in
    let start : Level = level (first_goal f.query ∷ []) [] [] in
    let c : ChainShows f.deck (length (query_variables f.query)) bs (display_from r) start last d =
    chain-shows deck_words (length (query_variables f.query)) f.deck f.opens chain start f.reads in
    let lists = chain-lists deck_words (length (query_variables f.query)) f.deck f.opens chain start f.reads in
    record {
      after = press_all f.deck bs start;
      listed = subst (ChainLists chain) (sym lists.1) lists.2;
      reads = c.opens;
      evaluated = λ room store_size w h. presses-leave f.deck room store_size bs w h (first_goal f.query ∷ []) [];
      shows = subst (λ (x : Display). Shows x (steps_of f.deck bs start) (cost_of_all f.deck bs start) (press_all f.deck bs start)) (sym c.display)
          (rw (zero-add (steps_of f.deck bs start), zero-add (cost_of_all f.deck bs start)) at (displays-show f.deck bs start (display_from r) 0 0 f.counts));
      covered = λ I sat choice many. query-pressed f.query (query-reads f.deck query_words f.query f.asks).1.in_order choice many f.deck bs I sat;
    }
