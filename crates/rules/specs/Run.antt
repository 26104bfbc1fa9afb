-- A run: what it returns and what it leaves in each slice (document 01, "The evaluation" and "Who can make the engine refuse").
use Rattle.std.specs.Prelude.{ℕ, ◌≡◌, ◌&&◌, List, [], ◌∷◌, ◌++◌, length, take, drop, leb}
use Rattle.rules.specs.Refusals.{bad_store, bad_scratch, bad_goals, Checked, refused, accepted, and_then as ◌>>=◌, require, obtain}
use Rattle.rules.specs.Decks.{open_deck, read_query}
use Rattle.rules.specs.Syntax.{Deck, Goal}
use Rattle.rules.specs.Goals.{Marked, unmarked, write_goals, first_goal}
use Rattle.rules.specs.Rights.{check_rights}
use Rattle.rules.specs.Stored.{OpenGoals, read_open}
use Rattle.rules.specs.Loose.{check_tight, check_tight_query}
use Rattle.rules.specs.Evaluation.{Stop, Outcome, evaluate}

-- The sizes of the store and the scratch.
unfoldable pub check_sizes : ℕ → ℕ → Checked (Unit {0})
check_sizes store_size scratch_size = do
  _ ← require bad_store (leb 1024 store_size && leb store_size 65535)
  require bad_scratch (leb 8192 scratch_size)

-- From open goals, for a member with the list `bars`: the last checks, and the evaluation.
unfoldable pub run_from : Deck → List ℕ → List Goal → List Marked → ℕ → ℕ → ℕ → Checked Outcome
run_from deck bars pending parked budget answer_room store_size = do
  _ ← check_rights deck bars (unmarked pending ++ parked)
  accepted (evaluate deck answer_room store_size pending parked budget)

-- The deck's and the query's words, the member's list, the budget, and the lengths of the answer list, the store and the scratch.
unfoldable pub run : List ℕ → List ℕ → List ℕ → ℕ → ℕ → ℕ → ℕ → Checked Outcome
run deck_words query_words bars budget answer_room store_size scratch_size = do
  deck ← open_deck deck_words
  query ← read_query deck query_words
  _ ← check_sizes store_size scratch_size
  _ ← check_tight_query deck query
  run_from deck bars (first_goal query ∷ []) [] budget answer_room store_size

-- The deck and the open goals in the store, for a run that carries on (U4): their two counts, and the number of answer terms.
pub record Carried : Type 0 where
  pub deck : Deck
  pub goals : OpenGoals

unfoldable pub carry : List ℕ → ℕ → ℕ → ℕ → List ℕ → ℕ → Checked Carried
carry deck_words pending parked terms store_words scratch_size = do
  deck ← open_deck deck_words
  _ ← check_sizes (length store_words) scratch_size
  goals ← obtain bad_goals (read_open deck.symbols pending parked terms store_words)
  _ ← check_tight deck
  accepted (record { deck = deck; goals = goals })

-- A run that carries on: the member's list, the budget and the lengths of the answer list and the store come after what is carried.
unfoldable pub carry_on : Checked Carried → List ℕ → ℕ → ℕ → ℕ → Checked Outcome
carry_on carried bars budget answer_room store_size = do
  c ← carried
  run_from c.deck bars c.goals.pending c.goals.parked budget answer_room store_size

-- An accepted run returns the stop, steps used over all levels and their cost, and the numbers of answers, pending and parked goals.
pub record Report : Type 0 where
  pub stop : Stop
  pub steps : ℕ
  pub cost : ℕ
  pub answers : ℕ
  pub pending : ℕ
  pub parked : ℕ

unfoldable pub report : Outcome → Report
report o =
    record { stop = o.stop; steps = o.steps; cost = o.cost; answers = length o.answers; pending = length o.pending; parked = length o.parked }

unfoldable pub returned : Checked Outcome → Checked Report
returned (refused n) = refused n
returned (accepted o) = accepted (report o)

-- Answers fill the answer list from its start; the words after them are untouched.
unfoldable pub answers_after : Outcome → List ℕ → List ℕ
answers_after o list = let ws = write_goals (unmarked o.answers) in ws ++ drop (length ws) list

-- The store begins with the pending goals in order, then the parked ones in order of parking.
unfoldable pub store_start : Outcome → List ℕ
store_start o = write_goals (unmarked o.pending ++ o.parked)

-- The caller's slices.
pub record Slices : Type 0 where
  pub answers : List ℕ
  pub store : List ℕ
  pub scratch : List ℕ

-- What an accepted run leaves of them. The rest of the store and the scratch are free.
pub record Filled (o : Outcome) (entry exit : Slices) : Type 0 where
  pub answers : exit.answers ≡ answers_after o entry.answers
  pub store : take (length (store_start o)) exit.store ≡ store_start o
  pub store_length : length exit.store ≡ length entry.store
  pub scratch_length : length exit.scratch ≡ length entry.scratch

-- A refusal leaves answers, store and scratch untouched.
unfoldable pub Leaves : Checked Outcome → Slices → Slices → Type 0
Leaves (refused n) entry exit = exit ≡ entry
Leaves (accepted o) entry exit = Filled o entry exit

-- The run on the slices that were lent; and the run that carries on from the open goals in the store.
unfoldable pub run_on : List ℕ → List ℕ → List ℕ → ℕ → Slices → Checked Outcome
run_on deck_words query_words bars budget s =
    run deck_words query_words bars budget (length s.answers) (length s.store) (length s.scratch)

unfoldable pub carry_from : List ℕ → ℕ → ℕ → ℕ → List ℕ → ℕ → Slices → Checked Outcome
carry_from deck_words pending parked terms bars budget s =
    carry_on (carry deck_words pending parked terms s.store (length s.scratch)) bars budget (length s.answers) (length s.store)

-- All that a call promises: what it returns, and what it leaves in each slice.
pub record Gives (c : Checked Outcome) (entry : Slices) (result : Checked Report) (exit : Slices) : Type 0 where
  pub returns : result ≡ returned c
  pub leaves : Leaves c entry exit

abbrev pub Ran : List ℕ → List ℕ → List ℕ → ℕ → Slices → Checked Report → Slices → Type 0
Ran deck_words query_words bars budget entry result exit = Gives (run_on deck_words query_words bars budget entry) entry result exit

abbrev pub RanOn : List ℕ → ℕ → ℕ → ℕ → List ℕ → ℕ → Slices → Checked Report → Slices → Type 0
RanOn deck_words pending parked terms bars budget entry result exit = Gives (carry_from deck_words pending parked terms bars budget entry) entry result exit
