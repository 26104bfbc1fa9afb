-- One press, one step (document 02, U14).
use Rattle.std.specs.Prelude.{ℕ, zero, suc, ◌+◌, ◌-◌, min, ◌≡◌, List, [], ◌++◌, length}
use Rattle.rules.specs.Syntax.{Clause, Deck, Goal}
use Rattle.rules.specs.Refusals.{Checked, refused, accepted, and_then as ◌>>=◌}
use Rattle.rules.specs.Goals.{Marked, unmarked}
use Rattle.rules.specs.Rights.{check_rights}
use Rattle.rules.specs.Evaluation.{Stop, finished, Level, Place, zeroth, Question, Account, opening, pay, Ending, succeeded, stopped, Ended, ended, Reply, proceed, decide_by, unasked, next_of, evaluate_level, Outcome}
use Rattle.rules.specs.Run.{Carried, carry, Slices, Filled}

-- Who decides the atoms that a level with so many levels below it asks for: on level 32 nothing is asked.
abbrev pub decides : List Clause → ℕ → ℕ → ℕ → Question → Account → Reply
decides clauses answer_room store_size zero q a = unasked q a
decides clauses answer_room store_size (suc below) q a = decide_by (evaluate_level clauses answer_room store_size below) q a

-- One step of a level, with all of its inner levels: what is next is as in the evaluation, and `again` takes over from where the step has brought
-- the level. The evaluation of a level is one step after another (`level-one_step`).
unfoldable pub one_step : List Clause → ℕ → ℕ → ℕ → Place → (Level → Account → Ended) → Level → Account → Ended
one_step clauses answer_room store_size below at again l a =
    proceed again (decides clauses answer_room store_size below) l a (pay clauses l a) (next_of clauses answer_room store_size below at l a.left)

-- A press advances level 0 by one step, and goes on no further. Level 0 never succeeds as a deeper level does (`zeroth-stops`), so `succeeded` can
-- say here that the step was taken.
unfoldable pub press_level : List Clause → ℕ → ℕ → Level → Account → Ended
press_level clauses answer_room store_size l a = one_step clauses answer_room store_size 32 zeroth (ended succeeded) l a

-- It returns `stepped` or the stop that prevented it.
pub data Advance : Type 0 where
  stepped : Advance
  prevented : Stop → Advance

abbrev pub advance_of : Ending → Advance
advance_of succeeded = stepped
advance_of (stopped s) = prevented s

-- What a press comes to: its steps over all levels and their cost, the answer that it found (one at most), and the goals after it.
pub record Pressed : Type 0 where
  pub advance : Advance
  pub steps : ℕ
  pub cost : ℕ
  pub answers : List Goal
  pub pending : List Goal
  pub parked : List Marked

abbrev pub pressed_of : ℕ → Ended → Pressed
pressed_of total (ended e l a) =
    record { advance = advance_of e; steps = a.steps; cost = total - a.left; answers = l.answers; pending = l.pending; parked = l.parked }

-- From any pending and parked goals; an answer goes to the start of the press's own list.
unfoldable pub press : Deck → ℕ → ℕ → List Goal → List Marked → ℕ → Pressed
press deck answer_room store_size pending parked total =
    pressed_of total (press_level deck.clauses answer_room store_size (record { pending = pending; parked = parked; answers = [] }) (opening total))

-- For a member with the list `bars`: the last checks, and the press. The checks are those of continued runs.
unfoldable pub press_once : Checked Carried → List ℕ → ℕ → ℕ → ℕ → Checked Pressed
press_once carried bars budget answer_room store_size = do
  c ← carried
  _ ← check_rights c.deck bars (unmarked c.goals.pending ++ c.goals.parked)
  accepted (press c.deck answer_room store_size c.goals.pending c.goals.parked budget)

-- ON THE SLICES that were lent, from the open goals in the store: their two counts, and the number of answer terms.
unfoldable pub press_from : List ℕ → ℕ → ℕ → ℕ → List ℕ → ℕ → Slices → Checked Pressed
press_from deck_words pending parked terms bars budget s =
    press_once (carry deck_words pending parked terms s.store (length s.scratch)) bars budget (length s.answers) (length s.store)

-- An accepted press returns `stepped` or the stop, its steps and their cost, and the numbers of answers found and of pending and parked goals after it.
pub record Counted : Type 0 where
  pub advance : Advance
  pub steps : ℕ
  pub cost : ℕ
  pub answers : ℕ
  pub pending : ℕ
  pub parked : ℕ

unfoldable pub counted : Pressed → Counted
counted p = record {
  advance = p.advance;
  steps = p.steps;
  cost = p.cost;
  answers = length p.answers;
  pending = length p.pending;
  parked = length p.parked;
}

unfoldable pub counts : Checked Pressed → Checked Counted
counts (refused n) = refused n
counts (accepted p) = accepted (counted p)

-- In the slices a press leaves what an outcome with its answers and goals leaves; the outcome's stop says nothing there.
abbrev pub left_by : Pressed → Outcome
left_by p = record { stop = finished; steps = p.steps; cost = p.cost; answers = p.answers; pending = p.pending; parked = p.parked }

-- What a press leaves of the slices. A press on a finished query changes nothing, no word of the store's tail or of the scratch either.
pub record PressFilled (p : Pressed) (entry exit : Slices) : Type 0 where
  pub filled : Filled (left_by p) entry exit
  pub untouched : p.advance ≡ prevented finished → exit ≡ entry

-- A refusal leaves answers, store and scratch untouched.
unfoldable pub PressLeaves : Checked Pressed → Slices → Slices → Type 0
PressLeaves (refused n) entry exit = exit ≡ entry
PressLeaves (accepted p) entry exit = PressFilled p entry exit

-- All that the press on plain parameters promises.
pub record PressedOn (deck_words : List ℕ) (pending parked terms : ℕ) (bars : List ℕ) (budget : ℕ) (entry : Slices) (result : Checked Counted) (exit : Slices) : Type 0 where
  pub returns : result ≡ counts (press_from deck_words pending parked terms bars budget entry)
  pub leaves : PressLeaves (press_from deck_words pending parked terms bars budget entry) entry exit

-- THE DISPLAY'S RECORD: the counts over all presses so far, and how many goals are pending and parked.
pub record Display : Type 0 where
  pub steps : ℕ
  pub cost : ℕ
  pub answers : ℕ
  pub pending : ℕ
  pub parked : ℕ

-- Its counts have 64 bits and stay at their greatest value rather than wrap.
abbrev pub capped : ℕ → ℕ
capped n = min n 18446744073709551615

-- It comes back changed: steps, cost and answers grow, and pending and parked are those after the press, a press cut short included.
unfoldable pub displayed : Display → Counted → Display
displayed d c = record {
  steps = capped (d.steps + c.steps);
  cost = capped (d.cost + c.cost);
  answers = capped (d.answers + c.answers);
  pending = c.pending;
  parked = c.parked;
}

-- A refusal leaves it untouched.
unfoldable pub display_after : Display → Checked Counted → Display
display_after d (refused n) = d
display_after d (accepted c) = displayed d c

unfoldable pub advanced : Checked Counted → Checked Advance
advanced (refused n) = refused n
advanced (accepted c) = accepted c.advance

-- The press that is lent a display: its pending and parked serve as the two goal counts.
unfoldable pub press_with : List ℕ → ℕ → List ℕ → ℕ → Display → Slices → Checked Pressed
press_with deck_words terms bars budget d s = press_from deck_words d.pending d.parked terms bars budget s

-- All that it promises.
pub record PressedWith (deck_words : List ℕ) (terms : ℕ) (bars : List ℕ) (budget : ℕ) (entry : Slices) (d : Display) (result : Checked Advance) (exit : Slices) (d' : Display) : Type 0 where
  pub returns : result ≡ advanced (counts (press_with deck_words terms bars budget d entry))
  pub leaves : PressLeaves (press_with deck_words terms bars budget d entry) entry exit
  pub display : d' ≡ display_after d (counts (press_with deck_words terms bars budget d entry))
