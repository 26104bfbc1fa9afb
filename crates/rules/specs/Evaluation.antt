-- The evaluation (document 01, the section of that name).
use Rattle.std.specs.Prelude.{ℕ, zero, suc, ◌+◌, ◌-◌, true, false, List, [], ◌∷◌, ◌++◌, leb}
use Rattle.rules.specs.Terms.{Terms, nil}
use Rattle.rules.specs.Syntax.{Literal, pos, Clause, Deck, Goal}
use Rattle.rules.specs.Goals.{Mark, floundered, undecided, oversized, deep, Marked, marked, goal_words, words_of, marked_words}
use Rattle.rules.specs.Resolution.{Selection, nothing, positive, negative, select, resolvents, any_oversized, cost_of}

-- Why an accepted run stops. Document 01 has words for the stops; the numbers are for calls that return numbers.
pub data Stop : Type 0 where
  finished budget answers store : Stop

abbrev pub stop_number : Stop → ℕ
stop_number finished = 0
stop_number budget = 1
stop_number answers = 2
stop_number store = 3

-- A level has a pending list, a list of parked goals, and at level 0 the answers.
-- Of a deeper level's parked goals nothing is asked but whether there are any (`verdict_of`), and they hold nothing (`held`).
pub record Level : Type 0 where
  pub pending : List Goal
  pub parked : List Marked
  pub answers : List Goal

unfoldable pub start_level : Goal → Level
start_level g = record { pending = g ∷ []; parked = []; answers = [] }

-- The level with gs pending; with a goal parked and gs pending; with one more answer and gs pending.
unfoldable pub with_pending : List Goal → Level → Level
with_pending gs l = record { pending = gs; parked = l.parked; answers = l.answers }

unfoldable pub with_parked : Mark → Goal → List Goal → Level → Level
with_parked m g gs l = record { pending = gs; parked = l.parked ++ (marked m g ∷ []); answers = l.answers }

unfoldable pub with_answer : Goal → List Goal → Level → Level
with_answer g gs l = record { pending = gs; parked = l.parked; answers = l.answers ++ (g ∷ []) }

-- Where a level stands: level 0, or a deeper one, with the words that the levels above it hold.
pub data Place : Type 0 where
  zeroth : Place
  deeper : ℕ → Place

-- Held are: pending and parked goals at level 0, and pending goals at every level under way, the goals being worked on included.
unfoldable pub held : Place → Level → ℕ
held zeroth l = words_of l.pending + marked_words l.parked
held (deeper outer) l = outer + words_of l.pending

-- What a step does with the first pending goal: it has no literals; it is parked; derived goals replace it;
-- a new level is to decide the atom p(ts) of a selected negative literal, where `others` are the other literals.
pub data Act : Type 0 where
  no_literals : Act
  park : Mark → Act
  derive : List Goal → Act
  decide : ℕ → Terms → List Literal → Act

-- If any exceeds 1,024 words, the goal itself is parked with mark 3 instead.
unfoldable pub derive_act : List Goal → Act
derive_act gs = elim (any_oversized gs) [ true ↦ park oversized | false ↦ derive gs ]

-- Negative, on level 32, which has no levels below it: park with mark 4. Otherwise a new level starts.
unfoldable pub decide_act : ℕ → ℕ → Terms → List Literal → Act
decide_act zero p ts others = park deep
decide_act (suc below) p ts others = decide p ts others

unfoldable pub selected_act : List Clause → ℕ → Goal → Selection → Act
selected_act clauses below g nothing = park floundered
selected_act clauses below g (positive before p ts after) = derive_act (resolvents clauses g before p ts after)
selected_act clauses below g (negative before p ts after) = decide_act below p ts (before ++ after)

unfoldable pub literals_act : List Clause → ℕ → Goal → List Literal → Act
literals_act clauses below g [] = no_literals
literals_act clauses below g (l ∷ ls) = selected_act clauses below g (select (l ∷ ls))

unfoldable pub act_of : List Clause → ℕ → Goal → Act
act_of clauses below g = literals_act clauses below g g.literals

-- A new level's question: its goal, with no answer terms and the atom made positive; the words held without it; and the outer level
-- when the new one succeeds (the outer goal is dropped), when it finishes with nothing parked (the outer goal loses the literal and
-- stays first), and when it finishes with something parked (the outer goal is parked with mark 2). The literal has no variables, so what
-- is left is numbered by first appearance as it was.
pub record Question : Type 0 where
  pub goal : Goal
  pub held_outside : ℕ
  pub on_success : Level
  pub on_failure : Level
  pub on_unsettled : Level

unfoldable pub question : Place → Level → Goal → List Goal → ℕ → Terms → List Literal → Question
question at l g gs p ts others = record {
  goal = record { answer_terms = nil; literals = pos p ts ∷ [] };
  held_outside = held at l;
  on_success = with_pending gs l;
  on_failure = with_pending (record { answer_terms = g.answer_terms; literals = others } ∷ gs) l;
  on_unsettled = with_parked undecided g gs l;
}

-- What is next at a level: it stops as it stands; a step to the level named; a step with which it has succeeded; a step that asks.
pub data Next : Type 0 where
  halt : Stop → Next
  step : Level → Next
  success : Next
  ask : Question → Next

-- No literals: at level 0 it is moved to the answers, or stop "answers" if its words don't fit after those already written;
-- at a deeper level, that level has succeeded.
unfoldable pub answer_step : ℕ → Place → Level → Goal → List Goal → Next
answer_step answer_room zeroth l g gs =
    elim (leb (words_of l.answers + goal_words g) answer_room) [ true ↦ step (with_answer g gs l) | false ↦ halt answers ]
answer_step answer_room (deeper outer) l g gs = success

-- A step on g, the first pending goal of l, with gs after it.
unfoldable pub act_step : ℕ → Place → Level → Goal → List Goal → Act → Next
act_step answer_room at l g gs no_literals = answer_step answer_room at l g gs
act_step answer_room at l g gs (park m) = step (with_parked m g gs l)
act_step answer_room at l g gs (derive ds) = step (with_pending (ds ++ gs) l)
act_step answer_room at l g gs (decide p ts others) = ask (question at l g gs p ts others)

-- If the words held after the step would exceed the store, stop "store". A step that asks holds the new level's goal too.
unfoldable pub unless_over : ℕ → ℕ → Next → Next
unless_over store_size words next = elim (leb words store_size) [ true ↦ next | false ↦ halt store ]

unfoldable pub check_store : ℕ → Place → Next → Next
check_store store_size at (halt s) = halt s
check_store store_size at (step l) = unless_over store_size (held at l) (step l)
check_store store_size at success = success
check_store store_size at (ask q) = unless_over store_size (q.held_outside + goal_words q.goal) (ask q)

-- What is left of the budget, and the steps taken so far, over all levels.
pub record Account : Type 0 where
  pub left : ℕ
  pub steps : ℕ

abbrev pub opening : ℕ → Account
opening total = record { left = total; steps = 0 }

-- What a step costs that acts on the first of the pending goals. A step that is taken is paid and counted.
unfoldable pub first_cost : List Clause → List Goal → ℕ
first_cost clauses [] = 1
first_cost clauses (g ∷ gs) = cost_of clauses g

abbrev pub pay : List Clause → Level → Account → Account
pay clauses l a = record { left = a.left - first_cost clauses l.pending; steps = suc a.steps }

-- How a level ends: a deeper one has succeeded, or one of the four stops; with the level and the account as they are then.
pub data Ending : Type 0 where
  succeeded : Ending
  stopped : Stop → Ending

pub data Ended : Type 0 where
  ended : Ending → Level → Account → Ended

-- What a new level tells the outer one of its atom: it succeeds; it fails, finished with nothing parked; it is unsettled, finished with
-- something parked; or a stop has interrupted it. And the account.
pub data Verdict : Type 0 where
  succeeds fails unsettled : Verdict
  interrupted : Stop → Verdict

pub data Reply : Type 0 where
  reply : Verdict → Account → Reply

unfoldable pub verdict_of : Ending → List Marked → Verdict
verdict_of succeeded parked = succeeds
verdict_of (stopped finished) [] = fails
verdict_of (stopped finished) (m ∷ ms) = unsettled
verdict_of (stopped budget) parked = interrupted budget
verdict_of (stopped answers) parked = interrupted answers
verdict_of (stopped store) parked = interrupted store

unfoldable pub reply_of : Ended → Reply
reply_of (ended e l a) = reply (verdict_of e l.parked) a

-- The closings cost nothing. A stop at any level stops the run, and the outer level is as it was before the step.
unfoldable pub close : (Level → Account → Ended) → Level → Question → Reply → Ended
close again l q (reply succeeds a) = again q.on_success a
close again l q (reply fails a) = again q.on_failure a
close again l q (reply unsettled a) = again q.on_unsettled a
close again l q (reply (interrupted s) a) = ended (stopped s) l a

-- A step not taken is neither paid nor counted; `paid` is the account after a step. `again` goes on at this level, `decides` runs a new one.
unfoldable pub proceed : (Level → Account → Ended) → (Question → Account → Reply) → Level → Account → Account → Next → Ended
proceed again decides l a paid (halt s) = ended (stopped s) l a
proceed again decides l a paid (step l') = again l' paid
proceed again decides l a paid success = ended succeeded l paid
proceed again decides l a paid (ask q) = close again l q (decides q paid)

-- A new level starts on its goal, in the part of the store past the words held. On level 32 nothing is asked,
-- and what `unasked` says does not matter.
unfoldable pub decide_by : (Place → Level → Account → Ended) → Question → Account → Reply
decide_by evaluates q a = reply_of (evaluates (deeper q.held_outside) (start_level q.goal) a)

unfoldable pub unasked : Question → Account → Reply
unasked q a = reply unsettled a

-- Over a deck's clauses, the length of the answer list and the length of the store. `below` is the number of levels below this one,
-- 32 at level 0.
module _ (clauses : List Clause) (answer_room store_size : ℕ) where
  -- Before each step, in this order: pending empty, the level is finished; the step's whole cost is not left, stop "budget"; the two other
  -- stops. `left` is what is left of the budget.
  unfoldable pub next_from : ℕ → Place → Level → List Goal → ℕ → Next
  next_from below at l [] left = halt finished
  next_from below at l (g ∷ gs) left =
      elim (leb (cost_of clauses g) left) [ true ↦ check_store store_size at (act_step answer_room at l g gs (act_of clauses below g)) | false ↦ halt budget ]

  unfoldable pub next_of : ℕ → Place → Level → ℕ → Next
  next_of below at l left = next_from below at l l.pending left

  -- A level's steps. `fuel` only bounds the recursion: it is above what is left, and each turn costs at least 1 (`level-unfolds`).
  unfoldable pub turn : (Question → Account → Reply) → ℕ → Place → ℕ → Level → Account → Ended
  turn decides below at zero l a = ended (stopped budget) l a
  turn decides below at (suc fuel) l a = proceed (turn decides below at fuel) decides l a (pay clauses l a) (next_of below at l a.left)

  -- The evaluation of a level. It calls the same evaluation, one level deeper, for its own "nots"; level 32 asks nothing.
  unfoldable pub evaluate_level : ℕ → Place → Level → Account → Ended
  evaluate_level zero at l a = turn unasked zero at (suc a.left) l a
  evaluate_level (suc below) at l a = turn (decide_by (evaluate_level below)) (suc below) at (suc a.left) l a

-- What an accepted run comes to: the stop, the steps used over all levels and their cost, the answers, and the pending and parked goals.
pub record Outcome : Type 0 where
  pub stop : Stop
  pub steps : ℕ
  pub cost : ℕ
  pub answers : List Goal
  pub pending : List Goal
  pub parked : List Marked

-- Level 0 never succeeds as a deeper level does (`zeroth-stops`).
unfoldable pub stop_of : Ending → Stop
stop_of succeeded = finished
stop_of (stopped s) = s

unfoldable pub outcome : ℕ → Ended → Outcome
outcome total (ended e l a) =
    record { stop = stop_of e; steps = a.steps; cost = total - a.left; answers = l.answers; pending = l.pending; parked = l.parked }

-- From any pending and parked goals, with no answers yet. The levels are 0 to 32.
unfoldable pub evaluate : Deck → ℕ → ℕ → List Goal → List Marked → ℕ → Outcome
evaluate deck answer_room store_size pending parked total =
    outcome total (evaluate_level deck.clauses answer_room store_size 32 zeroth (record { pending = pending; parked = parked; answers = [] }) (opening total))
