-- What a run passes, on every level. An outcome shows level 0 at its end alone; the requests that say "on any level" or "opens a level" are
-- about all that is passed on the way there.
use Rattle.std.specs.Prelude.{ℕ, suc, ◌-◌, ◌≡◌, List}
use Rattle.rules.specs.Syntax.{Literal, Clause, Deck}
use Rattle.rules.specs.Goals.{first_goal}
use Rattle.rules.specs.Evaluation.{Level, start_level, Place, zeroth, deeper, Question, step, ask, Account, opening, pay, Ended, Reply, close, decide_by, next_of, evaluate_level}

-- After a new level's reply the outer one goes on at l' with the account b: whatever going on from there comes to, so does the closing.
abbrev pub GoesOn : Level → Question → Reply → Level → Account → Type 0
GoesOn l q r l' b = (again : Level → Account → Ended) → close again l q r ≡ again l' b

-- What is passed from a start. A state is the number of levels below, the place, the level and the account, as `evaluate_level` takes them.
-- Passed are the start; after a step, the level stepped to; where a level asks, the start of the new level, which has one level less below it;
-- and after the new level's reply, the level that goes on.
pub data Passes (clauses : List Clause) (answer_room store_size : ℕ) (below₀ : ℕ) (at₀ : Place) (l₀ : Level) (a₀ : Account) : ℕ → Place → Level → Account → Type 0 where
  starts : Passes clauses answer_room store_size below₀ at₀ l₀ a₀ below₀ at₀ l₀ a₀
  steps : {below : ℕ} {a : Account} {at : Place} {l l' : Level} → Passes clauses answer_room store_size below₀ at₀ l₀ a₀ below at l a
      → next_of clauses answer_room store_size below at l a.left ≡ step l'
      → Passes clauses answer_room store_size below₀ at₀ l₀ a₀ below at l' (pay clauses l a)
  opens : {below : ℕ} {a : Account} {at : Place} {l : Level} {q : Question} → Passes clauses answer_room store_size below₀ at₀ l₀ a₀ (suc below) at l a
      → next_of clauses answer_room store_size (suc below) at l a.left ≡ ask q
      → Passes clauses answer_room store_size below₀ at₀ l₀ a₀ below (deeper q.held_outside) (start_level q.goal) (pay clauses l a)
  closes : {below : ℕ} {a b : Account} {at : Place} {l l' : Level} {q : Question} → Passes clauses answer_room store_size below₀ at₀ l₀ a₀ (suc below) at l a
      → next_of clauses answer_room store_size (suc below) at l a.left ≡ ask q
      → GoesOn l q (decide_by (evaluate_level clauses answer_room store_size below) q (pay clauses l a)) l' b
      → Passes clauses answer_room store_size below₀ at₀ l₀ a₀ (suc below) at l' b

-- What a fresh run of a query passes. With `below` levels below it, a level has the number 32 - below.
abbrev pub FreshPasses : Deck → ℕ → ℕ → List Literal → ℕ → ℕ → Place → Level → Account → Type 0
FreshPasses deck answer_room store_size query total = Passes deck.clauses answer_room store_size 32 zeroth (start_level (first_goal query)) (opening total)

abbrev pub level_number : ℕ → ℕ
level_number below = 32 - below
