-- Open goals at the start of a store, from which a run carries on (document 02, U4).
use Rattle.std.specs.Prelude.{ℕ, ◌+◌, Bool, true, false, ◌&&◌, List, [], ◌∷◌, map, take, drop, leb, eqb}
use Rattle.std.proofs.Math.Option.{Option, none, some}
use Rattle.rules.specs.Terms.{count}
use Rattle.rules.specs.Syntax.{Symbol, Goal, vars_goal}
use Rattle.rules.specs.Cells.{numbered}
use Rattle.rules.specs.Goals.{Marked, mark_number, goal_words, read_goals}

-- Of so many answer terms, of 1,024 words or fewer and numbered as document 01 says.
unfoldable pub goal_fits : ℕ → Goal → Bool
goal_fits terms g = eqb (count g.answer_terms) terms && (leb (goal_words g) 1024 && numbered 0 (vars_goal g))

-- Pending ones are marked 0 and parked ones 1 to 4.
unfoldable pub pending_fits : ℕ → Marked → Bool
pending_fits terms m = eqb (mark_number m.mark) 0 && goal_fits terms m.goal

unfoldable pub parked_fits : ℕ → Marked → Bool
parked_fits terms m = leb 1 (mark_number m.mark) && goal_fits terms m.goal

unfoldable pub every {ℓ} : {A : Type ℓ} → (A → Bool) → List A → Bool
every test [] = true
every test (x ∷ xs) = test x && every test xs

pub record OpenGoals : Type 0 where
  pub pending : List Goal
  pub parked : List Marked

-- The first n are pending, the others parked.
unfoldable pub as_open : ℕ → ℕ → Option (List Marked) → Option OpenGoals
as_open n terms none = none
as_open n terms (some ms) =
    elim (every (pending_fits terms) (take n ms) && every (parked_fits terms) (drop n ms)) [
      | true ↦ some (record { pending = map (λ m. m.goal) (take n ms); parked = drop n ms })
      | false ↦ none
    ]

-- The open goals of so many answer terms that a store begins with, given their two counts; nothing for refusal 12.
unfoldable pub read_open : List Symbol → ℕ → ℕ → ℕ → List ℕ → Option OpenGoals
read_open symbols pending parked terms ws = as_open pending terms (read_goals symbols (pending + parked) ws)
