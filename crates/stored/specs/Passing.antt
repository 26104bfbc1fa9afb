-- Open goals passed one after another, and the cells of a goal.
use Rattle.std.specs.Prelude.{ℕ, ◌+◌, ◌≤◌, ◌<◌, ◌≡◌, Bool, true, false, not, ◌&&◌, List, length, take, drop, leb, eqb, Option, Some, None}
use Rattle.std.specs.List.{prefix_len}
use Rattle.std.proofs.Math.Option.{none, some}
use Rattle.rules.specs.Syntax.{Symbol}
use Rattle.rules.specs.Cells.{read_cell}
use Rattle.rules.specs.Goals.{Marked, words_of, marked_words, goal_words, goal_read, read_goal, read_goals}
use Rattle.rules.specs.Stored.{pending_fits, parked_fits, every, OpenGoals, read_open}
use Rattle.deck.specs.Kinds.{kind_of, begins_literal}
use Rattle.stored.specs.Before.{before}

-- Whether a cell is no predicate's.
abbrev pub leads : List Symbol → ℕ → Bool
leads S c = not (begins_literal (kind_of (read_cell S c)))

-- The number of cells in front of the first predicate's.
unfoldable pub lead : List Symbol → List ℕ → ℕ
lead S cells = prefix_len (leads S) cells

-- A parked goal, or a pending one.
abbrev pub mark_fits : Bool → ℕ → Bool
mark_fits false mark = eqb mark 0
mark_fits true mark = leb 1 mark && leb mark 4

abbrev pub fits_as : Bool → ℕ → Marked → Bool
fits_as false terms m = pending_fits terms m
fits_as true terms m = parked_fits terms m

module _ (S : List Symbol) (test : Marked → Bool) (store : List ℕ) where
  -- The goal at `at` that passes a test, and the place after it; or that there is none.
  pub record GoalAt (at end : ℕ) : Type 0 where
    pub goal : Marked
    pub reads : read_goal S (drop at store) ≡ some (goal_read goal (drop end store))
    pub passes : test goal ≡ true
    pub words : end ≡ at + goal_words goal.goal
    pub inside : end ≤ length store
    pub later : at < end

  abbrev pub GoalFound : ℕ → Option ℕ → Type 0
  GoalFound at (Some end) = GoalAt at end
  GoalFound at None = (m : Marked) (rest : List ℕ) → read_goal S (drop at store) ≡ some (goal_read m rest) → test m ≡ true → ⊥

  -- The goals from `at` up to `end`, which pass the test.
  pub record Passed (at end : ℕ) : Type 0 where
    pub goals : List Marked
    pub reads : (k : ℕ) → read_goals S (length goals + k) (drop at store) ≡ before goals (read_goals S k (drop end store))
    pub passes : every test goals ≡ true
    pub words : end ≡ at + marked_words goals
    pub inside : end ≤ length store

  abbrev pub GoalsFound : ℕ → ℕ → Option ℕ → Type 0
  GoalsFound at count (Some end) = (p : Passed at end) × (length p.goals ≡ count)
  GoalsFound at count None = (k : ℕ) (ms : List Marked) → read_goals S (count + k) (drop at store) ≡ some ms → every test (take count ms) ≡ true → ⊥

-- The open goals that the store begins with, the place after the pending ones, and the place after all of them.
abbrev pub OpenFound : List Symbol → List ℕ → ℕ → ℕ → ℕ → Option (ℕ × ℕ) → Type 0
OpenFound S store pending parked terms (Some p) =
    (o : OpenGoals) × (read_open S pending parked terms store ≡ some o) × (p.0 ≡ words_of o.pending) × (p.1 ≡ p.0 + marked_words o.parked) × (p.1 ≤ length store)
OpenFound S store pending parked terms None = read_open S pending parked terms store ≡ none
