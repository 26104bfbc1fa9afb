-- `add_goals`: what the goals that are left name is still to be added.
use Rattle.std.proofs.Common.{◌-◌, ◌≤◌, ℕ, List, length}
use Rattle.rules.specs.Syntax.{Symbol}
use Rattle.rules.specs.Goals.{Marked}
use Rattle.deck.specs.Kinds.{symbols_of}
use Rattle.rights.specs.Reached.{AreGoals}
use Rattle.rights.proofs.GoalLaws.{Left}
use Rattle.rights.proofs.reached.Reached.add_goals.Given as goal

pub record Loop (S : List Symbol) (words list₀ list : List ℕ) (at : ℕ) : Type 0 where
  pub inside : at ≤ length words
  pub left : (ms : List Marked) → AreGoals S words ms → Left S words ms list₀ list at

abbrev pub invariant-loop-at : goal.invariant-loop-at
invariant-loop-at l = Loop (symbols_of l.symbols) l.goals l.initial.self.list.items l.self.list.items l.at

abbrev pub decreases-loop-at : goal.decreases-loop-at
decreases-loop-at l = length l.goals - l.at
