-- The step, the decision of a negative literal and a level's run meet their contracts: a cycle of calls in which the levels left fall.
-- Assumes nothing.
-- The measures of the members of the cycle, and the invariant of the loop of `level`.
use Prim.Native.Nat.{◌+◌, ◌*◌}
use mathlib.Core.Path.{◌≡◌}
use mathlib.Core.List.{List}
use lib.ListN.{length}
use Rattle.rules.specs.Syntax.{Deck, Goal}
use Rattle.rules.specs.Refusals.{accepted}
use Rattle.rules.specs.Decks.{open_deck}
use Rattle.goals.specs.Store.{Holding}
use Rattle.levels.specs.Levels.{Later}
use Rattle.levels.proofs.GoingLaws.{Goes}
use Rattle.levels.proofs.+decide_level_negate_take_step.Given as goal

abbrev pub decreases-decide : goal.decreases-decide
decreases-decide l = 4 * l.below

abbrev pub decreases-level : goal.decreases-level
decreases-level l = 4 * l.below + 3

abbrev pub decreases-negate : goal.decreases-negate
decreases-negate l = 4 * l.below + 1

abbrev pub decreases-take_step : goal.decreases-take_step
decreases-take_step l = 4 * l.below + 2

abbrev pub invariant-level-loop-held : goal.invariant-level-loop-held
invariant-level-loop-held l =
    (length l.store ≡ length l.initial.store) × Later l.initial.account l.account
    × ((d : Deck) (gs : List Goal) → open_deck l.clauses.deck.words.now ≡ accepted d → Holding d.symbols l.initial.store l.start gs
    → Goes d l.below (length l.initial.store) gs l.initial.account l.store l.held l.account l.parked)

abbrev pub decreases-level-loop-held : goal.decreases-level-loop-held
decreases-level-loop-held l = l.account.left
