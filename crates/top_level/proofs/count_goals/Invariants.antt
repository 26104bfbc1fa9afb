-- `count_goals`: from one goal to the next by their lengths.
use Prim.Native.Nat.{◌+◌, ◌≤◌}
use mathlib.Core.List.{List}
use lib.ListN.{length}
use Rattle.rules.specs.Syntax.{Symbol}
use Rattle.rules.specs.Goals.{Marked}
use Rattle.top_level.specs.Top.{Written}
use Rattle.top_level.proofs.CountLaws.{Passed}
use Rattle.top_level.proofs.count_goals.Given as goal

abbrev pub invariant-loop-rest : goal.invariant-loop-rest
invariant-loop-rest l =
    (l.n + length l.rest ≤ length l.words) × ((S : List Symbol) (ms : List Marked) → Written S l.words ms → Passed S l.rest l.n ms)

abbrev pub decreases-loop-rest : goal.decreases-loop-rest
decreases-loop-rest l = length l.rest
