-- `first`: the goal's words are written in order and then reversed.
use mathlib.Core.Path.{◌≡◌}
use lib.Seq.{sets}
use Rattle.top_level.proofs.FirstLaws.{numbers}
use Rattle.top_level.proofs.first.Given as goal

abbrev pub invariant-loop-i : goal.invariant-loop-i
invariant-loop-i l = l.store ≡ sets l.initial.store 2 (numbers l.i)
