-- The words from a up to j are moved.
use Prim.Native.Nat.{◌≤◌}
use mathlib.Core.Path.{◌≡◌}
use lib.ListN.{length}
use Rattle.words.proofs.Sets.{down}
use Rattle.words.proofs.move_down.Given as goal

abbrev pub invariant-loop-j : goal.invariant-loop-j
invariant-loop-j l = (l.a ≤ l.j) × (l.j ≤ l.b) × (length l.s ≡ length l.initial.s) × (l.s ≡ down l.a l.j l.d l.initial.s)
