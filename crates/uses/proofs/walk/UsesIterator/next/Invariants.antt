-- The invariant: the first misuse is still ahead.
use Prim.Native.Nat.{◌-◌, ◌≤◌}
use mathlib.Core.Path.{◌≡◌}
use lib.ListN.{length}
use Rattle.uses.specs.Uses.{misuse_from}
use Rattle.uses.proofs.walk.UsesIterator.next.Given as goal

abbrev pub invariant-loop-self : goal.invariant-loop-self
invariant-loop-self l =
    let u = l.initial.self in
    (l.self.text ≡ u.text) × (u.at ≤ l.self.at) × (misuse_from u.text.text.now u.at ≡ misuse_from u.text.text.now l.self.at)

abbrev pub decreases-loop-self : goal.decreases-loop-self
decreases-loop-self l = length l.self.text.text.now - l.self.at
