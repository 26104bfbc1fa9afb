-- The invariant: no entry is passed.
use Prim.Native.Nat.{◌-◌, ◌≤◌}
use mathlib.Core.Path.{◌≡◌}
use lib.ListN.{length}
use Rattle.encoding.specs.Walk.{entries_left}
use Rattle.encoding.proofs.walk.EntriesIterator.next.Given as goal

abbrev pub invariant-loop-self : goal.invariant-loop-self
invariant-loop-self l =
    let w = l.initial.self in
    (l.self.text ≡ w.text) × (w.at ≤ l.self.at) × (entries_left l.self ≡ entries_left w)

abbrev pub decreases-loop-self : goal.decreases-loop-self
decreases-loop-self l = length l.self.text.now - l.self.at
