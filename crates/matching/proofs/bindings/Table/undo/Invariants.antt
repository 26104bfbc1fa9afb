-- `undo` meets its contract: what is bound is always among the variables that are left. Assumes nothing.
use mathlib.Core.Path.{◌≡◌}
use lib.ListN.{length}
use Rattle.matching.specs.Bindings.{Trailed}
use Rattle.matching.proofs.bindings.Table.undo.Given as goal

-- the bindings and the stamps, while the trail is lent
abbrev pub invariant-loop-v : goal.invariant-loop-v
invariant-loop-v l =
    let left = l.v-iterator.iter.rest.now in
    Trailed l.self.1.0 left l.self.1.1.1.0 (length left) × (length l.self.1.0 ≡ 1280) × (length l.self.1.1.1.0 ≡ 1280)
