-- `forget` meets its contract: the numbers are taken back from the last on. Assumes nothing.
use mathlib.Core.Path.{◌≡◌}
use lib.ListN.{length, take}
use Rattle.resolvents.specs.Naming.{Named}
use Rattle.resolvents.proofs.put.Draft.forget.Given as goal

-- the numbers, while the order is lent
abbrev pub invariant-loop-v : goal.invariant-loop-v
invariant-loop-v l =
    let left = l.v-iterator.iter.rest.now in
    Named l.self.1.1.0 l.fn.self.order (length left) × (left ≡ take (length left) l.fn.self.order)
