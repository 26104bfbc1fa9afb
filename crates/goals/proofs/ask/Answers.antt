use Prim.Native.Nat.{◌+◌, ◌-◌}
use native.Mathlib.Omega.{arith}
use lib.ListN.{length, get_or}
use Rattle.goals.proofs.MirrorLaws.{first-of-mirrored}
use Rattle.goals.proofs.ask.Goals as goal

pub overflow_sub-store-2 : goal.overflow_sub-store-2
overflow_sub-store-2 c =
    let a = c.args in
    let n = length a.literal.now in
    omega (arith, (first-of-mirrored a.store.now a.literal.now a.held (a.held + (n + 2)) (n + 2) 0 0 c.restore.new.store (omega arith) (omega arith) (omega arith) c.restore.ensures).0)

pub returns-clause-store_after : goal.returns-clause-store_after
returns-clause-store_after c =
    let a = c.args in
    let n = length a.literal.now in
    let at = first-of-mirrored a.store.now a.literal.now a.held (a.held + (n + 2)) (n + 2) 0 (get_or a.literal.now 0 0 - 16384) c.restore.new.store (omega arith) (omega arith) (omega arith) c.restore.ensures in
    rw at.0 at.1
