-- `forget` meets its contract: the numbers are taken back from the last on. Assumes nothing.
use mathlib.Core.Path.{refl}
use native.Mathlib.Omega.{arith}
use lib.Seq.{length-take-le}
use Rattle.resolvents.proofs.NamingLaws.{named-popped}
use Rattle.resolvents.proofs.put.Draft.forget.Goals as goal

pub loop-v-init : goal.loop-v-init
loop-v-init c =
    let d = c.args.self.now in
    rw (c.into_iter-v-iterator.ensures.into_iter_gives, c.rev-v-items.ensures.source, c.iter.ensures.rest, length-take-le d.named d.order (omega (arith, d.numbered.counted, d.numbered.room))) (d.numbered, refl)

pub loop-v-preserved : goal.loop-v-preserved
loop-v-preserved c =
    let i = c.loop-v.invariant in
    rw c.from.ensures (named-popped _ _ (rw c.in-Some.ensures.steps at i.0) (rw c.in-Some.ensures.steps at i.1))

pub invariant_of-self : goal.invariant_of-self
invariant_of-self c = record { numbered = rw c.in-None.ensures.steps.0 at c.loop-v.invariant.0 }
