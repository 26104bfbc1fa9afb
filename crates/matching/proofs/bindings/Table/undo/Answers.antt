-- `undo` meets its contract: what is bound is always among the variables that are left. Assumes nothing.
use mathlib.Core.Path.{◌∙◌}
use lib.ListN.{length-set}
use Rattle.matching.proofs.TrailLaws.{trailed-taken, trailed-popped, trailed-none}
use Rattle.matching.proofs.bindings.Table.undo.Goals as goal

pub loop-v-init : goal.loop-v-init
loop-v-init c = rw (c.into_iter-v-iterator.ensures.into_iter_gives, c.rev-v-items.ensures.source, c.iter.ensures.rest) (trailed-taken c.requires, c.args.self.now.sized.0, c.args.self.now.sized.2)

pub loop-v-preserved : goal.loop-v-preserved
loop-v-preserved c =
    let i = c.loop-v.invariant in
    rw (c.from.ensures, c.from-in-loop-v.ensures) (trailed-popped _ _ (rw c.in-Some.ensures.steps at i.0), length-set _ _ _ ∙ i.1, length-set _ _ _ ∙ i.2)

pub invariant_of-self : goal.invariant_of-self
invariant_of-self c = record { sized = (c.loop-v.invariant.1, c.args.self.now.sized.1, c.loop-v.invariant.2) }

pub returns-clause-blank : goal.returns-clause-blank
returns-clause-blank c = trailed-none c.loop-v.invariant.0 c.in-None.ensures.steps.0
