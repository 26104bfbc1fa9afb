-- `resolve` meets its contract: each turn goes one variable further in the trail. Assumes nothing.
use native.Mathlib.Omega.{arith}
use Rattle.matching.proofs.SeenLaws.{resolved, resolved-free, bound-to, resolving-more, resolving-less}
use Rattle.matching.proofs.bindings.Bound.resolve.Goals as goal

pub returns-then-c-lt-VARIABLE : goal.returns-then-c-lt-VARIABLE
returns-then-c-lt-VARIABLE c = resolved c.loop-p.invariant (λ l. absurd (omega (arith, c.if-c-lt-VARIABLE.true)))

pub returns-in_default : goal.returns-in_default
returns-in_default c = resolved-free c.loop-p.invariant c.from.ensures c.in_default.not-Some

pub loop-p-smaller : goal.loop-p-smaller
loop-p-smaller c = rw c.from-at.ensures (resolving-less c.args.self.now.triangular c.loop-p.invariant (bound-to c.if-c-lt-VARIABLE.false c.from.ensures c.in-Some.is))

pub loop-p-preserved : goal.loop-p-preserved
loop-p-preserved c = rw c.from-at.ensures (resolving-more c.args.self.now.triangular c.loop-p.invariant (bound-to c.if-c-lt-VARIABLE.false c.from.ensures c.in-Some.is))
