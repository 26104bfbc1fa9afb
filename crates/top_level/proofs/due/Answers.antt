-- `due`: by what is pending and by the budget.
use native.Mathlib.Omega.{arith}
use Rattle.top_level.proofs.TopLaws.{stops-empty, stops-spent}
use Rattle.top_level.proofs.due.Goals as goal

pub returns-then-at-eq0 : goal.returns-then-at-eq0
returns-then-at-eq0 c = λ s again k answers store h. stops-empty again h.1 (omega (arith, c.if-at-eq0.true))

pub returns-then-left-eq0 : goal.returns-then-left-eq0
returns-then-left-eq0 c = λ s again k answers store h. stops-spent again h.1 (omega (arith, c.if-at-eq0.false)) (omega (arith, c.if-left-eq0.true, c.left-left.ensures))

pub returns : goal.returns
returns c = λ s again k answers store h. (h.0, omega (arith, c.if-at-eq0.false), omega (arith, c.if-left-eq0.false, c.left-left.ensures), h.1)
