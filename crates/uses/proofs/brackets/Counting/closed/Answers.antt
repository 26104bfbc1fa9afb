-- The last pair of the row is known, or nothing changes.
use mathlib.Core.Path.{refl}
use Rattle.uses.proofs.BracketLaws.{closed-inside, closed-pair}
use Rattle.uses.proofs.brackets.Counting.closed.Goals as goal

pub returns-then-self-eq0 : goal.returns-then-self-eq0
returns-then-self-eq0 c = λ all at to t ts k l C. rw c.pop.ensures.rest (closed-pair all at to _ _ _ _ t ts k l C c.if-self-eq0.true _ refl)

pub returns-else-self-eq0 : goal.returns-else-self-eq0
returns-else-self-eq0 c = λ all at to t ts k l C. closed-inside all at to _ _ _ _ t ts k l C c.if-self-eq0.false
