-- The pair joins the row, or is one more inside it.
use native.Mathlib.Omega.{arith}
use Rattle.uses.proofs.BracketLaws.{opened_inside, pushed}
use Rattle.uses.proofs.brackets.Counting.opened.Goals as goal

pub returns-then-self-eq4096 : goal.returns-then-self-eq4096
returns-then-self-eq4096 c = λ all at to t ts k l C. opened_inside all at to _ _ _ _ t ts k l C c.if-self-eq4096.true

pub returns : goal.returns
returns c = λ all at to t ts k l C. rw c.push.ensures.items (pushed all at to _ _ _ _ t ts k l C (omega (arith, c.args.self.now.most, c.if-self-eq4096.false)))
