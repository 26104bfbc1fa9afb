-- By the byte.
use native.Mathlib.Omega.{arith}
use mathlib.Core.Path.{◌∙◌}
use Rattle.uses.proofs.BracketLaws.{other-token}
use Rattle.uses.proofs.MarkLaws.{mark-opening, mark-closing, mark-comma, mark-none}
use Rattle.uses.proofs.brackets.Counting.step.Goals as goal

pub returns-in-40 : goal.returns-in-40
returns-in-40 c = λ all at to t ts k l C. c.opened.ensures all at to t ts (k ∙ mark-opening c.args.byte c.in-40.is) l C

pub returns-in-41 : goal.returns-in-41
returns-in-41 c = λ all at to t ts k l C. c.closed.ensures all at to t ts (k ∙ mark-closing c.args.byte c.in-41.is) l C

pub returns-in-44 : goal.returns-in-44
returns-in-44 c = λ all at to t ts k l C. c.separated.ensures all at to t ts (k ∙ mark-comma c.args.byte c.in-44.is) l C

pub returns-in_default : goal.returns-in_default
returns-in_default c = λ all at to t ts k l C. other-token all at to _ _ _ _ t ts (k ∙ mark-none c.args.byte (λ q. omega arith) (λ q. omega arith) (λ q. omega arith)) l C
