-- `clauses::clause`: a clause is literals whose first cell is a predicate's.
use mathlib.Core.Path.{sym, ◌∙◌}
use mathlib.Core.Bool.{true, false}
use native.Mathlib.Omega.{arith}
use Rattle.deck.proofs.KindLaws.{not-positive}
use Rattle.deck.proofs.ScanLaws.{empty-clause, head-clause}
use Rattle.deck.proofs.clauses.clause.Goals as goal

pub returns-in_default : goal.returns-in_default
returns-in_default c = sym (empty-clause _ _ (omega arith))

pub returns-in-Positive : goal.returns-in-Positive
returns-in-Positive c = sym (head-clause _ _ (λ e. omega arith) ∙ rw (← c.read.ensures, c.in-Positive.is) (sym c.literals.ensures))

pub returns-in_default-read : goal.returns-in_default-read
returns-in_default-read c = sym (head-clause _ _ (λ e. omega arith) ∙ rw (← c.read.ensures, not-positive (λ n. true) false c.read.result c.in_default-read.not-Positive))
