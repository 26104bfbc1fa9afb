-- `predicate`: a literal starts where no term is to come.
use native.Mathlib.Omega.{arith}
use Rattle.deck.proofs.CellsLaws.{predicate-within, predicate-many, predicate-on}
use Rattle.deck.proofs.terms.predicate.Goals as goal

pub returns-then-todo-gt0 : goal.returns-then-todo-gt0
returns-then-todo-gt0 c = predicate-within c.args.arity c.args.room c.args.todo c.args.next c.if-todo-gt0.true

pub returns-then-room-arity : goal.returns-then-room-arity
returns-then-room-arity c = predicate-many c.args.arity c.args.room c.args.todo c.args.next (omega arith) c.if-room-arity.true

pub returns : goal.returns
returns c = predicate-on c.args.arity c.args.room c.args.todo c.args.next (omega arith) c.if-room-arity.false
