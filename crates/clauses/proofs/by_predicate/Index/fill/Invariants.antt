-- `fill` meets its contract. The loop's invariant: the rows of the predicates below p are filled. Assumes nothing.
use Rattle.clauses.specs.Index.{FilledBelow}
use Rattle.clauses.proofs.by_predicate.Index.fill.Given as goal

abbrev pub invariant-loop-p : goal.invariant-loop-p
invariant-loop-p l = FilledBelow l.deck.words.now l.p l.self
