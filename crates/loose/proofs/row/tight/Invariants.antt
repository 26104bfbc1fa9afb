-- `tight`: what the marks say of the cells passed.
use Rattle.deck.specs.Kinds.{symbols_of}
use Rattle.loose.proofs.MarkLaws.{Passed}
use Rattle.loose.proofs.row.tight.Given as goal

abbrev pub invariant-loop-cell : goal.invariant-loop-cell
invariant-loop-cell l = Passed (symbols_of l.symbols) l.cells l.marks l.stamp l.cell-index l.inside l.count
