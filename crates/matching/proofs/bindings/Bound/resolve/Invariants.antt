-- `resolve` meets its contract: each turn goes one variable further in the trail. Assumes nothing.
use lib.ListN.{get_or, take}
use Rattle.matching.proofs.SeenLaws.{rank, Resolving}
use Rattle.matching.proofs.bindings.Bound.resolve.Given as goal

abbrev pub invariant-loop-p : goal.invariant-loop-p
invariant-loop-p l = Resolving l.self.terms.symbols.now l.self.terms.cells.now l.self.table.now.bind l.self.table.now.trail l.self.table.now.bound l.p l.at

abbrev pub decreases-loop-p : goal.decreases-loop-p
decreases-loop-p l = rank (take l.self.table.now.bound l.self.table.now.trail) (get_or l.self.terms.cells.now l.at 0)
