-- `pair` and `pairs` meet their contracts. The measure is twice the number of equations that the unification takes, and 1 for `pairs`.
-- Assumes nothing.
use Prim.Native.Nat.{◌+◌, ◌*◌}
use Rattle.rules.specs.Unification.{unify, equations}
use Rattle.matching.specs.Bindings.{alone, seen}
use Rattle.matching.proofs.unify.+pair_pairs.Given as goal

abbrev pub decreases-pair : goal.decreases-pair
decreases-pair l = 2 * equations (unify (alone l.terms.now.symbols.now l.terms.now.cells.now l.table.now.bind l.table.now.trail l.table.now.bound l.a) (alone l.terms.now.symbols.now l.terms.now.cells.now l.table.now.bind l.table.now.trail l.table.now.bound l.b))

abbrev pub decreases-pairs : goal.decreases-pairs
decreases-pairs l = 2 * equations (unify (seen l.terms.now.symbols.now l.terms.now.cells.now l.table.now.bind l.table.now.trail l.table.now.bound l.p l.number) (seen l.terms.now.symbols.now l.terms.now.cells.now l.table.now.bind l.table.now.trail l.table.now.bound l.q l.number)) + 1
