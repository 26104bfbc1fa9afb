-- `occurs` and `occurs_any` meet their contracts. The measure is twice the size of the terms after the eliminations, and 1 for `occurs_any`.
-- Assumes nothing.
use Prim.Native.Nat.{◌+◌, ◌*◌}
use Rattle.rules.specs.Terms.{size, sizes}
use Rattle.matching.specs.Bindings.{value, seen}
use Rattle.matching.proofs.occurs.+occurs_occurs_any.Given as goal

abbrev pub decreases-occurs : goal.decreases-occurs
decreases-occurs l = 2 * size (value l.terms.now.symbols.now l.terms.now.cells.now l.table.now.bind l.table.now.trail l.table.now.bound l.p)

abbrev pub decreases-occurs_any : goal.decreases-occurs_any
decreases-occurs_any l = 2 * sizes (seen l.terms.now.symbols.now l.terms.now.cells.now l.table.now.bind l.table.now.trail l.table.now.bound l.p l.number) + 1
