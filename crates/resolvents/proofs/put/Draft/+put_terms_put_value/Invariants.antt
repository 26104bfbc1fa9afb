-- `put_terms` and `put_value` meet their contracts. The loop's invariant: whatever is written from the cell i on makes the whole. The measure
-- is twice the size of the terms after the eliminations, and 1 for `put_terms`. Assumes nothing.
use Prim.Native.Nat.{◌+◌, ◌*◌}
use mathlib.Core.Path.{◌≡◌}
use lib.ListN.{length}
use Rattle.rules.specs.Terms.{size, sizes}
use Rattle.matching.specs.Bindings.{value}
use Rattle.resolvents.specs.Naming.{shown, Wrote}
use Rattle.resolvents.proofs.WalkLaws.{Putting}
use Rattle.resolvents.proofs.put.Draft.+put_terms_put_value.Given as goal

abbrev pub decreases-put_terms : goal.decreases-put_terms
decreases-put_terms l = 2 * sizes (shown l.bound.now.terms.symbols.now l.bound.now.terms.cells.now l.bound.now.table.now.bind l.bound.now.table.now.trail l.bound.now.table.now.bound l.p l.end l.number) + 1

abbrev pub decreases-put_value : goal.decreases-put_value
decreases-put_value l = 2 * size (value l.bound.now.terms.symbols.now l.bound.now.terms.cells.now l.bound.now.table.now.bind l.bound.now.table.now.trail l.bound.now.table.now.bound l.p)

abbrev pub invariant-put_terms-loop-i : goal.invariant-put_terms-loop-i
invariant-put_terms-loop-i l =
    let ts = shown l.bound.terms.symbols.now l.bound.terms.cells.now l.bound.table.now.bind l.bound.table.now.trail l.bound.table.now.bound l.p l.end l.number in
    let d = l.initial.self in
    Putting l.bound.terms.symbols.now l.bound.terms.cells.now l.bound.table.now.bind l.bound.table.now.trail l.bound.table.now.bound l.end (sizes ts) (Wrote d.child d.order l.to d.named ts) l.self.names l.self.order l.self.child l.i l.todo l.at l.self.named
    × (length l.self.child ≡ 1024)
