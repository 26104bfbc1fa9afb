-- `is_term` meets its contract. The loop's invariant: the cells that are left are to be `places` terms. Assumes nothing.
use Prim.Native.Nat.{◌+◌, ◌*◌, ◌≤◌}
use mathlib.Core.Path.{◌≡◌}
use lib.ListN.{drop}
use Rattle.deck.specs.Kinds.{symbols_of}
use Rattle.drill.specs.Successors.{fills}
use Rattle.drill.proofs.is_term.Given as goal

abbrev pub invariant-loop-cell : goal.invariant-loop-cell
invariant-loop-cell l = (l.places ≤ 1 + 255 * l.cell-index) × (fills (symbols_of l.symbols) l.places (drop l.cell-index l.cells) ≡ fills (symbols_of l.symbols) 1 l.cells)
