-- `row`: the scan from the start is the scan from `at`.
use Prim.Native.Nat.{◌-◌, ◌≤◌}
use mathlib.Core.Path.{◌≡◌}
use lib.ListN.{length, drop}
use Rattle.deck.specs.Kinds.{symbols_of}
use Rattle.deck.specs.Scan.{scan}
use Rattle.deck.proofs.terms.row.Given as goal

abbrev pub invariant-loop-at : goal.invariant-loop-at
invariant-loop-at l = (l.at ≤ length l.cells) × (l.todo ≤ length l.cells - l.at) × (l.next ≤ l.at) × (scan (symbols_of l.symbols) l.cells l.terms 0 ≡ scan (symbols_of l.symbols) (drop l.at l.cells) l.todo l.next)
