-- `first` meets its contract. The loop's invariant: no term is smaller than `size`. Assumes nothing.
use Prim.Native.Nat.{suc, ◌-◌, ◌≤◌}
use mathlib.Core.Path.{◌≡◌}
use Rattle.rules.specs.Drill.{terms_from}
use Rattle.deck.specs.Kinds.{symbols_of}
use Rattle.drill.proofs.successor.Functors.first.Given as goal

abbrev pub invariant-loop-size : goal.invariant-loop-size
invariant-loop-size l =
    let S = symbols_of l.self.symbols.now in
    (1 ≤ l.size) × (terms_from S l.size (suc l.n - l.size) ≡ terms_from S l.from (suc l.n - l.from))
