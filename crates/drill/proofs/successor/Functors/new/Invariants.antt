-- `new` meets its contract. The loop's invariant: the rows up to that of m cells are filled in. Assumes nothing.
use Prim.Native.Nat.{◌+◌}
use Rattle.deck.specs.Kinds.{symbols_of}
use Rattle.drill.specs.Successors.{AllKnown}
use Rattle.drill.proofs.successor.Functors.new.Given as goal

abbrev pub invariant-loop-m : goal.invariant-loop-m
invariant-loop-m l = AllKnown (symbols_of l.symbols) l.fillable (l.m + 1)
