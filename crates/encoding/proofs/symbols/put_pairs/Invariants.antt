-- The invariant: the first j pairs are put.
use Prim.Native.Nat.{◌*◌}
use mathlib.Core.Path.{◌≡◌}
use mathlib.Core.List.{◌++◌}
use lib.ListN.{take, drop}
use Rattle.encoding.specs.Symbols.{pair_words}
use Rattle.encoding.proofs.symbols.put_pairs.Given as goal

abbrev pub invariant-loop-j : goal.invariant-loop-j
invariant-loop-j l = l.words ≡ take (2 * l.j) (pair_words l.names.names.now.entries) ++ drop (2 * l.j) l.initial.words
