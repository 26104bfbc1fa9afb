-- `greatest`: the best so far and the cells that are left give the greatest.
use Rattle.std.proofs.Common.{◌≡◌, drop}
use Prim.Native.Nat.{max}
use Rattle.rules.specs.Ranks.{greatest}
use Rattle.rules.proofs.FlatLaws.{beginning}
use Rattle.deck.specs.Kinds.{symbols_of}
use Rattle.ranks.specs.Raising.{number}
use Rattle.ranks.proofs.raising.greatest.Given as goal

abbrev pub invariant-loop-cell : goal.invariant-loop-cell
invariant-loop-cell l =
    max l.best (greatest (number l.words) (beginning (symbols_of l.symbols) (drop l.cell-index l.body))) ≡ greatest (number l.words) (beginning (symbols_of l.symbols) l.body)
