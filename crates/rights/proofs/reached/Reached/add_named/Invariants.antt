-- `add_named`: what is left to be added.
use Rattle.std.proofs.Common.{◌≡◌, drop}
use Rattle.rules.specs.Goals.{appearing}
use Rattle.deck.specs.Kinds.{symbols_of}
use Rattle.rights.specs.Named.{named}
use Rattle.rights.proofs.reached.Reached.add_named.Given as goal

abbrev pub invariant-loop-cell : goal.invariant-loop-cell
invariant-loop-cell l =
    appearing l.self.list.items (named (symbols_of l.symbols) (drop l.cell-index l.cells)) ≡ appearing l.initial.self.list.items (named (symbols_of l.symbols) l.cells)
