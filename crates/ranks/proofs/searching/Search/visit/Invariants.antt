-- `visit`: the literals that begin in the cells so far are followed.
use Rattle.std.proofs.Common.{drop}
use Rattle.rules.proofs.FlatLaws.{beginning}
use Rattle.deck.specs.Kinds.{symbols_of}
use Rattle.ranks.proofs.SearchLaws.{Going}
use Rattle.ranks.proofs.searching.Search.visit.Given as goal

abbrev pub invariant-loop-cell : goal.invariant-loop-cell
invariant-loop-cell l =
    Going (beginning (symbols_of l.symbols) l.body) l.mark l.initial.self.marks l.initial.self.waiting.items
    (beginning (symbols_of l.symbols) (drop l.cell-index l.body)) l.self.marks l.self.waiting.items
