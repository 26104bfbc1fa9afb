-- `next` meets its contract. The loop's invariant: the first k entries are filled in. Assumes nothing.
use Rattle.deck.specs.Kinds.{symbols_of}
use Rattle.drill.proofs.TableLaws.{Filled}
use Rattle.drill.proofs.table.Row.next.Given as goal

abbrev pub invariant-loop-k : goal.invariant-loop-k
invariant-loop-k l = Filled (symbols_of l.self.symbols.now) l.m l.fillable l.k
