-- `new` meets its contract. Assumes nothing.
use native.Mathlib.Omega.{arith}
use Rattle.deck.specs.Kinds.{symbols_of}
use Rattle.drill.proofs.TableLaws.{rows-first, rows_more}
use Rattle.drill.proofs.successor.Functors.new.Goals as goal

pub loop-m-init : goal.loop-m-init
loop-m-init c = rows-first (symbols_of c.args.symbols.now) c.first_row-fillable.result (c.first_row-fillable.ensures _)

pub loop-m-preserved : goal.loop-m-preserved
loop-m-preserved c = rows_more c.loop-m.invariant c.next.result c.next.ensures (omega arith)
