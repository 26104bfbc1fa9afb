-- `fill` meets its contract; the cells left fall at each call. Assumes nothing.
use lib.ListN.{length}
use Rattle.drill.proofs.successor.Functors.+fill.Given as goal

abbrev pub decreases-fill : goal.decreases-fill
decreases-fill l = length l.cells.now
