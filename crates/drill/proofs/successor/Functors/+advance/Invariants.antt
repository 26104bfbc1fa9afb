-- `advance` meets its contract; the cells left fall at each call. Assumes nothing.
use lib.ListN.{length}
use Rattle.drill.proofs.successor.Functors.+advance.Given as goal

abbrev pub decreases-advance : goal.decreases-advance
decreases-advance l = length l.cells.now
