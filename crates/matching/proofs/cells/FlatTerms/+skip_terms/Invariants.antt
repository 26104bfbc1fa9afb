-- `skip_terms` meets its contract. The measure is the number of cells that remain.
use Prim.Native.Nat.{◌-◌}
use lib.ListN.{length}
use Rattle.matching.proofs.cells.FlatTerms.+skip_terms.Given as goal

abbrev pub decreases-skip_terms : goal.decreases-skip_terms
decreases-skip_terms l = length l.self.now.cells.now - l.p
