-- `skip` meets its contract.
use native.Mathlib.Omega.{arith}
use Rattle.matching.proofs.CellLaws.{from-pos}
use Rattle.matching.proofs.cells.FlatTerms.skip.Goals as goal

pub skip_terms-requires : goal.skip_terms-requires
skip_terms-requires c = (omega (arith, c.requires), from-pos _ _ _ c.requires)
