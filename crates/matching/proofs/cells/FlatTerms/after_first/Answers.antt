-- `after_first` meets its contract. Assumes nothing.
use native.Mathlib.Omega.{arith}
use Rattle.matching.proofs.CellLaws.{from-inside, next-skipped, next-none}
use Rattle.matching.proofs.cells.FlatTerms.after_first.Goals as goal

pub skip-requires : goal.skip-requires
skip-requires c = from-inside c.args.self.now.symbols.now c.args.self.now.cells.now c.args.p (omega (arith, c.requires, c.if-number-gt1.true))

pub returns-then-number-gt1 : goal.returns-then-number-gt1
returns-then-number-gt1 c = next-skipped _ c.requires (omega arith) c.skip.ensures.1

pub returns-else-number-gt1 : goal.returns-else-number-gt1
returns-else-number-gt1 c = next-none _ c.if-number-gt1.false
