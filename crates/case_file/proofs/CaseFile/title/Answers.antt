-- The line is the piece.
use native.Mathlib.Omega.{arith}
use Rattle.case_file.proofs.CaseFile.title.Goals as goal

pub returns-clause-taken : goal.returns-clause-taken
returns-clause-taken g c = (_, omega (arith, c.taken.ensures.in_bounds, c.count-size.ensures.value), (c.number.new.self.file, c.number.ensures.taken, c.taken.ensures.taken))
