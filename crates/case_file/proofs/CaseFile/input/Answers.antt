-- The length is taken, and then the piece.
use Rattle.case_file.proofs.CaseFile.input.Goals as goal

pub returns-clause-taken : goal.returns-clause-taken
returns-clause-taken g c = (c.number-length.new.self.file, _, c.number-length.ensures.taken, rw c.number-length.ensures.width at c.given.ensures.taken)
