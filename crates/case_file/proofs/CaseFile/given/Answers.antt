-- The number is taken, and then the piece.
use Rattle.case_file.proofs.CaseFile.given.Goals as goal

pub returns-clause-taken : goal.returns-clause-taken
returns-clause-taken g c = (c.number-length.new.self.file, c.number-length.ensures.taken, c.taken.ensures.taken)
