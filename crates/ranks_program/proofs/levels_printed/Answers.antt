-- The text, or the refusal's line.
use Rattle.listing.specs.Printed.{file_of}
use Rattle.ranks_program.proofs.LevelsLaws.{told-or-line}
use Rattle.ranks_program.proofs.levels_printed.Goals as goal

pub returns : goal.returns
returns c = told-or-line (file_of c.args.file) c.args.out.now c.told-printed.result _ _ _ c.told-printed.ensures c.or_refusal.ensures
