-- The terms, or the refusal's line.
use Rattle.std.proofs.Common.{refl}
use Rattle.rules.specs.DrillProgram.{drill_run, drill_prints, drill_program}
use Rattle.listing.specs.Printed.{file_of}
use Rattle.program_parts.proofs.PrintLaws.{Prints-or_refusal}
use Rattle.drill_program.proofs.drill_printed.Goals as goal

pub returns : goal.returns
unfolding drill_program drill_prints
returns c =
    Prints-or_refusal drill_prints (λ _. refl) (drill_run (file_of c.args.file) c.args.input.now) c.args.out.now c.asked-printed.result _ _ _ c.asked-printed.ensures c.or_refusal.ensures
