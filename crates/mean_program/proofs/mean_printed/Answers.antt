-- The line, or the refusal's.
use Rattle.listing.specs.Printed.{file_of}
use Rattle.std.proofs.Common.{refl}
use Rattle.mean_program.specs.MeanProgram.{mean_run, mean_prints, mean_program}
use Rattle.program_parts.proofs.PrintLaws.{Prints-or_refusal}
use Rattle.mean_program.proofs.mean_printed.Goals as goal

pub returns : goal.returns
unfolding mean_program mean_prints
returns c =
    Prints-or_refusal mean_prints (λ _. refl) (mean_run (file_of c.args.deck) c.args.input.now) c.args.out.now c.asked-printed.result _ _ _ c.asked-printed.ensures c.or_refusal.ensures
