-- The text, or the refusal's line.
use Rattle.std.proofs.Common.{refl}
use Rattle.text_rules.specs.TextProgram.{write_run, write_prints, write_program}
use Rattle.listing.specs.Printed.{file_of}
use Rattle.program_parts.proofs.PrintLaws.{Prints-or_refusal}
use Rattle.text_program.proofs.write_printed.Goals as goal

pub returns : goal.returns
unfolding write_program write_prints
returns c =
    Prints-or_refusal write_prints (λ _. refl) (write_run (file_of c.args.file)) c.args.out.now c.written-printed.result _ _ _ c.written-printed.ensures c.or_refusal.ensures
