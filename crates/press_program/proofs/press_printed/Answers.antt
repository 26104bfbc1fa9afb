-- What is printed, or the refusal's line.
use Rattle.std.proofs.Common.{refl}
use Rattle.program_parts.proofs.PrintLaws.{Prints-or_refusal}
use Rattle.press_program.specs.PressProgram.{press_run, press_text, press_program}
use Rattle.press_program.proofs.press_printed.Goals as goal

pub returns : goal.returns
unfolding press_program press_text
returns c =
    Prints-or_refusal press_text (λ _. refl) (press_run _ _ _ _) c.args.out.now c.pressed-printed.result _ _ _ (rw c.budget-most.ensures at c.pressed-printed.ensures) c.or_refusal.ensures
