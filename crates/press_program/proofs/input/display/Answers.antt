-- The five numbers.
use Rattle.std.proofs.Common.{refl}
use Rattle.press_program.specs.PressProgram.{display_from}
use Rattle.press_program.proofs.input.display.Goals as goal

pub returns : goal.returns
unfolding display_from
returns c = rw (c.number.ensures, c.number-2.ensures, c.number-3.ensures, c.number-4.ensures, c.number-5.ensures) refl
