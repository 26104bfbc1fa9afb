-- The word of what a press came to, and the line's end.
use Rattle.std.proofs.Common.{refl}
use Rattle.press_program.specs.PressProgram.{advance_text}
use Rattle.press_program.proofs.showing.line.Goals as goal

pub returns-in-Stepped : goal.returns-in-Stepped
unfolding advance_text
returns-in-Stepped c = rw c.in-Stepped.is refl

pub returns-in-Prevented : goal.returns-in-Prevented
unfolding advance_text
returns-in-Prevented c = rw c.in-Prevented.is c.stop_line.ensures
