-- The file of a display.
use mathlib.Core.Path.{refl}
use Rattle.rules.specs.Refusals.{and_then, require, obtain}
use Rattle.press_program.specs.PressProgram.{display_input}
use Rattle.carry_program.proofs.InputLaws.{BySize}

pub display-sized : BySize 48 32816 display_input
unfolding display_input and_then require obtain
display-sized = record { missing = refl; unfit = λ bytes e. rw e refl; whole = λ bytes e. rw e refl }
