-- The test of the size is the rules'.
use Rattle.std.proofs.Common.{rules}
use Rattle.press_program.specs.PressProgram.{display_input}
use Rattle.carry_program.proofs.InputLaws.{file-comes}
use Rattle.press_program.proofs.InputLaws.{display-sized}
use Rattle.press_program.proofs.input.display_file.Goals as goal

pub returns-clause-comes : goal.returns-clause-comes
returns-clause-comes c = rw c.ok_or.ensures.value (file-comes 48 32816 display_input display-sized (λ x b g. search rules) _ _ c.filter.ensures).0

pub returns-clause-length : goal.returns-clause-length
returns-clause-length c = rw c.ok_or.ensures.value (file-comes 48 32816 display_input display-sized (λ x b g. search rules) _ _ c.filter.ensures).1
