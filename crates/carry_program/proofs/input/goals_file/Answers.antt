-- The test of the size is the rules'.
use Rattle.std.proofs.Common.{rules}
use Rattle.rules.specs.CarryProgram.{goals_input}
use Rattle.carry_program.proofs.InputLaws.{goals-sized, file-comes}
use Rattle.carry_program.proofs.input.goals_file.Goals as goal

pub returns-clause-comes : goal.returns-clause-comes
returns-clause-comes c = rw c.ok_or.ensures.value (file-comes 24 32792 goals_input goals-sized (λ x b g. search rules) _ _ c.filter.ensures).0

pub returns-clause-length : goal.returns-clause-length
returns-clause-length c = rw c.ok_or.ensures.value (file-comes 24 32792 goals_input goals-sized (λ x b g. search rules) _ _ c.filter.ensures).1
