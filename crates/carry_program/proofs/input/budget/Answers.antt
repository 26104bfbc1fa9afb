-- The text's digits, or 100,000.
use Rattle.std.proofs.Common.{refl}
use Rattle.rules.specs.CarryProgram.{budget_from}
use Rattle.carry_program.proofs.input.budget.Goals as goal

pub returns-in-Some : goal.returns-in-Some
unfolding budget_from
returns-in-Some c = rw c.in-Some.is c.digits.ensures

pub returns-in-None : goal.returns-in-None
unfolding budget_from
returns-in-None c = rw c.in-None.is refl
