-- The budget is what the digits that are left make of n.
use Rattle.std.proofs.Common.{◌≡◌, drop}
use Rattle.rules.specs.CarryProgram.{budget_after}
use Rattle.carry_program.proofs.input.digits.Given as goal

abbrev pub invariant-loop-byte : goal.invariant-loop-byte
invariant-loop-byte l = budget_after l.n (drop l.byte-index l.text) ≡ budget_after 0 l.text
