-- The eight bytes are added.
use Rattle.std.proofs.Common.{ap, arith, length, ◌∙◌}
use Rattle.carry_program.proofs.OutputLaws.{to_le_bytes-number_bytes}
use Rattle.press_program.proofs.showing.put_number.Goals as goal

pub put-requires : goal.put-requires
put-requires c = omega (arith, ap length c.to_le_bytes.ensures, c.requires)

pub returns : goal.returns
returns c = rw (c.to_le_bytes.ensures ∙ to_le_bytes-number_bytes c.args.n) at c.put.ensures
