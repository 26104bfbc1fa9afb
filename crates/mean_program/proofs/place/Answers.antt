-- Low byte first.
use Rattle.std.proofs.Common.{arith}
use Rattle.mean_program.proofs.InputLaws.{place-is}
use Rattle.mean_program.proofs.place.Goals as goal

pub returns : goal.returns
returns c = omega (arith, place-is c.args.input.now)
