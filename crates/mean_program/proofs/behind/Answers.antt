-- All but the first two.
use Rattle.mean_program.proofs.InputLaws.{behind-is}
use Rattle.mean_program.proofs.behind.Goals as goal

pub returns : goal.returns
returns c = behind-is c.args.input.now _ c.min-from.ensures
