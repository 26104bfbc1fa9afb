-- `resume`: the goals are held, and the parked ones take the words that are not the pending ones'.
use mathlib.Core.Path.{refl}
use Rattle.evaluation.proofs.carry.resume.Goals as goal

pub returns : goal.returns
returns c = record { budget = refl; stored = c.resume.ensures }
