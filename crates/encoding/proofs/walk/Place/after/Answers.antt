-- After another token nothing is told by it.
use Rattle.text.specs.Kinds.{kind_of}
use Rattle.encoding.proofs.WalkLaws.{entries-inside, not-dot, not-tilde}
use Rattle.encoding.proofs.walk.Place.after.Goals as goal

pub returns-in_default : goal.returns-in_default
returns-in_default c = λ ts. let k = c.args.kind in entries-inside (kind_of k) ts (not-dot k c.in_default.not-Dot) (not-tilde k c.in_default.not-Tilde)
