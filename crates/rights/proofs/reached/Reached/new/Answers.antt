-- `new` meets its contract.
use Rattle.std.proofs.Common.{refl}
use Rattle.rights.proofs.MarkLaws.{marks-none}
use Rattle.rights.proofs.reached.Reached.new.Goals as goal

pub invariant_of-result : goal.invariant_of-result
invariant_of-result c = record { marked = rw c.new.ensures (marks-none 4096 refl) }
