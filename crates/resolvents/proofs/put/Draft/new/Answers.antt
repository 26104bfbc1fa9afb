-- `Draft::new` meets its contract.
use native.Mathlib.Omega.{arith}
use Rattle.resolvents.proofs.NamingLaws.{named_none}
use Rattle.resolvents.proofs.put.Draft.new.Goals as goal

pub invariant_of-result : goal.invariant_of-result
invariant_of-result c = record { numbered = named_none 1280 _ (omega arith) (omega arith) }
