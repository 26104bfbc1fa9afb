-- `write_child` meets its contract.
use native.Mathlib.Omega.{arith}
use Rattle.resolvents.proofs.ChildLaws.{child-narrow, child-written}
use Rattle.resolvents.proofs.resolve.Origin.write_child.Goals as goal

pub overflow_cast-draft-in-Ok : goal.overflow_cast-draft-in-Ok
overflow_cast-draft-in-Ok c = omega (arith, child-narrow _ _ (omega arith) c.in-Ok.ensures.0 c.in-Ok.ensures.1)

pub returns-in-Ok-clause-child : goal.returns-in-Ok-clause-child
returns-in-Ok-clause-child c = rw c.forget.ensures.child_unchanged (child-written _ _ (omega arith) c.requires.none_before c.in-Ok.ensures.0 c.in-Ok.ensures.1)
