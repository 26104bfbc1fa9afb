-- The listing and the goals left, or the refusal's line.
use Rattle.carry_program.proofs.EndLaws.{Leaves-or_refusal}
use Rattle.carry_program.proofs.open_printed.Goals as goal

pub returns : goal.returns
returns c =
    Leaves-or_refusal _ c.args.out.now c.args.left.now c.asked-printed.result _ _ _ _ (rw c.budget-most.ensures at c.asked-printed.ensures) c.or_refusal.ensures
