-- `after`: the sums stay at the greatest value, and the goal counts are those after the press.
use mathlib.Core.Path.{refl}
use Rattle.rules.specs.Press.{displayed}
use Rattle.evaluation.proofs.press.Display.after.Goals as goal

pub returns : goal.returns
unfolding displayed
returns c =
    rw (c.saturating_add.ensures, c.saturating_add-2.ensures, c.saturating_add-3.ensures, c.from.ensures, c.from-2.ensures, c.from-3.ensures, c.from-4.ensures) refl
