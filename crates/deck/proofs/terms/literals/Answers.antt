-- `terms::literals`: literals are a row with no terms before them.
use mathlib.Core.Path.{sym, ◌∙◌}
use Rattle.deck.proofs.ScanLaws.{scan-literals}
use Rattle.deck.proofs.terms.literals.Goals as goal

pub returns : goal.returns
returns c = c.row.ensures ∙ sym (scan-literals _ _)
