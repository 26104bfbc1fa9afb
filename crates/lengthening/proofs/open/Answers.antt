-- `open`: what was checked leaves room for the copy, which opens.
use mathlib.Core.Path.{ap, sym, ◌∙◌}
use Rattle.rules.specs.Refusals.{checked_number}
use Rattle.rules.specs.Decks.{open_deck}
use Rattle.lengthening.proofs.LengthLaws.{Copied, copied}
use Rattle.lengthening.proofs.open.Goals as goal
use Rattle.lengthening.proofs.open.Goals.{In_ok-check}

passed : (c : goal.In_ok-check) → Copied c.args.deck.now c.args.cells.now
passed c = copied c.args.deck.now c.args.cells.now (sym c.in_ok-check.ensures)

pub slice_bounds-copy-end : goal.slice_bounds-copy-end
slice_bounds-copy-end c = (passed c).room

pub invariant_of-parts : goal.invariant_of-parts
invariant_of-parts c = record { fits = (passed (goal.at.invariant_of-parts c).In_ok-check).header }

pub known-requires : goal.known-requires
known-requires c = ap (λ ws. checked_number (open_deck ws)) c.put.ensures ∙ (passed (goal.at.known-requires c).In_ok-check).opens
