-- `known`: what opening a deck tells of its header and its starts.
use Rattle.deck.proofs.OpenLaws.{accepted-header, accepted-starts}
use Rattle.deck.proofs.opened.Opened.known.Goals as goal

pub invariant_of-parts : goal.invariant_of-parts
invariant_of-parts c = record { fits = accepted-header _ c.requires }

pub invariant_of-rows : goal.invariant_of-rows
invariant_of-rows c = record { in_order = rw (c.starts.ensures, c.cells.ensures) (accepted-starts _ c.requires) }
