-- `parts`: an opened deck's header fits.
use Rattle.deck.proofs.OpenLaws.{accepted-header}
use Rattle.deck.proofs.opened.Opened.parts.Goals as goal

pub invariant_of-result : goal.invariant_of-result
invariant_of-result c = record { fits = accepted-header c.args.self.now.words.now c.args.self.now.opens }
