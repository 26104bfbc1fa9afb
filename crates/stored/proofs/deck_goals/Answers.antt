-- `deck_goals`: an opened deck has the symbols of its symbol words.
use mathlib.Core.Path.{subst}
use Rattle.stored.specs.Passing.{OpenFound}
use Rattle.stored.proofs.StoreLaws.{deck-symbols}
use Rattle.stored.proofs.deck_goals.Goals as goal

pub returns : goal.returns
returns c d e =
    let a = c.args in
    let n = a.counts in
    subst (λ S. OpenFound S a.store.now n.pending n.parked n.terms c.open_goals.result) (deck-symbols a.deck.now.words.now c.symbols.result.now d e c.symbols.ensures) c.open_goals.ensures
