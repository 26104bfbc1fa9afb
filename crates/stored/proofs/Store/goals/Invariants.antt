-- `goals`: the goals passed so far are read in front of the others.
use mathlib.Core.Path.{◌≡◌}
use lib.ListN.{length}
use Rattle.deck.specs.Kinds.{symbols_of}
use Rattle.stored.specs.Passing.{fits_as, Passed}
use Rattle.stored.proofs.Store.goals.Given as goal

abbrev pub invariant-loop : goal.invariant-loop
invariant-loop l = (p : Passed (symbols_of l.self.symbols.now) (fits_as l.self.parked l.self.terms) l.self.words.now l.at l.place) × (length p.goals ≡ l.counter)
