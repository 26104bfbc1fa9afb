-- `first_circular`: no predicate below s is on such a chain.
use Rattle.std.proofs.Common.{◌≡◌, ◌<◌, ℕ}
use Rattle.rules.specs.Syntax.{Deck}
use Rattle.rules.specs.Refusals.{accepted}
use Rattle.rules.specs.Decks.{open_deck}
use Rattle.rules.specs.Ranks.{Circular}
use Rattle.ranks.proofs.searching.first_circular.Given as goal

abbrev pub invariant-loop-s : goal.invariant-loop-s
invariant-loop-s l = (d : Deck) → open_deck l.clauses.deck.words.now ≡ accepted d → (q : ℕ) → q < l.s → Circular d.clauses q → ⊥
