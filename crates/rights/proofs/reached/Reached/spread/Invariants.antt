-- `spread`: the clauses about the first predicates of the list have been looked at.
use Rattle.std.proofs.Common.{◌≡◌, ◌≤◌, ℕ, List, [], length}
use Rattle.rules.specs.Syntax.{Literal, Deck}
use Rattle.rules.specs.Refusals.{accepted}
use Rattle.rules.specs.Decks.{symbol_words, open_deck}
use Rattle.rules.specs.Goals.{appearing}
use Rattle.rules.specs.Rights.{predicates}
use Rattle.rights.specs.Reached.{Within}
use Rattle.rights.proofs.ReachedLaws.{Spreading}
use Rattle.rights.proofs.reached.Reached.spread.Given as goal

pub record Loop (deck list₀ list : List ℕ) (at : ℕ) : Type 0 where
  pub within : Within (length (symbol_words deck)) list
  pub inside : at ≤ length list
  pub spreading : (d : Deck) (starts : List Literal) → open_deck deck ≡ accepted d → list₀ ≡ appearing [] (predicates starts) → Spreading d.clauses starts list at

abbrev pub invariant-loop-at : goal.invariant-loop-at
invariant-loop-at l = Loop l.clauses.deck.words.now l.initial.self.list.items l.self.list.items l.at
