-- `rank`: after k passes each number is borne out by a chain, and at least what round k comes to; after more than there are symbols there are no ranks.
use Rattle.std.proofs.Common.{◌≡◌, ℕ, ◌≤◌, ◌<◌, List, length}
use Rattle.rules.specs.Syntax.{Deck}
use Rattle.rules.specs.Refusals.{accepted}
use Rattle.rules.specs.Decks.{open_deck, symbol_words}
use Rattle.rules.specs.Ranks.{Circular}
use Rattle.rules.proofs.RankSearch.{rounds, Borne}
use Rattle.ranks.specs.Raising.{at}
use Rattle.ranks.proofs.raising.rank.Given as goal

pub record Ranking (deck words : List ℕ) (k : ℕ) (d : Deck) : Type 0 where
  pub borne : Borne d.clauses (at words)
  pub least : (p : ℕ) → rounds d.clauses k p ≤ at words p
  pub late : length (symbol_words deck) < k → (s : ℕ) × Circular d.clauses s

abbrev pub invariant-loop-k : goal.invariant-loop-k
invariant-loop-k l = (length l.words ≡ 4096) × ((d : Deck) → open_deck l.deck.words.now ≡ accepted d → Ranking l.deck.words.now l.words l.k d)
