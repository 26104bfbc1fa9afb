-- `is_circular`: what has a mark is reached from p, and what does not wait is followed.
use Rattle.std.proofs.Common.{◌≡◌, ◌<◌, ◌+◌, ◌-◌, ℕ, List, length}
use Rattle.std.specs.Prelude.{sum}
use mathlib.Core.List.{Memᴰ}
use Rattle.rules.specs.Syntax.{Deck}
use Rattle.rules.specs.Refusals.{accepted}
use Rattle.rules.specs.Decks.{symbol_words, open_deck}
use Rattle.ranks.specs.Raising.{at}
use Rattle.ranks.proofs.SearchLaws.{Search}
use Rattle.ranks.proofs.searching.is_circular.Given as goal

pub record Loop (deck : List ℕ) (p : ℕ) (marks waiting : List ℕ) : Type 0 where
  pub marked : 0 < at marks p
  pub inside : (x : ℕ) → Memᴰ x waiting → x < length (symbol_words deck)
  pub found : (d : Deck) → open_deck deck ≡ accepted d → Search d.clauses p marks waiting

abbrev pub invariant-loop-q : goal.invariant-loop-q
invariant-loop-q l = Loop l.clauses.deck.words.now l.p l.search.marks l.search.waiting.items

abbrev pub decreases-loop-q : goal.decreases-loop-q
decreases-loop-q l = 8192 - sum l.search.marks + length l.search.waiting.items
