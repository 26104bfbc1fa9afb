-- `clauses_tight`: the clauses before i are tight.
use Prim.Native.Nat.{ℕ, ◌+◌, ◌*◌, ◌≤◌}
use mathlib.Core.Path.{◌≡◌}
use mathlib.Core.List.{List}
use lib.ListN.{length, drop}
use Rattle.rules.specs.Syntax.{Deck}
use Rattle.rules.specs.Refusals.{accepted}
use Rattle.rules.specs.Loose.{tight_clauses}
use Rattle.rules.specs.Decks.{clause_words, open_deck}
use Rattle.loose.specs.Marks.{Below}
use Rattle.loose.proofs.clauses_tight.Given as goal

pub record Loop (deck marks : List ℕ) (stamp i : ℕ) : Type 0 where
  pub inside : i ≤ length (clause_words deck)
  pub stamped : stamp ≡ 2 * i + 1
  pub below : Below stamp marks
  pub rest : (d : Deck) → open_deck deck ≡ accepted d → tight_clauses (drop i d.clauses) ≡ tight_clauses d.clauses

abbrev pub invariant-loop-i : goal.invariant-loop-i
invariant-loop-i l = Loop l.deck.words.now l.marks l.stamp l.i
