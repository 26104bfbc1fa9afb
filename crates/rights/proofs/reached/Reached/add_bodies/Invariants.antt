-- `add_bodies`: what the bodies of the clauses that are left name is still to be added.
use Rattle.std.proofs.Common.{◌≡◌, ℕ, List}
use Rattle.rules.specs.Syntax.{Deck}
use Rattle.rules.specs.Refusals.{accepted}
use Rattle.rules.specs.Decks.{open_deck}
use Rattle.rules.specs.Goals.{appearing}
use Rattle.clauses.specs.Tried.{left}
use Rattle.clauses.specs.declared.Clauses.{Clauses}
use Rattle.clauses.specs.declared.tried.Tried.{Tried}
use Rattle.rules.specs.Ranks.{bodies, rests_on}
use Rattle.rules.specs.Rights.{predicates}
use Rattle.rights.proofs.reached.Reached.add_bodies.Given as goal

pub record Loop (clauses : Clauses) (p : ℕ) (list₀ list : List ℕ) (tried : Tried) : Type 0 where
  pub same_clauses : tried.clauses ≡ clauses
  pub predicate : tried.p ≡ p
  pub rest : (d : Deck) → open_deck clauses.deck.words.now ≡ accepted d
      → appearing list (predicates (bodies (left d tried))) ≡ appearing list₀ (predicates (rests_on d.clauses p))

abbrev pub invariant-loop-i : goal.invariant-loop-i
invariant-loop-i l = Loop l.clauses l.p l.initial.self.list.items l.self.list.items l.i-iterator
