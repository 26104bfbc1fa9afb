-- `follow`: the bodies of the clauses so far are followed.
use Rattle.std.proofs.Common.{◌≡◌, ℕ, List}
use Rattle.rules.specs.Syntax.{Deck}
use Rattle.rules.specs.Refusals.{accepted}
use Rattle.rules.specs.Decks.{open_deck}
use Rattle.rules.specs.Ranks.{bodies, rests_on}
use Rattle.clauses.specs.Tried.{left}
use Rattle.clauses.specs.declared.Clauses.{Clauses}
use Rattle.clauses.specs.declared.tried.Tried.{Tried}
use Rattle.ranks.proofs.SearchLaws.{Going}
use Rattle.ranks.proofs.searching.Search.follow.Given as goal

pub record Loop (clauses : Clauses) (q mark : ℕ) (marks₀ waiting₀ marks waiting : List ℕ) (tried : Tried) : Type 0 where
  pub same_clauses : tried.clauses ≡ clauses
  pub predicate : tried.p ≡ q
  pub going : (d : Deck) → open_deck clauses.deck.words.now ≡ accepted d → Going (rests_on d.clauses q) mark marks₀ waiting₀ (bodies (left d tried)) marks waiting

abbrev pub invariant-loop-i : goal.invariant-loop-i
invariant-loop-i l = Loop l.clauses l.q l.mark l.initial.self.marks l.initial.self.waiting.items l.self.marks l.self.waiting.items l.i-iterator
