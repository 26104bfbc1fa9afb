-- What the clauses that a literal tries give, one after another.
use Rattle.std.specs.Prelude.{ℕ, ◌-◌, ◌%◌, ◌<◌, ◌≡◌, Option, Some, None, IfSome, List, [], ◌∷◌, length, drop}
use Rattle.std.specs.Iterator.{Count, at_most}
use Rattle.std.proofs.Math.Option as math
use Rattle.rules.specs.Syntax.{Clause, Deck}
use Rattle.rules.specs.Refusals.{accepted}
use Rattle.rules.specs.Decks.{open_deck}
use Rattle.rules.specs.Resolution.{clauses_about, row_clauses}
use Rattle.clauses.specs.Clauses.{ClauseAt}
use Rattle.clauses.specs.declared.rows.Row.{Row}
use Rattle.clauses.specs.declared.tried.Tried.{Tried}

-- The row of terms of which the first begins with the symbol, if it does.
abbrev pub row_of_symbol : Option ℕ → math.Option ℕ
row_of_symbol None = math.none
row_of_symbol (Some f) = math.some (f % 16)

-- Of the clauses those that are tried: all, or those of the row.
abbrev pub tried_of : Option Row → List Clause → List Clause
tried_of None cs = cs
tried_of (Some row) cs = row_clauses row.number cs

-- The clauses that are still to be tried.
abbrev pub left : Deck → Tried → List Clause
left d t = tried_of t.row (drop t.next (clauses_about t.p d.clauses))

-- Clause i, which is about p, is the first of those that were left; the others are left now.
pub record Gives (cs : List Clause) (p i : ℕ) (before after : List Clause) : Type 0 where
  pub clause : Clause
  pub at : ClauseAt cs i clause
  pub is_about : clause.predicate ≡ p
  pub first : before ≡ clause ∷ after

abbrev pub Leaves : List Clause → ℕ → List Clause → Option ℕ → List Clause → Type 0
Leaves cs p before None after = before ≡ []
Leaves cs p before (Some i) after = Gives cs p i before after

-- The next clause is given, or there is none.
pub record GivesTried (s : Tried) (given : Option ℕ) (t : Tried) : Type 0 where
  pub clauses : t.clauses ≡ s.clauses
  pub predicate : t.p ≡ s.p
  pub numbers : t.numbers ≡ s.numbers
  pub later : IfSome given (λ i. s.next < t.next)
  pub leaves : (d : Deck) → open_deck s.clauses.deck.words.now ≡ accepted d → Leaves d.clauses s.p (left d s) given (left d t)

-- How many clauses are to be tried by a row; none where all are.
pub record Counts (t : Tried) (n : ℕ) : Type 0 where
  pub row : Row
  pub is : t.row ≡ Some row
  pub many : (d : Deck) → open_deck t.clauses.deck.words.now ≡ accepted d → n ≡ length (left d t)

abbrev pub Candidates : Tried → Option ℕ → Type 0
Candidates t None = t.row ≡ None
Candidates t (Some n) = Counts t n

-- The row is that of the symbol.
abbrev pub IsRowOf : Option ℕ → Option Row → Type 0
IsRowOf first None = Unit {0}
IsRowOf first (Some row) = row_of_symbol first ≡ math.some row.number

-- No more than the places that are left.
abbrev pub most_left : Tried → Count
most_left s = at_most (length s.numbers.now - s.next)
