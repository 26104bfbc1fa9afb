-- Literals, clauses, decks and goals as trees (document 01, "The deck" and "Goals").
use Rattle.std.specs.Prelude.{ℕ, max, List, [], ◌∷◌}
use Rattle.std.proofs.Math.Option.{Option}
use Rattle.rules.specs.Terms.{Terms, tops, vars_terms}

-- A symbol is a functor or a predicate, with its arity.
pub data Symbol : Type 0 where
  functor predicate : ℕ → Symbol

-- A literal is a predicate, negated or not, with its terms.
pub data Literal : Type 0 where
  pos neg : ℕ → Terms → Literal

-- A clause is a positive literal, the head (its predicate and its terms), and then its body.
pub record Clause : Type 0 where
  pub predicate : ℕ
  pub arguments : Terms
  pub body : List Literal

-- The two ways to write a deck as words (document 02, U10). In format 2 a symbol may have a value: it is a number, in all else a functor of arity 0.
-- The value is kept as its word, in two's complement.
pub data Format : Type 0 where
  format1 : Format
  format2 : List (Option ℕ) → Format

-- A deck (Clark's data base) is its symbols, numbered from 0, and its clauses, and the format of its words.
pub record Deck : Type 0 where
  pub format : Format
  pub symbols : List Symbol
  pub clauses : List Clause

-- A goal (Clark's query under evaluation) is a list of answer terms, then literals.
pub record Goal : Type 0 where
  pub answer_terms : Terms
  pub literals : List Literal

-- A literal's predicate and its terms; the literals with a change of their terms.
abbrev pub predicate_of : Literal → ℕ
predicate_of (pos p ts) = p
predicate_of (neg p ts) = p

abbrev pub arguments : Literal → Terms
arguments (pos p ts) = ts
arguments (neg p ts) = ts

abbrev pub map_literal : (Terms → Terms) → Literal → Literal
map_literal F (pos p ts) = pos p (F ts)
map_literal F (neg p ts) = neg p (F ts)

abbrev pub map_literals : (Terms → Terms) → List Literal → List Literal
map_literals F [] = []
map_literals F (l ∷ ls) = map_literal F l ∷ map_literals F ls

-- A goal with a change of all its terms.
abbrev pub map_goal : (Terms → Terms) → Goal → Goal
map_goal F g = record { answer_terms = F g.answer_terms; literals = map_literals F g.literals }

-- The variables where they stand, from left to right.
abbrev pub vars_literals : List Literal → List ℕ
vars_literals [] = []
vars_literals (l ∷ ls) = vars_terms (arguments l) (vars_literals ls)

abbrev pub vars_goal : Goal → List ℕ
vars_goal g = vars_terms g.answer_terms (vars_literals g.literals)

-- The least number above every variable.
abbrev pub top_literals : List Literal → ℕ
top_literals [] = 0
top_literals (l ∷ ls) = max (tops (arguments l)) (top_literals ls)

abbrev pub top_goal : Goal → ℕ
top_goal g = max (tops g.answer_terms) (top_literals g.literals)
