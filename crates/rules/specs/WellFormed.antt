-- Well-formed terms, literals, clauses, decks and goals: those that have a writing which is read as them again.
use Rattle.std.specs.Prelude.{ℕ, ◌+◌, ◌≤◌, ◌≡◌, true, List, [], ◌∷◌, length}
use Rattle.std.proofs.Math.Option.{Option, none, some}
use Rattle.rules.specs.Terms.{Term, var, app, Terms, nil, cons, count}
use Rattle.rules.specs.Syntax.{Symbol, functor, predicate, Literal, pos, neg, Clause, Format, format1, format2, Deck, Goal, vars_literals, vars_goal}
use Rattle.rules.specs.Cells.{write_literals, function, positive, negative, read_cell, numbered}
use Rattle.rules.specs.Decks.{format_number, symbol_room, numbers, distinct, write_clause, clauses_cells}
use Rattle.rules.specs.Goals.{Marked, goal_words}

-- Every element has the property.
abbrev pub All {ℓ} : {A : Type ℓ} → (A → Type 0) → List A → Type 0
All P [] = Unit {0}
All P (x ∷ xs) = P x × All P xs

-- Each symbol is a functor or a predicate of the deck, as its place asks, and is followed by as many terms as its arity.
-- (A variable's bound of 1,023 follows from the numbering and the length.)
abbrev mutual
  pub WfTerm : List Symbol → Term → Type 0
  WfTerm S (var v) = Unit {0}
  WfTerm S (app f ts) = (read_cell S f ≡ function f (count ts)) × WfTerms S ts

  pub WfTerms : List Symbol → Terms → Type 0
  WfTerms S nil = Unit {0}
  WfTerms S (cons t ts) = WfTerm S t × WfTerms S ts

abbrev pub WfLiteral : List Symbol → Literal → Type 0
WfLiteral S (pos p ts) = (read_cell S p ≡ positive p (count ts)) × WfTerms S ts
WfLiteral S (neg p ts) = (read_cell S (16384 + p) ≡ negative p (count ts)) × WfTerms S ts

abbrev pub WfLiterals : List Symbol → List Literal → Type 0
WfLiterals S ls = All (WfLiteral S) ls

-- Numbered by first appearance, from 0, without gaps.
abbrev pub InOrder : List ℕ → Type 0
InOrder vs = numbered 0 vs ≡ true

abbrev pub clause_literals : Clause → List Literal
clause_literals c = pos c.predicate c.arguments ∷ c.body

pub record WfClause (S : List Symbol) (c : Clause) : Type 0 where
  pub literals : WfLiterals S (clause_literals c)
  pub in_order : InOrder (vars_literals (clause_literals c))
  pub short : length (write_clause c) ≤ 256

abbrev pub WfSymbol : Symbol → Type 0
WfSymbol (functor k) = k ≤ 15
WfSymbol (predicate k) = k ≤ 15

-- In format 2 there is a value, or none, for each symbol; only a functor of arity 0 has one, and no two are equal.
abbrev pub WfValues : List Symbol → List (Option ℕ) → Type 0
WfValues [] [] = Unit {0}
WfValues [] (v ∷ vs) = ⊥
WfValues (s ∷ ss) [] = ⊥
WfValues (s ∷ ss) (none ∷ vs) = WfValues ss vs
WfValues (s ∷ ss) (some v ∷ vs) = (s ≡ functor 0) × WfValues ss vs

abbrev pub WfFormat : List Symbol → Format → Type 0
WfFormat ss format1 = Unit {0}
WfFormat ss (format2 vs) = WfValues ss vs × (distinct [] (numbers vs) ≡ true)

pub record WfDeck (d : Deck) : Type 0 where
  pub some_symbol : 1 ≤ length d.symbols
  pub few_symbols : length d.symbols ≤ 4096
  pub total : 8 + symbol_room (format_number d.format) (length d.symbols) + length d.clauses + length (clauses_cells d.clauses) ≤ 16384
  pub symbols : All WfSymbol d.symbols
  pub format : WfFormat d.symbols d.format
  pub clauses : All (WfClause d.symbols) d.clauses

pub record WfQuery (S : List Symbol) (query : List Literal) : Type 0 where
  pub literals : WfLiterals S query
  pub in_order : InOrder (vars_literals query)
  pub short : length (write_literals query) ≤ 500

-- A goal of at most 1,024 words, numbered by first appearance, answer terms first.
pub record WfGoal (S : List Symbol) (g : Goal) : Type 0 where
  pub answer_terms : WfTerms S g.answer_terms
  pub literals : WfLiterals S g.literals
  pub in_order : InOrder (vars_goal g)
  pub short : goal_words g ≤ 1024

abbrev pub WfMarked : List Symbol → Marked → Type 0
WfMarked S m = WfGoal S m.goal
