-- Loose variables (document 02, U5): each variable of a clause must occur in a positive body literal, and each variable of a query in a
-- positive literal.
use Rattle.std.specs.Prelude.{ℕ, Bool, true, false, ◌&&◌, List, [], ◌∷◌}
use Rattle.rules.specs.Terms.{Terms, nil, vars_terms}
use Rattle.rules.specs.Syntax.{Symbol, Literal, pos, neg, Clause, Deck, vars_literals}
use Rattle.rules.specs.Cells.{Cell, variable, function, positive, negative, invalid, read_cell}
use Rattle.rules.specs.Refusals.{loose_clause, loose_query, Checked, and_then as ◌>>=◌, require}
use Rattle.rules.specs.Goals.{member}

abbrev pub positives : List Literal → List Literal
positives [] = []
positives (pos p ts ∷ ls) = pos p ts ∷ positives ls
positives (neg p ts ∷ ls) = positives ls

-- All of the first are among the second.
unfoldable pub among : List ℕ → List ℕ → Bool
among [] ys = true
among (x ∷ xs) ys = member x ys && among xs ys

-- Each variable of the terms and of the literals occurs in a positive one of the literals.
unfoldable pub tight : Terms → List Literal → Bool
tight ts ls = among (vars_terms ts (vars_literals ls)) (vars_literals (positives ls))

-- A clause, by its head's terms and its body; a query; all clauses.
unfoldable pub tight_clause : Clause → Bool
tight_clause c = tight c.arguments c.body

unfoldable pub tight_query : List Literal → Bool
tight_query query = tight nil query

unfoldable pub tight_clauses : List Clause → Bool
tight_clauses [] = true
tight_clauses (c ∷ cs) = tight_clause c && tight_clauses cs

-- Refusal 13, a loose variable in a clause: the deck takes no query or open goals. Refusal 14, one in the query.
unfoldable pub check_tight : Deck → Checked (Unit {0})
check_tight deck = require loose_clause (tight_clauses deck.clauses)

unfoldable pub check_tight_query : Deck → List Literal → Checked (Unit {0})
check_tight_query deck query = do
  _ ← check_tight deck
  require loose_query (tight_query query)

-- The variables that stand in cells, where `inside` says whether those at the start count, and `keep` whether those in negative literals do;
-- those in positive literals count. Here from one cell on, where `go` gives those of the cells after it.
unfoldable pub standing_at : Bool → Cell → Bool → (Bool → List ℕ) → List ℕ
standing_at keep (variable v) true go = v ∷ go true
standing_at keep (variable v) false go = go false
standing_at keep (function f k) inside go = go inside
standing_at keep (positive p k) inside go = go true
standing_at keep (negative p k) inside go = go keep
standing_at keep invalid inside go = go inside

-- Those in a row of cells, over the symbols S.
unfoldable pub standing : List Symbol → Bool → Bool → List ℕ → List ℕ
standing S keep inside [] = []
standing S keep inside (c ∷ cs) = standing_at keep (read_cell S c) inside (λ b. standing S keep b cs)
