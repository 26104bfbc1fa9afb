-- Cells: how terms and literals are written as words and read from words (document 01, "The deck": "A cell is ..").
-- Each writer takes `rest`, the cells that follow.
use Rattle.std.specs.Prelude.{ℕ, zero, suc, ◌+◌, ◌-◌, max, Bool, true, false, ◌&&◌, List, [], ◌∷◌, leb}
use Rattle.std.proofs.Math.Option.{Option, none, some}
use Rattle.std.proofs.Math.ListN.{get_elem?}
use Rattle.rules.specs.Terms.{Term, var, app, Terms, nil, cons, sizes}
use Rattle.rules.specs.Syntax.{Symbol, functor, predicate, Literal, pos, neg, arguments, vars_literals}

-- A cell is a symbol number; 16,384 plus a predicate's number (that predicate negated); or 32,768 plus a variable number.
-- A symbol is followed by as many terms as its arity.
abbrev mutual
  pub write_term : Term → List ℕ → List ℕ
  write_term (var v) rest = (32768 + v) ∷ rest
  write_term (app f ts) rest = f ∷ write_terms ts rest

  pub write_terms : Terms → List ℕ → List ℕ
  write_terms nil rest = rest
  write_terms (cons t ts) rest = write_term t (write_terms ts rest)

abbrev pub write_literal : Literal → List ℕ → List ℕ
write_literal (pos p ts) rest = p ∷ write_terms ts rest
write_literal (neg p ts) rest = (16384 + p) ∷ write_terms ts rest

abbrev pub write_literals : List Literal → List ℕ
write_literals [] = []
write_literals (l ∷ ls) = write_literal l (write_literals ls)

-- How many cells literals take: one for each predicate, and those of its terms.
abbrev pub literal_sizes : List Literal → ℕ
literal_sizes [] = 0
literal_sizes (l ∷ ls) = suc (sizes (arguments l)) + literal_sizes ls

-- What a cell stands for: a variable's number; or the number and the arity of a functor, a predicate, a negated predicate.
pub data Cell : Type 0 where
  variable : ℕ → Cell
  function positive negative : ℕ → ℕ → Cell
  invalid : Cell

unfoldable pub symbol_cell : ℕ → Option Symbol → Cell
symbol_cell n none = invalid
symbol_cell n (some (functor k)) = function n k
symbol_cell n (some (predicate k)) = positive n k

unfoldable pub negated_cell : ℕ → Option Symbol → Cell
negated_cell n none = invalid
negated_cell n (some (functor k)) = invalid
negated_cell n (some (predicate k)) = negative n k

-- A variable's number is 0 to 1,023.
unfoldable pub variable_cell : ℕ → Cell
variable_cell v = elim (leb v 1023) [ true ↦ variable v | false ↦ invalid ]

unfoldable pub read_cell : List Symbol → ℕ → Cell
read_cell symbols c =
    elim (leb 32768 c) [
      | true ↦ variable_cell (c - 32768)
      | false ↦ elim (leb 16384 c) [
        | true ↦ negated_cell (c - 16384) (get_elem? symbols (c - 16384))
        | false ↦ symbol_cell c (get_elem? symbols c)
      ]
    ]

-- The first k terms and the others.
pub data Taken : Type 0 where
  taken : Terms → Terms → Taken

unfoldable pub take_one : Term → Option Taken → Option Taken
take_one t none = none
take_one t (some (taken ts others)) = some (taken (cons t ts) others)

unfoldable pub take_terms : ℕ → Terms → Option Taken
take_terms zero ts = some (taken nil ts)
take_terms (suc k) nil = none
take_terms (suc k) (cons t ts) = take_one t (take_terms k ts)

-- What a row of cells reads as: terms that no symbol before them has taken, then literals.
pub data Row : Type 0 where
  row : Terms → List Literal → Row

unfoldable pub put_term : ℕ → List Literal → Option Taken → Option Row
put_term f ls none = none
put_term f ls (some (taken ts others)) = some (row (cons (app f ts) others) ls)

-- A literal's terms are all of those in front of the next literal.
unfoldable pub put_literal : (Terms → Literal) → List Literal → Option Taken → Option Row
put_literal make ls none = none
put_literal make ls (some (taken ts nil)) = some (row nil (make ts ∷ ls))
put_literal make ls (some (taken ts (cons u us))) = none

-- A symbol takes as many terms as its arity from the front of what the cells after it read as.
unfoldable pub put_cell : Cell → Option Row → Option Row
put_cell c none = none
put_cell (variable v) (some (row ts ls)) = some (row (cons (var v) ts) ls)
put_cell (function f k) (some (row ts ls)) = put_term f ls (take_terms k ts)
put_cell (positive p k) (some (row ts ls)) = put_literal (pos p) ls (take_terms k ts)
put_cell (negative p k) (some (row ts ls)) = put_literal (neg p) ls (take_terms k ts)
put_cell invalid (some (row ts ls)) = none

unfoldable pub read_row : List Symbol → List ℕ → Option Row
read_row symbols [] = some (row nil [])
read_row symbols (c ∷ cs) = put_cell (read_cell symbols c) (read_row symbols cs)

unfoldable pub only_literals : Option Row → Option (List Literal)
only_literals none = none
only_literals (some (row nil ls)) = some ls
only_literals (some (row (cons t ts) ls)) = none

-- Variables are numbered in order of first appearance, from 0, without gaps. `next` of them have appeared.
unfoldable pub numbered : ℕ → List ℕ → Bool
numbered next [] = true
numbered next (v ∷ vs) = leb v next && numbered (max next (suc v)) vs

unfoldable pub keep_numbered : Option (List Literal) → Option (List Literal)
keep_numbered none = none
keep_numbered (some ls) = elim (numbered 0 (vars_literals ls)) [ true ↦ some ls | false ↦ none ]

-- Literals under that numbering.
unfoldable pub read_literals : List Symbol → List ℕ → Option (List Literal)
read_literals symbols cells = keep_numbered (only_literals (read_row symbols cells))
