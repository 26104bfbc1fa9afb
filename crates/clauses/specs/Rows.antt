-- The rows of a predicate's clauses: which clauses a literal tries, by the functor of its first argument.
use Rattle.std.specs.Prelude.{ℕ, ◌+◌, ◌*◌, ◌/◌, ◌%◌, ◌^◌, ◌≤◌, ◌<◌, ◌≡◌, ltb, true, false, bit_or, List, [], ◌∷◌, length, get_or, drop}
use Rattle.std.specs.Int.{bit_at}
use Rattle.std.proofs.Math.Option.{Option, none, some}
use Rattle.rules.specs.Terms.{count}
use Rattle.rules.specs.Syntax.{Clause}
use Rattle.rules.specs.Resolution.{row_of, in_row}
use Rattle.clauses.specs.Clauses.{ClauseAt}

-- The words of the rows of n clauses: a block of 16 words, one a row, for each 64 clauses.
abbrev pub row_words : ℕ → ℕ
row_words n = 16 * ((n + 63) / 64)

-- The bit of the k-th clause in row r.
abbrev pub row_bit : List ℕ → ℕ → ℕ → ℕ
row_bit words r k = bit_at (get_or words (16 * (k / 64) + r) 0) (k % 64)

-- What that bit is to be: 1 if the first of the clauses is in row r; 0 if it is not, or there is none.
unfoldable pub member_bit : ℕ → List Clause → ℕ
member_bit r [] = 0
member_bit r (c ∷ cs) = elim (in_row r (row_of c.arguments)) [ true ↦ 1 | false ↦ 0 ]

-- The words are the rows of the clauses.
pub record RowsOf (cs : List Clause) (words : List ℕ) : Type 0 where
  pub room : length words ≡ row_words (length cs)
  pub bits : (r k : ℕ) → r < 16 → k / 64 < (length cs + 63) / 64 → row_bit words r k ≡ member_bit r (drop k cs)

-- No bit is set yet.
pub record Unset (words : List ℕ) : Type 0 where
  pub none : (w : ℕ) → w < length words → get_or words w 0 ≡ 0

-- Each clause about p has arguments.
pub record Argued (p : ℕ) (cs : List Clause) : Type 0 where
  pub some : (i : ℕ) (c : Clause) → ClauseAt cs i c → c.predicate ≡ p → 0 < count c.arguments

-- The row of a head by the cell that its first argument starts with; none for a variable.
abbrev pub row_of_cell : ℕ → Option ℕ
row_of_cell cell = elim (ltb cell 32768) [ true ↦ some (cell % 16) | false ↦ none ]

-- Bit j is set in the words of the rows that a head with this cell is in; the others are as they were.
pub record Marked (block : List ℕ) (j cell : ℕ) (block' : List ℕ) : Type 0 where
  pub set : (r : ℕ) → r < 16 → in_row r (row_of_cell cell) ≡ true → get_or block' r 0 ≡ bit_or (get_or block r 0) (2 ^ j)
  pub kept : (r : ℕ) → r < 16 → in_row r (row_of_cell cell) ≡ false → get_or block' r 0 ≡ get_or block r 0

-- From place k on, j is the place of the next one of row r among n places; where there is none, j is n or more.
pub record NextOne (words : List ℕ) (r n k j : ℕ) : Type 0 where
  pub later : k ≤ j
  pub passed : (m : ℕ) → k ≤ m → m < j → m < n → row_bit words r m ≡ 0
  pub one : j < n → row_bit words r j ≡ 1
