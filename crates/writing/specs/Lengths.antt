-- The length of a clause's text by its cells.
use Rattle.std.specs.Prelude.{ℕ, zero, suc, ◌+◌, ◌-◌, List, [], ◌∷◌, length, cond}
use Rattle.rules.specs.Syntax.{Symbol}
use Rattle.rules.specs.Cells.{read_cell}
use Rattle.rules.specs.Decks.{clause_words, term_cells}
use Rattle.rules.specs.WellFormed.{All, WfSymbol}
use Rattle.rules.specs.Listing.{decimal}
use Rattle.deck.specs.Kinds.{symbols_of, kind_of, begins_literal}
use Rattle.deck.specs.Rows.{row_at}
use Rattle.deck.specs.declared.kinds.Kind.{Kind}
use Rattle.deck.specs.declared.kinds.Kind.TheVariants.{Variable, Function, Positive, Negative, Invalid}
use Rattle.writing.specs.Writes.{symbols_in, line_at}

-- Words of symbols with arities up to 15.
abbrev pub KnownSymbols : List ℕ → Type 0
KnownSymbols words = All WfSymbol (symbols_of words)

-- A letter or `_` and a number; the brackets around so many arguments and the commas between them.
abbrev pub name_bytes : ℕ → ℕ
name_bytes n = 1 + length (decimal n [])

abbrev pub bracket_bytes : ℕ → ℕ
bracket_bytes zero = 0
bracket_bytes (suc k) = 2 + k

-- The share of a cell. The first cell of a literal has two bytes more, for the comma and the space in front of it, or for the end of the line of a head; and `~`.
abbrev pub cell_bytes : Kind → ℕ → ℕ
cell_bytes (Variable v) c = name_bytes v
cell_bytes (Function k) c = name_bytes c + bracket_bytes k
cell_bytes (Positive k) c = 2 + (name_bytes c + bracket_bytes k)
cell_bytes (Negative k) c = 3 + (name_bytes (c - 16384) + bracket_bytes k)
cell_bytes Invalid c = 0

abbrev pub literal_cell : Kind → ℕ
literal_cell k = cond (begins_literal k) 1 0

abbrev pub row_bytes : List Symbol → List ℕ → ℕ
row_bytes S [] = 0
row_bytes S (c ∷ cs) = cell_bytes (kind_of (read_cell S c)) c + row_bytes S cs

abbrev pub literal_cells : List Symbol → List ℕ → ℕ
literal_cells S [] = 0
literal_cells S (c ∷ cs) = literal_cell (kind_of (read_cell S c)) + literal_cells S cs

-- In front of the first literal of a body there are four bytes.
abbrev pub body_bytes : ℕ → ℕ
body_bytes zero = 0
body_bytes (suc zero) = 0
body_bytes (suc (suc n)) = 2

abbrev pub clause_bytes : List Symbol → List ℕ → ℕ
clause_bytes S cells = row_bytes S cells + body_bytes (literal_cells S cells)

-- The bytes of clause i of a deck.
abbrev pub clause_bytes_at : List ℕ → ℕ → ℕ
clause_bytes_at words i = clause_bytes (symbols_in words) (row_at (term_cells words) (clause_words words) i)

-- The bytes of the line of a deck's symbol n.
abbrev pub symbol_bytes_at : List ℕ → ℕ → ℕ
symbol_bytes_at words n = length (line_at words n)
