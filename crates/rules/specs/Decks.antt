-- Decks as words: writing one, opening one with refusals 1 to 5, and reading a query with 6 and 7 (document 01, "The deck").
use Rattle.std.specs.Prelude.{ℕ, ◌+◌, ◌-◌, ◌*◌, Bool, true, false, ◌&&◌, not, List, [], ◌∷◌, ◌++◌, map, length, get_or, take, drop, leb, ltb, eqb}
use Rattle.std.proofs.Math.Option.{Option, none, some}
use Rattle.rules.specs.Syntax.{Symbol, functor, predicate, Literal, pos, neg, Clause, Format, format1, format2, Deck}
use Rattle.rules.specs.Cells.{write_terms, write_literals, read_literals}
use Rattle.rules.specs.Goals.{member}
use Rattle.rules.specs.Loose.{check_tight_query}
use Rattle.rules.specs.Refusals.{bad_header, bad_symbol, bad_starts, long_clause, bad_clause, long_query, bad_query, Checked, accepted, and_then as ◌>>=◌, require, obtain}

-- A symbol word is the arity, 0 to 15, plus 256 for a predicate.
unfoldable pub write_symbol : Symbol → ℕ
write_symbol (functor k) = k
write_symbol (predicate k) = 256 + k

unfoldable pub read_symbol : ℕ → Option Symbol
read_symbol w =
    elim (leb w 15) [
      | true ↦ some (functor w)
      | false ↦ elim (leb 256 w && leb w 271) [ true ↦ some (predicate (w - 256)) | false ↦ none ]
    ]

-- In format 2 a symbol takes two words (document 02, U10). The second is 0, or for a number, whose first is 512, its value.
unfoldable pub write_pairs : List Symbol → List (Option ℕ) → List ℕ
write_pairs [] vs = []
write_pairs (s ∷ ss) [] = write_symbol s ∷ 0 ∷ write_pairs ss []
write_pairs (s ∷ ss) (none ∷ vs) = write_symbol s ∷ 0 ∷ write_pairs ss vs
write_pairs (s ∷ ss) (some v ∷ vs) = 512 ∷ v ∷ write_pairs ss vs

unfoldable pub write_symbols : Format → List Symbol → List ℕ
write_symbols format1 ss = map write_symbol ss
write_symbols (format2 vs) ss = write_pairs ss vs

abbrev pub format_number : Format → ℕ
format_number format1 = 1
format_number (format2 vs) = 2

-- How many words S symbols take in the format of that number.
unfoldable pub symbol_room : ℕ → ℕ → ℕ
symbol_room f S = elim (eqb f 2) [ true ↦ 2 * S | false ↦ S ]

-- A clause is a positive literal, the head, and then its body.
unfoldable pub write_clause : Clause → List ℕ
write_clause c = c.predicate ∷ write_terms c.arguments (write_literals c.body)

unfoldable pub head_and_body : Option (List Literal) → Option Clause
head_and_body none = none
head_and_body (some []) = none
head_and_body (some (pos p ts ∷ ls)) = some (record { predicate = p; arguments = ts; body = ls })
head_and_body (some (neg p ts ∷ ls)) = none

unfoldable pub read_clause : List Symbol → List ℕ → Option Clause
read_clause symbols cells = head_and_body (read_literals symbols cells)

-- The cells of all clauses, and where each clause starts, the first of them at `at`.
unfoldable pub clauses_cells : List Clause → List ℕ
clauses_cells [] = []
clauses_cells (c ∷ cs) = write_clause c ++ clauses_cells cs

unfoldable pub clause_starts : ℕ → List Clause → List ℕ
clause_starts at [] = []
clause_starts at (c ∷ cs) = at ∷ clause_starts (at + length (write_clause c)) cs

-- Format, number of symbols S, symbol offset, number of clauses C, clause offset, number of term cells T, term offset, total words.
unfoldable pub header_words : ℕ → ℕ → ℕ → ℕ → List ℕ
header_words f S C T =
    let R = symbol_room f S in
    f ∷ S ∷ 8 ∷ C ∷ (8 + R) ∷ T ∷ (8 + R + C) ∷ (8 + R + C + T) ∷ []

unfoldable pub write_deck : Deck → List ℕ
write_deck d =
    let cells = clauses_cells d.clauses in
    header_words (format_number d.format) (length d.symbols) (length d.clauses) (length cells)
    ++ (write_symbols d.format d.symbols ++ (clause_starts 0 d.clauses ++ cells))

-- Header word i of a deck's words.
abbrev pub header : List ℕ → ℕ → ℕ
header ws i = get_or ws i 0

-- Refusal 1.
unfoldable pub header_fits : List ℕ → Bool
header_fits ws =
    let S = header ws 1 in
    let C = header ws 3 in
    let T = header ws 5 in
    let R = symbol_room (header ws 0) S in
    leb 8 (length ws)
    && (leb 1 (header ws 0) && leb (header ws 0) 2)
    && (leb 1 S && leb S 4096)
    && eqb (header ws 2) 8
    && eqb (header ws 4) (8 + R)
    && eqb (header ws 6) (8 + R + C)
    && (eqb (header ws 7) (8 + R + C + T) && eqb (header ws 7) (length ws) && leb (header ws 7) 16384)

-- The deck's parts after the header: the symbols as they stand, the symbol words, the clause words and the term cells.
unfoldable pub symbol_part : List ℕ → List ℕ
symbol_part ws = take (symbol_room (header ws 0) (header ws 1)) (drop 8 ws)

-- One word a symbol. In format 2 it is the first of each two, and a number's is that of a functor of arity 0.
unfoldable pub kind_word : ℕ → ℕ
kind_word w = elim (eqb w 512) [ true ↦ 0 | false ↦ w ]

unfoldable pub kind_words : List ℕ → List ℕ
kind_words [] = []
kind_words (w ∷ []) = []
kind_words (w ∷ v ∷ ws) = kind_word w ∷ kind_words ws

unfoldable pub symbol_words : List ℕ → List ℕ
symbol_words ws = elim (eqb (header ws 0) 2) [ true ↦ kind_words (symbol_part ws) | false ↦ symbol_part ws ]

unfoldable pub clause_words : List ℕ → List ℕ
clause_words ws = take (header ws 3) (drop (header ws 4) ws)

unfoldable pub term_cells : List ℕ → List ℕ
term_cells ws = drop (header ws 6) ws

-- Every element is read, or nothing is (refusals 2 and 5).
unfoldable pub read_next {κ} : {B : Type κ} → Option B → Option (List B) → Option (List B)
read_next none ys = none
read_next (some y) none = none
read_next (some y) (some ys) = some (y ∷ ys)

unfoldable pub read_all {ℓ κ} : {A : Type ℓ} {B : Type κ} → (A → Option B) → List A → Option (List B)
read_all read [] = some []
read_all read (x ∷ xs) = read_next (read x) (read_all read xs)

-- In format 2 refusal 2 is for a second word that is not 0 too, where the first is not 512, and for two numbers of equal value.
unfoldable pub read_value : ℕ → ℕ → Option (Option ℕ)
read_value w v = elim (eqb w 512) [ true ↦ some (some v) | false ↦ elim (eqb v 0) [ true ↦ some none | false ↦ none ] ]

unfoldable pub read_values : List ℕ → Option (List (Option ℕ))
read_values [] = some []
read_values (w ∷ []) = none
read_values (w ∷ v ∷ ws) = read_next (read_value w v) (read_values ws)

unfoldable pub numbers : List (Option ℕ) → List ℕ
numbers [] = []
numbers (none ∷ vs) = numbers vs
numbers (some v ∷ vs) = v ∷ numbers vs

unfoldable pub distinct : List ℕ → List ℕ → Bool
distinct before [] = true
distinct before (v ∷ vs) = not (member v before) && distinct (v ∷ before) vs

unfoldable pub keep_distinct : Option (List (Option ℕ)) → Option Format
keep_distinct none = none
keep_distinct (some vs) = elim (distinct [] (numbers vs)) [ true ↦ some (format2 vs) | false ↦ none ]

unfoldable pub read_format : List ℕ → Option Format
read_format ws = elim (eqb (header ws 0) 2) [ true ↦ keep_distinct (read_values (symbol_part ws)) | false ↦ some format1 ]

-- Refusal 3: the first start is 0, each is greater than the one before and below T. With C = 0, T is 0.
unfoldable pub rising : ℕ → ℕ → List ℕ → Bool
rising T before [] = true
rising T before (s ∷ ss) = ltb before s && ltb s T && rising T s ss

unfoldable pub starts_fit : ℕ → List ℕ → Bool
starts_fit T [] = eqb T 0
starts_fit T (s ∷ ss) = eqb s 0 && ltb s T && rising T s ss

-- A clause runs to the next start or to T.
unfoldable pub clause_row : List ℕ → ℕ → List ℕ → List ℕ
clause_row cells s [] = drop s cells
clause_row cells s (end ∷ ss) = take (end - s) (drop s cells)

unfoldable pub clause_rows : List ℕ → List ℕ → List (List ℕ)
clause_rows cells [] = []
clause_rows cells (s ∷ ss) = clause_row cells s ss ∷ clause_rows cells ss

-- Refusal 4: at most 256 cells.
unfoldable pub rows_short : List (List ℕ) → Bool
rows_short [] = true
rows_short (cells ∷ rows) = leb (length cells) 256 && rows_short rows

unfoldable pub open_deck : List ℕ → Checked Deck
open_deck ws = do
  _ ← require bad_header (header_fits ws)
  symbols ← obtain bad_symbol (read_all read_symbol (symbol_words ws))
  format ← obtain bad_symbol (read_format ws)
  _ ← require bad_starts (starts_fit (length (term_cells ws)) (clause_words ws))
  let rows = clause_rows (term_cells ws) (clause_words ws)
  _ ← require long_clause (rows_short rows)
  clauses ← obtain bad_clause (read_all (read_clause symbols) rows)
  accepted (record { format = format; symbols = symbols; clauses = clauses })

-- A query is a list of literals under the same numbering, at most 500 cells; it may be empty.
unfoldable pub read_query : Deck → List ℕ → Checked (List Literal)
read_query deck ws = do
  _ ← require long_query (leb (length ws) 500)
  obtain bad_query (read_literals deck.symbols ws)

-- Opening alone checks 1 to 5, checking a query 1 to 7 and then 13 and 14 (U5).
unfoldable pub check_query : List ℕ → List ℕ → Checked (List Literal)
check_query deck_words query_words = do
  deck ← open_deck deck_words
  query ← read_query deck query_words
  _ ← check_tight_query deck query
  accepted query
