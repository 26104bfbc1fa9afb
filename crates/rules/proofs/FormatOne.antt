-- Decks of format 1 are opened and written as before there was a format 2 (document 02, U10: "Format 1 decks still open"): the definitions of that day,
-- and that today's agree with them on every deck whose first word is not 2.
use Prim.Native.Nat.{ℕ, ◌+◌}
use mathlib.Core.Path.{◌≡◌, refl, ap}
use mathlib.Core.Bool.{Bool, true, false, ◌&&◌}
use mathlib.Core.List.{List, [], ◌∷◌, ◌++◌, map}
use mathlib.Core.Option.{some}
use native.Mathlib.Omega.{arith}
use lib.ListN.{length, take, drop}
use lib.Dec.{leb, eqb}
use borrow.Author.Tests.{leb-true, leb-false, ne_eqb, eqb-true, eqb-false}
use Rattle.rules.specs.Syntax.{Symbol, Clause, format1, Deck}
use Rattle.rules.specs.Refusals.{bad_header, bad_symbol, bad_starts, long_clause, bad_clause, Checked, accepted, and_then, and_then as ◌>>=◌, require, obtain}
use Rattle.rules.specs.Decks.{write_symbol, write_symbols, symbol_room, read_symbol, read_clause, clauses_cells, clause_starts, header_words, write_deck, header, header_fits, symbol_part, symbol_words, clause_words, term_cells, read_all, read_format, starts_fit, clause_rows, rows_short, open_deck}

-- The definitions before U10.
unfoldable pub header_fits_before : List ℕ → Bool
header_fits_before ws =
    let S = header ws 1 in
    let C = header ws 3 in
    let T = header ws 5 in
    leb 8 (length ws)
    && eqb (header ws 0) 1
    && (leb 1 S && leb S 4096)
    && eqb (header ws 2) 8
    && eqb (header ws 4) (8 + S)
    && eqb (header ws 6) (8 + S + C)
    && (eqb (header ws 7) (8 + S + C + T) && eqb (header ws 7) (length ws) && leb (header ws 7) 16384)

unfoldable pub symbol_words_before : List ℕ → List ℕ
symbol_words_before ws = take (header ws 1) (drop 8 ws)

abbrev deck_of : List Symbol → List Clause → Deck
deck_of symbols clauses = record { format = format1; symbols = symbols; clauses = clauses }

unfoldable pub open_before : List ℕ → Checked Deck
open_before ws = do
  _ ← require bad_header (header_fits_before ws)
  symbols ← obtain bad_symbol (read_all read_symbol (symbol_words_before ws))
  _ ← require bad_starts (starts_fit (length (term_cells ws)) (clause_words ws))
  let rows = clause_rows (term_cells ws) (clause_words ws)
  _ ← require long_clause (rows_short rows)
  clauses ← obtain bad_clause (read_all (read_clause symbols) rows)
  accepted (deck_of symbols clauses)

abbrev pub words_before : List Symbol → List Clause → List ℕ
words_before symbols clauses =
    let cells = clauses_cells clauses in
    let S = length symbols in
    let C = length clauses in
    let T = length cells in
    (1 ∷ S ∷ 8 ∷ C ∷ (8 + S) ∷ T ∷ (8 + S + C) ∷ (8 + S + C + T) ∷ [])
    ++ (map write_symbol symbols ++ (clause_starts 0 clauses ++ cells))

-- The first word.
first-word : (f : ℕ) → (f ≡ 2 → ⊥) → (leb 1 f && leb f 2) ≡ eqb f 1
first-word f h = go (leb 1 f) (leb f 2) (eqb f 1) refl refl refl
  where
    go : (a b c : Bool) → leb 1 f ≡ a → leb f 2 ≡ b → eqb f 1 ≡ c → (a && b) ≡ c
    go true true true p q r = refl
    go true true false p q r = absurd (h (omega (arith, leb-true 1 f p, leb-true f 2 q, eqb-false f 1 r)))
    go true false true p q r = absurd (omega (arith, leb-false f 2 q, eqb-true f 1 r))
    go true false false p q r = refl
    go false b true p q r = absurd (omega (arith, leb-false 1 f p, eqb-true f 1 r))
    go false b false p q r = refl

module _ (ws : List ℕ) (h : header ws 0 ≡ 2 → ⊥) where
  one_word : (S : ℕ) → symbol_room (header ws 0) S ≡ S
  unfolding symbol_room
  one_word S = rw (ne_eqb (header ws 0) 2 h, symbol_room) refl

  header-before : header_fits ws ≡ header_fits_before ws
  unfolding header_fits header_fits_before
  header-before = rw (one_word (header ws 1), first-word (header ws 0) h) refl

  symbols-before : symbol_words ws ≡ symbol_words_before ws
  unfolding symbol_words symbol_words_before symbol_part
  symbols-before = rw (ne_eqb (header ws 0) 2 h, symbol_words) (ap (λ n. take n (drop 8 ws)) (one_word (header ws 1)))

  format-before : read_format ws ≡ some format1
  unfolding read_format
  format-before = rw (ne_eqb (header ws 0) 2 h, read_format) refl

  -- Opening, and so everything that a call makes of a deck of format 1;
  pub opens-before : open_deck ws ≡ open_before ws
  unfolding open_deck open_before and_then obtain
  opens-before = rw (header-before, symbols-before, format-before) refl

-- and its words.
pub written-before : (symbols : List Symbol) (clauses : List Clause) → write_deck (deck_of symbols clauses) ≡ words_before symbols clauses
unfolding write_deck write_symbols header_words symbol_room
written-before symbols clauses = refl
