-- An opened deck: its symbols and clauses as the code finds them, and what writing it comes to.
use Prim.Native.Nat.{ℕ, zero, suc, ◌+◌, ◌*◌, ◌%◌, ◌≤◌, ◌<◌}
use mathlib.Core.Path.{◌≡◌, refl, ap, sym, ◌∙◌}
use mathlib.Core.Bool.{Bool, true, false}
use mathlib.Core.Option.{Option, none, some, some-injective}
use lib.Dec.{eqb}
use mathlib.Core.List.{List, [], ◌++◌}
use native.Mathlib.Omega.{arith}
use lib.ListN.{length, drop, length-append, length-map}
use lib.Seq.{sets, sets-eq}
use borrow.Author.Tests.{le-leb, lt-leb}
use Rattle.std.specs.Prelude.{sum_by}
use Rattle.std.specs.Prelude.{Option as Code, Some, None}
use Rattle.std.specs.List.{range_with_len}
use Rattle.std.proofs.lemmas.List.Sums.{sum_by-cons}
use Rattle.rules.specs.Syntax.{format1, Deck, vars_literals}
use Rattle.rules.specs.Refusals.{Refusal, no_room, refused, accepted, and_then, require, checked_number}
use Rattle.rules.specs.Decks.{header, header_fits, symbol_part, read_values, read_format, symbol_words, clause_words, term_cells, write_clause, open_deck}
use Rattle.rules.specs.WellFormed.{All, clause_literals}
use Rattle.rules.specs.Column.{number_word}
use Rattle.text_rules.specs.TextWriter.{symbols_text, clause_text, clauses_text, deck_text}
use Rattle.text_rules.specs.Text.{write_text}
use Rattle.rules.proofs.CellLaws.{Small, literals-length, literals-vars, in_order-small}
use Rattle.rules.proofs.DeckLaws.{fit-facts, steps-open, opened-written}
use Rattle.rules.proofs.SymbolLaws.{kept-distinct}
use Rattle.deck.specs.Pairs.{known_word}
use Rattle.rules.proofs.DeckWords.{ClauseAt, opened-words, clause-at}
use Rattle.signature.specs.Symbols.{symbol_word}
use Rattle.deck.specs.Kinds.{symbol_of, symbols_of}
use Rattle.deck.specs.Rows.{row_at}
use Rattle.deck.proofs.OpenLaws.{accepted-deck, accepted-symbols}
use Rattle.deck.proofs.PartLaws as part
use Rattle.listing.specs.Put.{Put}
use Rattle.writing.specs.Writes.{bytes_of, text_after, Wrote, opened_as, deck_of, format_of, is_second, Opens, symbols_in, line_at}
use Rattle.writing.specs.Literals.{LiteralsAt}
use Rattle.writing.specs.Lengths.{KnownSymbols, literal_cells, body_bytes, clause_bytes, clause_bytes_at, symbol_bytes_at}
use Rattle.writing.proofs.LengthLaws.{clause-bytes, row-short as cells-short, line-none, line-some, value-short}
use Rattle.listing.proofs.DigitLaws.{decimal-length}
use Rattle.writing.proofs.TextParts.{symbols-next, symbols-end, clauses-next, clauses-end}

-- Words that open, by their number.
opens : (ws : List ℕ) → checked_number (open_deck ws) ≡ 0 → Opens ws
unfolding opened_as
opens ws k = let d = accepted-deck ws k in d.1 ∙ ap accepted (sym (ap opened_as d.1))

module _ (ws : List ℕ) (k : checked_number (open_deck ws) ≡ 0) where
  o : Opens ws
  o = opens ws k

  header-fits : header_fits ws ≡ true
  header-fits = (steps-open ws (deck_of ws) o).fits

  pub same-symbols : (deck_of ws).symbols ≡ symbols_in ws
  same-symbols = accepted-symbols ws (deck_of ws) o

  pub known-symbols : KnownSymbols (symbol_words ws)
  known-symbols = rw (← same-symbols) (opened-written ws (deck_of ws) o).1.symbols

  pub few-symbols : length (symbol_words ws) ≤ 4096
  unfolding symbols_of
  few-symbols = omega (arith, (opened-written ws (deck_of ws) o).1.few_symbols, ap length same-symbols, length-map (symbol_words ws) symbol_of)

  pub clause-count : length (clause_words ws) ≡ length (deck_of ws).clauses
  clause-count = part.clause-count ws header-fits ∙ (opened-words ws (deck_of ws) o).clause_count

  pub few-clauses : length (deck_of ws).clauses ≤ 16384
  few-clauses = omega (arith, (opened-written ws (deck_of ws) o).1.total)

  -- Clause i, whose literals stand in its row, and the length of its text.
  module _ (i : ℕ) (h : i < length (deck_of ws).clauses) where
    pub clause_of : ClauseAt ws (deck_of ws) i
    clause_of = clause-at ws (deck_of ws) o i h

    small : All Small (vars_literals (clause_literals clause_of.clause))
    unfolding write_clause
    small =
        let ls = clause_literals clause_of.clause in
        in_order-small (vars_literals ls) clause_of.well_formed.in_order (omega (arith, literals-vars ls, literals-length ls, clause_of.well_formed.short))

    module _ (row : List ℕ) (f : row ≡ row_at (term_cells ws) (clause_words ws) i) where
      row_written : row ≡ write_clause clause_of.clause
      unfolding clause_of
      row_written = f ∙ part.clause-row ws (deck_of ws) o i h

      pub clause-stands : (symbols : List ℕ) → symbols ≡ symbol_words ws → LiteralsAt symbols row (clause_literals clause_of.clause)
      unfolding write_clause
      clause-stands symbols e = record {
        symbols = (deck_of ws).symbols;
        read = rw e (steps-open ws (deck_of ws) o).symbols;
        written = row_written;
        formed = clause_of.well_formed.literals;
        small = small;
      }

      pub row-short : length row ≤ 256
      row-short = omega (arith, ap length row_written, clause_of.well_formed.short)

      pub row-bytes : clause_bytes (symbols_in ws) row ≡ length (clause_text clause_of.clause [])
      row-bytes = rw (← same-symbols, row_written) (clause-bytes (deck_of ws).symbols clause_of.clause clause_of.well_formed.literals small)

  -- The bytes of so many clauses from clause i on.
  body-short : (n : ℕ) → body_bytes n ≤ 2
  body-short zero = omega arith
  body-short (suc zero) = omega arith
  body-short (suc (suc n)) = omega arith

  clause-short : (i : ℕ) → i < length (deck_of ws).clauses → clause_bytes_at ws i ≤ 8194
  clause-short i h =
      let row = row_at (term_cells ws) (clause_words ws) i in
      omega (arith, cells-short (symbols_in ws) known-symbols row, row-short i h row refl, body-short (literal_cells (symbols_in ws) row))

  pub clauses-sum :
      (n i : ℕ) → i + n ≡ length (deck_of ws).clauses → let rest = length (clauses_text (drop i (deck_of ws).clauses)) in
      (sum_by (clause_bytes_at ws) (range_with_len i n) ≡ rest) × (rest ≤ 8194 * n)
  clauses-sum zero i e = let z = ap length (clauses-end (deck_of ws).clauses i (omega (arith, e))) in (sym z, omega (arith, z))
  clauses-sum (suc n) i e =
      let h : i < length (deck_of ws).clauses = omega (arith, e) in
      let c = clause_of i h in
      let b = row-bytes i h (row_at (term_cells ws) (clause_words ws) i) refl in
      let next = clauses-sum n (i + 1) (omega (arith, e)) in
      let text = ap length (clauses-next (deck_of ws).clauses i c.clause c.place) in
      let parts = length-append (clause_text c.clause []) (clauses_text (drop (i + 1) (deck_of ws).clauses)) in (
        omega (arith, sum_by-cons (clause_bytes_at ws) i (range_with_len (i + 1) n), next.0, b, text, parts),
        omega (arith, next.1, clause-short i h, b, text, parts),
      )

  -- The format, and the values.
  pub long-enough : 8 ≤ length ws
  long-enough = (fit-facts ws header-fits).long

  pub second-format : eqb (header ws 0) 2 ≡ is_second (format_of ws)
  unfolding read_format
  second-format = go (eqb (header ws 0) 2) refl (steps-open ws (deck_of ws) o).format
    where
      go : (b : Bool) → eqb (header ws 0) 2 ≡ b → read_format ws ≡ some (format_of ws) → eqb (header ws 0) 2 ≡ is_second (format_of ws)
      go true e f =
          let k = kept-distinct (read_values (symbol_part ws)) (format_of ws) (rw (e, read_format) at f) in
          e ∙ ap is_second k.3
      go false e f = e ∙ ap is_second (some-injective format1 (format_of ws) (rw (e, read_format) at f))

  module _ (ws' : List ℕ) (same : ws' ≡ ws) (n : ℕ) (r : Code ℕ) (h : (d : Deck) → open_deck ws' ≡ accepted d → r ≡ known_word (number_word d.format n)) where
    value-word : r ≡ known_word (number_word (format_of ws) n)
    value-word = h (deck_of ws) (ap open_deck same ∙ o)

    pub value-some : (w : ℕ) → r ≡ Some w → number_word (format_of ws) n ≡ some w
    value-some w e = go (number_word (format_of ws) n) (sym value-word ∙ e)
      where
        go : (v : Option ℕ) → known_word v ≡ Some w → v ≡ some w
        go none q = cc
        go (some x) q = let z : x ≡ w = cc in ap {B = Option ℕ} some z

    pub value-none : r ≡ None → number_word (format_of ws) n ≡ none
    value-none e = go (number_word (format_of ws) n) (sym value-word ∙ e)
      where
        go : (v : Option ℕ) → known_word v ≡ None → v ≡ none
        go none q = refl
        go (some x) q = cc

  -- The bytes of the lines of so many symbols from symbol i on.
  symbol-short : (i : ℕ) → i < length (symbol_words ws) → symbol_bytes_at ws i ≤ 18
  symbol-short i h = go (number_word (format_of ws) i) refl
    where
      w : ℕ
      w = symbol_word (symbol_words ws) i

      go : (v : Option ℕ) → number_word (format_of ws) i ≡ v → symbol_bytes_at ws i ≤ 18
      go none e =
          omega (arith, line-none w i (number_word (format_of ws) i) e, decimal-length 4 i (omega (arith, few-symbols)), decimal-length 4 (w % 256) (omega arith))
      go (some v) e = omega (arith, line-some w i v (number_word (format_of ws) i) e, decimal-length 4 i (omega (arith, few-symbols)), value-short v)

  pub symbols-sum :
      (n i : ℕ) → i + n ≡ length (symbol_words ws) → let rest = length (symbols_text (format_of ws) i (symbols_of (drop i (symbol_words ws))) []) in
      (sum_by (symbol_bytes_at ws) (range_with_len i n) ≡ rest) × (rest ≤ 18 * n)
  symbols-sum zero i e = let z = ap length (symbols-end (format_of ws) (symbol_words ws) i (omega (arith, e))) in (sym z, omega (arith, z))
  symbols-sum (suc n) i e =
      let us = symbol_words ws in
      let h : i < length us = omega (arith, e) in
      let next = symbols-sum n (i + 1) (omega (arith, e)) in
      let text = ap length (symbols-next (format_of ws) us i h) in
      let parts = length-append (line_at ws i) (symbols_text (format_of ws) (i + 1) (symbols_of (drop (i + 1) us)) []) in (
        omega (arith, sum_by-cons (symbol_bytes_at ws) i (range_with_len (i + 1) n), next.0, text, parts),
        omega (arith, next.1, symbol-short i h, text, parts),
      )

-- The three ways in which writing ends.
text-fits : (ws : List ℕ) (d : Deck) (room : ℕ) → open_deck ws ≡ accepted d → length (deck_text d) ≤ room → write_text ws room ≡ accepted (deck_text d)
unfolding write_text and_then require
text-fits ws d room e h = rw (e, le-leb (length (deck_text d)) room h) refl

module _ (ws before : List ℕ) where
  pub wrote-closed : (n : Refusal) → open_deck ws ≡ refused n → Wrote ws before (refused n) before
  unfolding write_text and_then bytes_of text_after
  wrote-closed n e = record { returns = rw e refl; leaves = rw e refl }

  module _ (k : checked_number (open_deck ws) ≡ 0) where
    pub wrote-short : length before < length (deck_text (deck_of ws)) → Wrote ws before (refused no_room) before
    unfolding write_text and_then require bytes_of text_after
    wrote-short h = let t = lt-leb (length (deck_text (deck_of ws))) (length before) h in record { returns = rw (opens ws k, t) refl; leaves = rw (opens ws k, t) refl }

    pub wrote-all : (end : ℕ) (after : List ℕ) → length (deck_text (deck_of ws)) ≤ length before → Put before 0 (deck_text (deck_of ws)) end after → Wrote ws before (accepted end) after
    unfolding bytes_of text_after
    wrote-all end after h p =
        let text = deck_text (deck_of ws) in
        let z : 0 + length text ≡ length text = omega arith in
        let s : sets before 0 text ≡ text ++ drop (length text) before = sets-eq text before 0 (omega arith) ∙ ap (λ (k : ℕ). text ++ drop k before) z in
        let w : write_text ws (length before) ≡ accepted text = text-fits ws (deck_of ws) (length before) (opens ws k) h in
        record { returns = ap accepted (p.place ∙ z) ∙ sym (ap bytes_of w); leaves = p.bytes ∙ s ∙ sym (ap (λ x. text_after x before) w) }
