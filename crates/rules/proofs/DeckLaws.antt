-- Decks and queries: a well-formed deck, written as words, opens as that deck, and whatever opens is the writing of the well-formed deck
-- that it opens as; the same for a query's cells.
use Prim.Native.Nat.{ℕ, suc, ◌+◌, ◌-◌, ◌*◌, ◌≤◌, ◌<◌}
use mathlib.Core.Path.{◌≡◌, refl, ap, ap₂, sym, ◌∙◌, subst}
use mathlib.Core.Bool.{Bool, true, false, ◌&&◌, and-eq-true_iff}
use mathlib.Core.Option.{Option, none, some, none-ne-some, some-injective}
use mathlib.Core.List.{List, [], ◌∷◌, ◌++◌, map, append_assoc, append-nil}
use native.Mathlib.Omega.{arith}
use lib.ListN.{length, take, drop, length-append, length-drop, take-append-drop}
use lib.Seq.{take_at, drop_at, length-take-le, drop-cons, drop-drop}
use lib.Dec.{leb, ltb, eqb}
use borrow.Author.Tests.{le-leb, lt-ltb, eq-eqb, leb-true, ltb-true, eqb-true, eqb-false}
use Rattle.rules.specs.Syntax.{Symbol, Literal, pos, neg, Clause, Format, format1, format2, Deck, vars_literals}
use Rattle.rules.specs.Cells.{write_literals, read_literals}
use Rattle.rules.specs.Refusals.{Refusal, bad_header, bad_symbol, bad_starts, long_clause, bad_clause, long_query, bad_query, Checked, refused, accepted, and_then, require, obtain}
use Rattle.rules.specs.Decks.{write_symbol, write_symbols, format_number, symbol_room, read_symbol, write_clause, head_and_body, read_clause, clauses_cells, clause_starts, header_words, write_deck, header, header_fits, symbol_part, kind_words, symbol_words, clause_words, term_cells, read_all, read_values, keep_distinct, read_format, rising, starts_fit, clause_row, clause_rows, rows_short, open_deck, read_query}
use Rattle.rules.specs.WellFormed.{All, WfLiterals, InOrder, clause_literals, WfClause, WfSymbol, WfFormat, WfDeck, WfQuery}
use Rattle.rules.proofs.CellLaws.{read-in_order, in_order-reads}
use Rattle.rules.proofs.SymbolLaws.{both, all_read, all-written, symbol-read, symbol-written, symbols-length, words-of-pairs, values-of-pairs, pairs-read, kept-distinct, keeps-distinct}

-- Clauses.
pub clause-read : (S : List Symbol) (c : Clause) → WfClause S c → read_clause S (write_clause c) ≡ some c
unfolding read_clause write_clause head_and_body
clause-read S c w = ap head_and_body (read-in_order S (clause_literals c) w.literals w.in_order (omega (arith, w.short)))

abbrev pub RightClause : List Symbol → Clause → Type 0
RightClause S c = WfLiterals S (clause_literals c) × InOrder (vars_literals (clause_literals c))

pub clause-written : (S : List Symbol) (cells : List ℕ) (c : Clause) → read_clause S cells ≡ some c → (cells ≡ write_clause c) × RightClause S c
unfolding read_clause write_clause head_and_body
clause-written S cells c e = go (read_literals S cells) refl e
  where
    go : (o : Option (List Literal)) → read_literals S cells ≡ o → head_and_body o ≡ some c → (cells ≡ write_clause c) × RightClause S c
    go none r q = absurd (none-ne-some c q)
    go (some []) r q = absurd (none-ne-some c q)
    go (some (pos p ts ∷ ls)) r q =
        let h = in_order-reads S cells (pos p ts ∷ ls) r in
        subst (λ x. (cells ≡ write_clause x) × RightClause S x) (some-injective (record { predicate = p; arguments = ts; body = ls }) c q)
        (h.0.written, (h.0.literals, h.1))
    go (some (neg p ts ∷ ls)) r q = absurd (none-ne-some c q)

pub rows_short_lem : (S : List Symbol) (cs : List Clause) → All (WfClause S) cs → rows_short (map write_clause cs) ≡ true
unfolding rows_short
rows_short_lem S [] w = refl
rows_short_lem S (c ∷ cs) w = both (leb (length (write_clause c)) 256) (rows_short (map write_clause cs)) (le-leb (length (write_clause c)) 256 w.0.short) (rows_short_lem S cs w.1)

short-rows : (S : List Symbol) (cs : List Clause) → rows_short (map write_clause cs) ≡ true → All (RightClause S) cs → All (WfClause S) cs
unfolding rows_short
short-rows S [] e w = tt
short-rows S (c ∷ cs) e w =
    let t = (and-eq-true_iff (leb (length (write_clause c)) 256) (rows_short (map write_clause cs))).0 e in
    (record { literals = w.0.0; in_order = w.0.1; short = leb-true (length (write_clause c)) 256 t.0 }, short-rows S cs t.1 w.1)

-- Where clauses start.
pub clause-first : (c : Clause) → 1 ≤ length (write_clause c)
unfolding write_clause
clause-first c = omega arith

pub starts-length : (at : ℕ) (cs : List Clause) → length (clause_starts at cs) ≡ length cs
unfolding clause_starts
starts-length at [] = refl
starts-length at (c ∷ cs) = ap suc (starts-length (at + length (write_clause c)) cs)

starts-rise : (T before at : ℕ) (cs : List Clause) → before < at → at + length (clauses_cells cs) ≡ T → rising T before (clause_starts at cs) ≡ true
unfolding rising clause_starts clauses_cells
starts-rise T before at [] b e = refl
starts-rise T before at (c ∷ cs) b e =
    let f : 1 ≤ length (write_clause c) = clause-first c in
    let l : length (write_clause c ++ clauses_cells cs) ≡ length (write_clause c) + length (clauses_cells cs) = length-append (write_clause c) (clauses_cells cs) in
    both (ltb before at && ltb at T) (rising T at (clause_starts (at + length (write_clause c)) cs))
    (both (ltb before at) (ltb at T) (lt-ltb before at b) (lt-ltb at T (omega arith)))
    (starts-rise T at (at + length (write_clause c)) cs (omega arith) (omega arith))

starts_fit_lem : (cs : List Clause) → starts_fit (length (clauses_cells cs)) (clause_starts 0 cs) ≡ true
unfolding starts_fit clause_starts clauses_cells
starts_fit_lem [] = refl
starts_fit_lem (c ∷ cs) =
    let f : 1 ≤ length (write_clause c) = clause-first c in
    let T = length (write_clause c ++ clauses_cells cs) in
    let l : T ≡ length (write_clause c) + length (clauses_cells cs) = length-append (write_clause c) (clauses_cells cs) in
    both (eqb 0 0 && ltb 0 T) (rising T 0 (clause_starts (0 + length (write_clause c)) cs))
    (both (eqb 0 0) (ltb 0 T) refl (lt-ltb 0 T (omega arith)))
    (starts-rise T 0 (0 + length (write_clause c)) cs (omega arith) (omega arith))

row_first :
    (pre : List ℕ) (at : ℕ) (c : Clause) (cs : List Clause) → length pre ≡ at
    → clause_row (pre ++ clauses_cells (c ∷ cs)) at (clause_starts (at + length (write_clause c)) cs) ≡ write_clause c
unfolding clause_row clause_starts clauses_cells
row_first pre at c [] e = drop_at pre (write_clause c ++ []) at e ∙ append-nil (write_clause c)
row_first pre at c (c' ∷ cs) e =
    ap (take (at + length (write_clause c) - at)) (drop_at pre (write_clause c ++ (write_clause c' ++ clauses_cells cs)) at e)
    ∙ take_at (write_clause c) (write_clause c' ++ clauses_cells cs) (at + length (write_clause c) - at) (omega arith)

rows_cut : (pre : List ℕ) (at : ℕ) (cs : List Clause) → length pre ≡ at → clause_rows (pre ++ clauses_cells cs) (clause_starts at cs) ≡ map write_clause cs
unfolding clause_rows clause_starts clauses_cells
rows_cut pre at [] e = refl
rows_cut pre at (c ∷ cs) e =
    ap₂ ◌∷◌ (row_first pre at c cs e)
    (ap (λ x. clause_rows x (clause_starts (at + length (write_clause c)) cs)) (sym (append_assoc pre (write_clause c) (clauses_cells cs)))
    ∙ rows_cut (pre ++ write_clause c) (at + length (write_clause c)) cs (length-append pre (write_clause c) ∙ ap (◌+ length (write_clause c)) e))

-- Rows put together again.
rows-joined :
    (cells : List ℕ) (s : ℕ) (ss : List ℕ) (cs : List Clause) → s < length cells → rising (length cells) s ss ≡ true → clause_rows cells (s ∷ ss) ≡ map write_clause cs
    → (s ∷ ss ≡ clause_starts s cs) × (drop s cells ≡ clauses_cells cs)
unfolding rising clause_row clause_rows clause_starts clauses_cells
rows-joined cells s [] [] h e r = absurd (omega (arith, ap length r))
rows-joined cells s [] (c ∷ []) h e r = let q : drop s cells ≡ write_clause c = cc in (refl, q ∙ sym (append-nil (write_clause c)))
rows-joined cells s [] (c ∷ c' ∷ cs) h e r = absurd (omega (arith, ap length r))
rows-joined cells s (n ∷ ss) [] h e r = absurd (omega (arith, ap length r))
rows-joined cells s (n ∷ ss) (c ∷ cs) h e r =
    let t = (and-eq-true_iff (ltb s n && ltb n (length cells)) (rising (length cells) n ss)).0 e in
    let b = (and-eq-true_iff (ltb s n) (ltb n (length cells))).0 t.0 in
    let later : s < n = ltb-true s n b.0 in
    let inside : n < length cells = ltb-true n (length cells) b.1 in
    let first : take (n - s) (drop s cells) ≡ write_clause c = cc in
    let others : clause_rows cells (n ∷ ss) ≡ map write_clause cs = cc in
    let more = rows-joined cells n ss cs inside t.1 others in
    let size : n - s ≡ length (write_clause c) = sym (length-take-le (n - s) (drop s cells) (omega (arith, length-drop s cells))) ∙ ap length first in
    let next : n ≡ s + length (write_clause c) = omega arith in
    let there : s + (n - s) ≡ n = omega arith in (
      ap (s ∷◌) (more.0 ∙ ap (λ k. clause_starts k cs) next),
      sym (take-append-drop (n - s) (drop s cells)) ∙ ap₂ ◌++◌ first (drop-drop (n - s) s cells ∙ ap (λ k. drop k cells) there ∙ more.1),
    )

all-joined :
    (cells starts : List ℕ) (cs : List Clause) → starts_fit (length cells) starts ≡ true → clause_rows cells starts ≡ map write_clause cs
    → (starts ≡ clause_starts 0 cs) × (cells ≡ clauses_cells cs)
unfolding starts_fit clause_rows clause_starts clauses_cells
all-joined [] [] [] e r = (refl, refl)
all-joined (x ∷ xs) [] [] e r = absurd (omega (arith, eqb-true (length (x ∷ xs)) 0 e))
all-joined cells [] (c ∷ cs) e r = absurd (omega (arith, ap length r))
all-joined cells (s ∷ ss) cs e r =
    let t = (and-eq-true_iff (eqb s 0 && ltb s (length cells)) (rising (length cells) s ss)).0 e in
    let b = (and-eq-true_iff (eqb s 0) (ltb s (length cells))).0 t.0 in
    let z : s ≡ 0 = eqb-true s 0 b.0 in
    subst (λ k. (s ∷ ss ≡ clause_starts k cs) × (drop k cells ≡ clauses_cells cs)) z (rows-joined cells s ss cs (ltb-true s (length cells) b.1) t.1 r)

-- Opening, step by step.
pub record Opened (ws : List ℕ) (d : Deck) : Type 0 where
  pub fits : header_fits ws ≡ true
  pub symbols : read_all read_symbol (symbol_words ws) ≡ some d.symbols
  pub format : read_format ws ≡ some d.format
  pub starts : starts_fit (length (term_cells ws)) (clause_words ws) ≡ true
  pub short : rows_short (clause_rows (term_cells ws) (clause_words ws)) ≡ true
  pub clauses : read_all (read_clause d.symbols) (clause_rows (term_cells ws) (clause_words ws)) ≡ some d.clauses

pub open-steps : (ws : List ℕ) (d : Deck) → Opened ws d → open_deck ws ≡ accepted d
unfolding open_deck and_then require obtain
open-steps ws d o = rw (o.fits, o.symbols, o.format, o.starts, o.short, o.clauses) refl

pub refused-accepted : {A : Type 0} {n : Refusal} {a : A} → refused n ≡ accepted a → ⊥
refused-accepted e = let z : ◌≡◌ {A = ℕ} 0 1 = cc in omega arith

pub accepted-same : {A : Type 0} {a b : A} → accepted a ≡ accepted b → a ≡ b
accepted-same e = cc

pub required : {A : Type 0} {a : A} (n : Refusal) (b : Bool) (next : Unit {0} → Checked A) → and_then (require n b) next ≡ accepted a → (b ≡ true) × (next tt ≡ accepted a)
unfolding and_then require
required n true next e = (refl, e)
required n false next e = absurd (refused-accepted e)

pub obtained : {A B : Type 0} {a : A} (n : Refusal) (o : Option B) (next : B → Checked A) → and_then (obtain n o) next ≡ accepted a → (b : B) × (o ≡ some b) × (next b ≡ accepted a)
unfolding and_then obtain
obtained n none next e = absurd (refused-accepted e)
obtained n (some b) next e = (b, refl, e)

obtained-last : {A : Type 0} (n : Refusal) (o : Option A) (a : A) → obtain n o ≡ accepted a → o ≡ some a
unfolding obtain
obtained-last n none a e = absurd (refused-accepted e)
obtained-last n (some b) a e = ap some (accepted-same e)

pub steps-open : (ws : List ℕ) (d : Deck) → open_deck ws ≡ accepted d → Opened ws d
unfolding open_deck
steps-open ws d e =
    let rows = clause_rows (term_cells ws) (clause_words ws) in
    let h1 = required bad_header (header_fits ws) _ e in
    let h2 = obtained bad_symbol (read_all read_symbol (symbol_words ws)) _ h1.1 in
    let f = obtained bad_symbol (read_format ws) _ h2.2 in
    let h3 = required bad_starts (starts_fit (length (term_cells ws)) (clause_words ws)) _ f.2 in
    let h4 = required long_clause (rows_short rows) _ h3.1 in
    let h5 = obtained bad_clause (read_all (read_clause h2.0) rows) _ h4.1 in
    let q : ◌≡◌ {A = Deck} (record { format = f.0; symbols = h2.0; clauses = h5.0 }) d = accepted-same h5.2 in
    record {
      fits = h1.0;
      symbols = h2.1 ∙ ap (λ (x : Deck). some x.symbols) q;
      format = f.1 ∙ ap (λ (x : Deck). some x.format) q;
      starts = h3.0;
      short = h4.0;
      clauses = subst (λ (x : Deck). read_all (read_clause x.symbols) rows ≡ some x.clauses) q h5.1;
    }

-- A header that fits, fact by fact.
pub record Header (ws : List ℕ) : Type 0 where
  pub long : 8 ≤ length ws
  pub format_least : 1 ≤ header ws 0
  pub format_most : header ws 0 ≤ 2
  pub some_symbol : 1 ≤ header ws 1
  pub few_symbols : header ws 1 ≤ 4096
  pub symbol_offset : header ws 2 ≡ 8
  pub clause_offset : header ws 4 ≡ 8 + symbol_room (header ws 0) (header ws 1)
  pub term_offset : header ws 6 ≡ 8 + symbol_room (header ws 0) (header ws 1) + header ws 3
  pub end : header ws 7 ≡ 8 + symbol_room (header ws 0) (header ws 1) + header ws 3 + header ws 5
  pub whole : header ws 7 ≡ length ws
  pub total : header ws 7 ≤ 16384

pub facts-fit : (ws : List ℕ) → Header ws → header_fits ws ≡ true
unfolding header_fits
facts-fit ws h =
    both _ _
    (both _ _
    (both _ _
    (both _ _
    (both _ _
    (both _ _ (le-leb 8 (length ws) h.long) (both _ _ (le-leb 1 (header ws 0) h.format_least) (le-leb (header ws 0) 2 h.format_most)))
    (both _ _ (le-leb 1 (header ws 1) h.some_symbol) (le-leb (header ws 1) 4096 h.few_symbols)))
    (eq-eqb (header ws 2) 8 h.symbol_offset))
    (eq-eqb (header ws 4) _ h.clause_offset))
    (eq-eqb (header ws 6) _ h.term_offset))
    (both _ _ (both _ _ (eq-eqb (header ws 7) _ h.end) (eq-eqb (header ws 7) (length ws) h.whole)) (le-leb (header ws 7) 16384 h.total))

pub fit-facts : (ws : List ℕ) → header_fits ws ≡ true → Header ws
unfolding header_fits
fit-facts ws e =
    let t6 = (and-eq-true_iff _ _).0 e in
    let t5 = (and-eq-true_iff _ _).0 t6.0 in
    let t4 = (and-eq-true_iff _ _).0 t5.0 in
    let t3 = (and-eq-true_iff _ _).0 t4.0 in
    let t2 = (and-eq-true_iff _ _).0 t3.0 in
    let t1 = (and-eq-true_iff _ _).0 t2.0 in
    let formats = (and-eq-true_iff _ _).0 t1.1 in
    let counts = (and-eq-true_iff _ _).0 t2.1 in
    let ends = (and-eq-true_iff _ _).0 t6.1 in
    let sums = (and-eq-true_iff _ _).0 ends.0 in
    record {
      long = leb-true 8 (length ws) t1.0;
      format_least = leb-true 1 (header ws 0) formats.0;
      format_most = leb-true (header ws 0) 2 formats.1;
      some_symbol = leb-true 1 (header ws 1) counts.0;
      few_symbols = leb-true (header ws 1) 4096 counts.1;
      symbol_offset = eqb-true (header ws 2) 8 t3.1;
      clause_offset = eqb-true (header ws 4) _ t4.1;
      term_offset = eqb-true (header ws 6) _ t5.1;
      end = eqb-true (header ws 7) _ sums.0;
      whole = eqb-true (header ws 7) (length ws) sums.1;
      total = leb-true (header ws 7) 16384 ends.1;
    }

-- The words of a deck: eight, then the symbols, the clause starts and the cells.
module _ (hdr xs ys zs : List ℕ) (n s c : ℕ) (h : length hdr ≡ n) (hx : length xs ≡ s) (hy : length ys ≡ c) where
  pub middle : take c (drop (n + s) (hdr ++ (xs ++ (ys ++ zs)))) ≡ ys
  middle =
      ap (λ l. take c (drop (n + s) l)) (sym (append_assoc hdr xs (ys ++ zs)))
      ∙ ap (take c) (drop_at (hdr ++ xs) (ys ++ zs) (n + s) (length-append hdr xs ∙ ap₂ ◌+◌ h hx))
      ∙ take_at ys zs c hy

  pub end : drop (n + s + c) (hdr ++ (xs ++ (ys ++ zs))) ≡ zs
  end =
      ap (drop (n + s + c)) (sym (append_assoc hdr xs (ys ++ zs)) ∙ sym (append_assoc (hdr ++ xs) ys zs))
      ∙ drop_at ((hdr ++ xs) ++ ys) zs (n + s + c) (length-append (hdr ++ xs) ys ∙ ap₂ ◌+◌ (length-append hdr xs ∙ ap₂ ◌+◌ h hx) hy)

pub format-least : (F : Format) → 1 ≤ format_number F
format-least format1 = omega arith
format-least (format2 vs) = omega arith

pub format-most : (F : Format) → format_number F ≤ 2
format-most format1 = omega arith
format-most (format2 vs) = omega arith

pub as-they-stand : (d : Deck) → symbol_part (write_deck d) ≡ write_symbols d.format d.symbols
unfolding symbol_part write_deck header_words
as-they-stand d =
    take_at (write_symbols d.format d.symbols) (clause_starts 0 d.clauses ++ clauses_cells d.clauses) (symbol_room (format_number d.format) (length d.symbols))
    (symbols-length d.format d.symbols)

-- One word a symbol, and the format.
abbrev deck_in : Format → List Symbol → List Clause → Deck
deck_in F ss cs = record { format = F; symbols = ss; clauses = cs }

symbols-of : (F : Format) (ss : List Symbol) (cs : List Clause) → All WfSymbol ss → WfFormat ss F → symbol_words (write_deck (deck_in F ss cs)) ≡ map write_symbol ss
unfolding symbol_words write_deck header_words write_symbols
symbols-of format1 ss cs w h = as-they-stand (deck_in format1 ss cs)
symbols-of (format2 vs) ss cs w h = ap kind_words (as-they-stand (deck_in (format2 vs) ss cs)) ∙ words-of-pairs ss vs w h.0

format-of : (F : Format) (ss : List Symbol) (cs : List Clause) → All WfSymbol ss → WfFormat ss F → read_format (write_deck (deck_in F ss cs)) ≡ some F
unfolding read_format write_deck header_words write_symbols
format-of format1 ss cs w h = refl
format-of (format2 vs) ss cs w h =
    ap (λ l. keep_distinct (read_values l)) (as-they-stand (deck_in (format2 vs) ss cs)) ∙ ap keep_distinct (values-of-pairs ss vs w h.0) ∙ keeps-distinct vs h.1

module _ (d : Deck) where
  abbrev written_header : List ℕ
  written_header = header_words (format_number d.format) (length d.symbols) (length d.clauses) (length (clauses_cells d.clauses))

  abbrev room : ℕ
  room = symbol_room (format_number d.format) (length d.symbols)

  pub clauses-part : clause_words (write_deck d) ≡ clause_starts 0 d.clauses
  unfolding clause_words write_deck header_words
  clauses-part =
      middle written_header (write_symbols d.format d.symbols) (clause_starts 0 d.clauses) (clauses_cells d.clauses) 8 room
      (length d.clauses) refl (symbols-length d.format d.symbols) (starts-length 0 d.clauses)

  pub cells-part : term_cells (write_deck d) ≡ clauses_cells d.clauses
  unfolding term_cells write_deck header_words
  cells-part =
      end written_header (write_symbols d.format d.symbols) (clause_starts 0 d.clauses) (clauses_cells d.clauses) 8 room
      (length d.clauses) refl (symbols-length d.format d.symbols) (starts-length 0 d.clauses)

  pub deck-length : length (write_deck d) ≡ 8 + room + length d.clauses + length (clauses_cells d.clauses)
  unfolding write_deck header_words
  deck-length =
      omega (
        arith,
        length-append (write_symbols d.format d.symbols) (clause_starts 0 d.clauses ++ clauses_cells d.clauses),
        length-append (clause_starts 0 d.clauses) (clauses_cells d.clauses),
        symbols-length d.format d.symbols,
        starts-length 0 d.clauses,
      )

  pub symbols-part : WfDeck d → symbol_words (write_deck d) ≡ map write_symbol d.symbols
  symbols-part w = symbols-of d.format d.symbols d.clauses w.symbols w.format

  pub format-part : WfDeck d → read_format (write_deck d) ≡ some d.format
  format-part w = format-of d.format d.symbols d.clauses w.symbols w.format

  rows-part : clause_rows (term_cells (write_deck d)) (clause_words (write_deck d)) ≡ map write_clause d.clauses
  rows-part = ap₂ clause_rows cells-part clauses-part ∙ rows_cut [] 0 d.clauses refl

  header-fits : WfDeck d → Header (write_deck d)
  unfolding write_deck header_words
  header-fits w =
      record {
        long = omega (arith, deck-length);
        format_least = format-least d.format;
        format_most = format-most d.format;
        some_symbol = w.some_symbol;
        few_symbols = w.few_symbols;
        symbol_offset = refl;
        clause_offset = refl;
        term_offset = refl;
        end = refl;
        whole = sym deck-length;
        total = w.total;
      }

  pub open-written : WfDeck d → open_deck (write_deck d) ≡ accepted d
  open-written w =
      open-steps (write_deck d) d
      (record {
        fits = facts-fit (write_deck d) (header-fits w);
        symbols = ap (read_all read_symbol) (symbols-part w) ∙ all_read read_symbol write_symbol WfSymbol symbol-read d.symbols w.symbols;
        format = format-part w;
        starts = ap₂ starts_fit (ap length cells-part) clauses-part ∙ starts_fit_lem d.clauses;
        short = ap rows_short rows-part ∙ rows_short_lem d.symbols d.clauses w.clauses;
        clauses =
            ap (read_all (read_clause d.symbols)) rows-part
            ∙ all_read (read_clause d.symbols) write_clause (WfClause d.symbols) (clause-read d.symbols) d.clauses w.clauses;
      })

-- The words that opened, put together again.
word-then : (ws : List ℕ) (i x : ℕ) (xs : List ℕ) → i < length ws → header ws i ≡ x → drop (suc i) ws ≡ xs → drop i ws ≡ x ∷ xs
word-then ws i x xs h e q = drop-cons ws i 0 h ∙ ap₂ ◌∷◌ e q

module _ (ws : List ℕ) (h : Header ws) where
  abbrev found_room : ℕ
  found_room = symbol_room (header ws 0) (header ws 1)

  header-joined : ws ≡ header_words (header ws 0) (header ws 1) (header ws 3) (header ws 5) ++ drop 8 ws
  unfolding header_words
  header-joined =
      word-then ws 0 _ _ (omega arith) refl
      (word-then ws 1 _ _ (omega arith) refl
      (word-then ws 2 _ _ (omega arith) h.symbol_offset
      (word-then ws 3 _ _ (omega arith) refl
      (word-then ws 4 _ _ (omega arith) h.clause_offset
      (word-then ws 5 _ _ (omega arith) refl (word-then ws 6 _ _ (omega arith) h.term_offset (word-then ws 7 _ _ (omega arith) h.end refl)))))))

  parts-joined : drop 8 ws ≡ symbol_part ws ++ (clause_words ws ++ term_cells ws)
  unfolding symbol_part clause_words term_cells
  parts-joined =
      let cells : header ws 4 + header ws 3 ≡ header ws 6 = omega arith in
      sym (take-append-drop found_room (drop 8 ws))
      ∙ ap (take found_room (drop 8 ws) ++◌)
      (drop-drop found_room 8 ws
      ∙ ap (λ k. drop k ws) (sym h.clause_offset)
      ∙ sym (take-append-drop (header ws 3) (drop (header ws 4) ws))
      ∙ ap (take (header ws 3) (drop (header ws 4) ws) ++◌) (drop-drop (header ws 3) (header ws 4) ws ∙ ap (λ k. drop k ws) cells))

  symbols-many : length (symbol_part ws) ≡ found_room
  unfolding symbol_part
  symbols-many = length-take-le found_room (drop 8 ws) (omega (arith, length-drop 8 ws))

  starts-many : length (clause_words ws) ≡ header ws 3
  unfolding clause_words
  starts-many = length-take-le (header ws 3) (drop (header ws 4) ws) (omega (arith, length-drop (header ws 4) ws))

  cells-many : length (term_cells ws) ≡ header ws 5
  unfolding term_cells
  cells-many = omega (arith, length-drop (header ws 6) ws)

-- The symbols as they stand, from the words of them all and the format.
record SymbolsRead (ws : List ℕ) (ss : List Symbol) (F : Format) : Type 0 where
  number : header ws 0 ≡ format_number F
  written : symbol_part ws ≡ write_symbols F ss
  symbols : All WfSymbol ss
  format : WfFormat ss F

same-room : (f n m : ℕ) → symbol_room f n ≡ symbol_room f m → n ≡ m
unfolding symbol_room
same-room f n m e = go (eqb f 2) refl
  where
    go : (b : Bool) → eqb f 2 ≡ b → n ≡ m
    go true p = let twice : 2 * n ≡ 2 * m = rw (p, symbol_room) at e in omega arith
    go false p = rw (p, symbol_room) at e

symbols-read : (ws : List ℕ) (d : Deck) → Header ws → Opened ws d → SymbolsRead ws d.symbols d.format
unfolding symbol_words read_format write_symbols
symbols-read ws d h o = go (eqb (header ws 0) 2) refl
  where
    go : (b : Bool) → eqb (header ws 0) 2 ≡ b → SymbolsRead ws d.symbols d.format
    go true p =
        let k = kept-distinct (read_values (symbol_part ws)) d.format (rw (p, read_format) at o.format) in
        let r = pairs-read (symbol_part ws) d.symbols k.0 (rw (p, symbol_words) at o.symbols) k.1 in
        subst (SymbolsRead ws d.symbols) k.3 (record { number = eqb-true (header ws 0) 2 p; written = r.0; symbols = r.1; format = (r.2, k.2) })
    go false p =
        let e : format1 ≡ d.format = some-injective format1 d.format (rw (p, read_format) at o.format) in
        let r = all-written read_symbol write_symbol WfSymbol symbol-written (symbol_part ws) d.symbols (rw (p, symbol_words) at o.symbols) in
        subst (SymbolsRead ws d.symbols) e
        (record { number = omega (arith, h.format_least, h.format_most, eqb-false (header ws 0) 2 p); written = r.0; symbols = r.1; format = tt })

pub opened-written : (ws : List ℕ) (d : Deck) → open_deck ws ≡ accepted d → (ws ≡ write_deck d) × WfDeck d
unfolding write_deck
opened-written ws d e =
    let o = steps-open ws d e in
    let h = fit-facts ws o.fits in
    let sy = symbols-read ws d h o in
    let rows = clause_rows (term_cells ws) (clause_words ws) in
    let cl = all-written (read_clause d.symbols) write_clause (RightClause d.symbols) (clause-written d.symbols) rows d.clauses o.clauses in
    let j = all-joined (term_cells ws) (clause_words ws) d.clauses o.starts cl.0 in
    let R : symbol_room (header ws 0) (header ws 1) ≡ symbol_room (header ws 0) (length d.symbols) =
    sym (symbols-many ws h) ∙ ap length sy.written ∙ symbols-length d.format d.symbols ∙ ap (λ f. symbol_room f (length d.symbols)) (sym sy.number) in
    let S : header ws 1 ≡ length d.symbols = same-room (header ws 0) (header ws 1) (length d.symbols) R in
    let C : header ws 3 ≡ length d.clauses = sym (starts-many ws h) ∙ ap length j.0 ∙ starts-length 0 d.clauses in
    let T : header ws 5 ≡ length (clauses_cells d.clauses) = sym (cells-many ws h) ∙ ap length j.1 in
    let room : symbol_room (header ws 0) (header ws 1) ≡ symbol_room (format_number d.format) (length d.symbols) = ap₂ symbol_room sy.number S in (
      header-joined ws h
          ∙ ap₂ ◌++◌ (λ i. header_words (sy.number i) (S i) (C i) (T i))
          (parts-joined ws h ∙ ap₂ ◌++◌ sy.written (ap₂ ◌++◌ j.0 j.1)),
      record {
        some_symbol = omega (arith, h.some_symbol);
        few_symbols = omega (arith, h.few_symbols);
        total = omega (arith, h.end, h.total);
        symbols = sy.symbols;
        format = sy.format;
        clauses = short-rows d.symbols d.clauses (ap rows_short (sym cl.0) ∙ o.short) cl.1;
      },
    )

-- Queries.
pub read-query : (d : Deck) (q : List Literal) → WfQuery d.symbols q → read_query d (write_literals q) ≡ accepted q
unfolding read_query and_then require obtain
read-query d q w = rw (le-leb (length (write_literals q)) 500 w.short, read-in_order d.symbols q w.literals w.in_order (omega (arith, w.short)))

pub query-reads : (d : Deck) (ws : List ℕ) (q : List Literal) → read_query d ws ≡ accepted q → (ws ≡ write_literals q) × WfQuery d.symbols q
unfolding read_query
query-reads d ws q e =
    let short = required long_query (leb (length ws) 500) _ e in
    let o = obtained-last bad_query (read_literals d.symbols ws) q short.1 in
    let r = in_order-reads d.symbols ws q o in
    (r.0.written, record { literals = r.0.literals; in_order = r.1; short = subst (λ (cs : List ℕ). length cs ≤ 500) r.0.written (leb-true (length ws) 500 short.0) })
