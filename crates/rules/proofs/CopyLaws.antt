-- The lengthened copy of a deck (document 02, U11): what opening it comes to.
use Prim.Native.Nat.{ℕ, zero, suc, ◌+◌, ◌-◌, ◌≤◌, ◌<◌}
use mathlib.Core.Path.{◌≡◌, refl, ap, ap₂, sym, ◌∙◌, subst}
use mathlib.Core.Bool.{Bool, true, false, ◌&&◌, and-eq-true_iff}
use mathlib.Core.Option.{Option, none, some}
use mathlib.Core.List.{List, [], ◌∷◌, ◌++◌, map, append_assoc, append-nil}
use native.Mathlib.Omega.{arith}
use lib.ListN.{length, take, length-append}
use lib.Seq.{take_at, drop_at}
use lib.Dec.{leb, ltb, eqb}
use borrow.Author.Tests.{le-leb, lt-ltb, le-ltb, lt-leb, leb-true, leb-false}
use Rattle.rules.specs.Syntax.{Symbol, Clause, format1, Deck}
use Rattle.rules.specs.Refusals.{bad_header, bad_starts, long_clause, bad_clause, Checked, refused, accepted, and_then, require, obtain}
use Rattle.rules.specs.Decks.{format_number, symbol_room, write_symbols, read_symbol, write_clause, read_clause, clauses_cells, clause_starts, header_words, write_deck, header_fits, symbol_part, kind_words, symbol_words, clause_words, term_cells, read_next, read_all, read_values, keep_distinct, read_format, rising, starts_fit, clause_row, clause_rows, rows_short, open_deck}
use Rattle.rules.specs.WellFormed.{All, WfClause, WfDeck}
use Rattle.rules.specs.Preview.{lengthened, open_copy, with_clause, add_clause}
use Rattle.rules.proofs.SymbolLaws.{symbols-length}
use Rattle.rules.proofs.DeckLaws.{clause-first, clause-read, clause-written, rows_short_lem, starts-length, Opened, steps-open, open-written, opened-written, required, obtained, accepted-same, Header, facts-fit, fit-facts, middle, end, format-least, format-most, as-they-stand, clauses-part, cells-part, deck-length}

-- One start more.
and_true : (b : Bool) → (b && true) ≡ b
and_true true = refl
and_true false = refl

starts-more :
    (U before at : ℕ) (cs : List Clause) → before < at → at + length (clauses_cells cs) ≤ U
    → rising U before (clause_starts at cs ++ ((at + length (clauses_cells cs)) ∷ [])) ≡ ltb (at + length (clauses_cells cs)) U
unfolding rising clause_starts clauses_cells
starts-more U before at [] b h = rw (lt-ltb before (at + 0) (omega arith)) (and_true (ltb (at + 0) U))
starts-more U before at (c ∷ cs) b h =
    let f : 1 ≤ length (write_clause c) = clause-first c in
    let l : length (write_clause c ++ clauses_cells cs) ≡ length (write_clause c) + length (clauses_cells cs) = length-append (write_clause c) (clauses_cells cs) in
    let e : at + length (write_clause c ++ clauses_cells cs) ≡ at + length (write_clause c) + length (clauses_cells cs) = omega arith in
    rw (lt-ltb before at b, lt-ltb at U (omega arith), e) (starts-more U at (at + length (write_clause c)) cs (omega arith) (omega arith))

starts-joined : (U : ℕ) (cs : List Clause) → length (clauses_cells cs) ≤ U → starts_fit U (clause_starts 0 cs ++ (length (clauses_cells cs) ∷ [])) ≡ ltb (length (clauses_cells cs)) U
unfolding starts_fit rising clause_starts clauses_cells
starts-joined U [] h = and_true (ltb 0 U)
starts-joined U (c ∷ cs) h =
    let f : 1 ≤ length (write_clause c) = clause-first c in
    let l : length (write_clause c ++ clauses_cells cs) ≡ length (write_clause c) + length (clauses_cells cs) = length-append (write_clause c) (clauses_cells cs) in
    let e : length (write_clause c ++ clauses_cells cs) ≡ 0 + length (write_clause c) + length (clauses_cells cs) = omega arith in
    rw (lt-ltb 0 U (omega arith), e) (starts-more U 0 (0 + length (write_clause c)) cs (omega arith) (omega arith))

past-end : (T n : ℕ) → ltb T (T + n) ≡ leb 1 n
past-end T zero = le-ltb T (T + 0) (omega arith)
past-end T (suc n) = lt-ltb T (T + suc n) (omega arith) ∙ sym (le-leb 1 (suc n) (omega arith))

-- One row more.
row-kept :
    (pre x : List ℕ) (at : ℕ) (c : Clause) (cs : List Clause) → length pre ≡ at
    → clause_row (pre ++ (clauses_cells (c ∷ cs) ++ x)) at (clause_starts (at + length (write_clause c)) cs ++ ((at + length (clauses_cells (c ∷ cs))) ∷ [])) ≡ write_clause c
unfolding clause_row clause_starts clauses_cells
row-kept pre x at c [] e =
    let n : at + length (write_clause c ++ []) - at ≡ length (write_clause c) = omega (arith, ap length (append-nil (write_clause c))) in
    ap₂ take n (drop_at pre ((write_clause c ++ []) ++ x) at e ∙ append_assoc (write_clause c) [] x) ∙ take_at (write_clause c) x (length (write_clause c)) refl
row-kept pre x at c (c' ∷ cs) e =
    let after = write_clause c' ++ clauses_cells cs in
    let n : at + length (write_clause c) - at ≡ length (write_clause c) = omega arith in
    ap₂ take n (drop_at pre ((write_clause c ++ after) ++ x) at e ∙ append_assoc (write_clause c) after x) ∙ take_at (write_clause c) (after ++ x) (length (write_clause c)) refl

rows-more :
    (pre x : List ℕ) (at : ℕ) (cs : List Clause) → length pre ≡ at
    → clause_rows (pre ++ (clauses_cells cs ++ x)) (clause_starts at cs ++ ((at + length (clauses_cells cs)) ∷ [])) ≡ map write_clause cs ++ (x ∷ [])
unfolding clause_rows clause_row clause_starts clauses_cells
rows-more pre x at [] e = ap {B = List (List ℕ)} (λ r. r ∷ []) (drop_at pre x (at + 0) (omega arith))
rows-more pre x at (c ∷ cs) e =
    let here = write_clause c in
    let l : length (here ++ clauses_cells cs) ≡ length here + length (clauses_cells cs) = length-append here (clauses_cells cs) in
    let k : at + length (here ++ clauses_cells cs) ≡ at + length here + length (clauses_cells cs) = omega arith in
    ap₂ ◌∷◌ (row-kept pre x at c cs e)
    (ap₂ (λ cells n. clause_rows cells (clause_starts (at + length here) cs ++ (n ∷ [])))
    (ap (pre ++◌) (append_assoc here (clauses_cells cs) x) ∙ sym (append_assoc pre here (clauses_cells cs ++ x))) k
    ∙ rows-more (pre ++ here) x (at + length here) cs (length-append pre here ∙ ap (◌+ length here) e))

short-more : (rows : List (List ℕ)) (x : List ℕ) → rows_short rows ≡ true → rows_short (rows ++ (x ∷ [])) ≡ leb (length x) 256
unfolding rows_short
short-more [] x e = and_true (leb (length x) 256)
short-more (r ∷ rows) x e =
    let t = (and-eq-true_iff (leb (length r) 256) (rows_short rows)).0 e in
    rw t.0 (short-more rows x t.1)

-- One element more is read.
unfoldable with_last {κ} : {B : Type κ} → List B → Option B → Option (List B)
with_last bs none = none
with_last bs (some b) = some (bs ++ (b ∷ []))

next-last {κ} : {B : Type κ} (b : B) (bs : List B) (o : Option B) → read_next (some b) (with_last bs o) ≡ with_last (b ∷ bs) o
unfolding read_next with_last
next-last b bs none = refl
next-last b bs (some x) = refl

read-more {ℓ κ} :
    {A : Type ℓ} {B : Type κ} (read : A → Option B) (write : B → A) (P : B → Type 0) → ((b : B) → P b → read (write b) ≡ some b)
    → (bs : List B) (x : A) → All P bs → read_all read (map write bs ++ (x ∷ [])) ≡ with_last bs (read x)
unfolding read_all read_next with_last
read-more {B = B} read write P h [] x w = go (read x)
  where
    go : (o : Option B) → read_next o (some []) ≡ with_last [] o
    go none = refl
    go (some b) = refl
read-more read write P h (b ∷ bs) x w = ap₂ read_next (h b w.0) (read-more read write P h bs x w.1) ∙ next-last b bs (read x)

-- THE COPY of a deck's writing, part by part.
module _ (d : Deck) (cells : List ℕ) where
  abbrev number : ℕ
  number = format_number d.format

  abbrev own_cells : List ℕ
  own_cells = clauses_cells d.clauses

  abbrev names : List ℕ
  names = write_symbols d.format d.symbols

  abbrev room : ℕ
  room = symbol_room number (length d.symbols)

  abbrev starts : List ℕ
  starts = clause_starts 0 d.clauses ++ (length own_cells ∷ [])

  abbrev front : List ℕ
  front = header_words number (length d.symbols) (length d.clauses + 1) (length own_cells + length cells)

  abbrev copy : List ℕ
  copy = front ++ (names ++ (starts ++ (own_cells ++ cells)))

  copy-is : lengthened (write_deck d) cells ≡ copy
  unfolding lengthened write_deck header_words
  copy-is = ap (front ++◌) (ap₂ ◌++◌ (as-they-stand d) (ap₂ (λ cs ts. (cs ++ (length own_cells ∷ [])) ++ (ts ++ cells)) (clauses-part d) (cells-part d)))

  starts-many : length starts ≡ length d.clauses + 1
  starts-many = omega (arith, length-append (clause_starts 0 d.clauses) (length own_cells ∷ []), starts-length 0 d.clauses)

  copy-names : symbol_part copy ≡ symbol_part (write_deck d)
  unfolding symbol_part header_words
  copy-names = take_at names (starts ++ (own_cells ++ cells)) room (symbols-length d.format d.symbols) ∙ sym (as-they-stand d)

  copy-words : symbol_words copy ≡ symbol_words (write_deck d)
  unfolding symbol_words header_words write_deck
  copy-words = ap (λ p. elim (eqb number 2) [ true ↦ kind_words p | false ↦ p ]) copy-names

  copy-format : read_format copy ≡ read_format (write_deck d)
  unfolding read_format header_words write_deck
  copy-format = ap (λ p. elim (eqb number 2) [ true ↦ keep_distinct (read_values p) | false ↦ some format1 ]) copy-names

  copy-starts : clause_words copy ≡ starts
  unfolding clause_words header_words
  copy-starts = middle front names starts (own_cells ++ cells) 8 room (length d.clauses + 1) refl (symbols-length d.format d.symbols) starts-many

  copy-cells : term_cells copy ≡ own_cells ++ cells
  unfolding term_cells header_words
  copy-cells = end front names starts (own_cells ++ cells) 8 room (length d.clauses + 1) refl (symbols-length d.format d.symbols) starts-many

  abbrev total : ℕ
  total = length (write_deck d) + 1 + length cells

  copy-length : length copy ≡ total
  unfolding header_words
  copy-length =
      omega (
        arith,
        deck-length d,
        length-append names (starts ++ (own_cells ++ cells)),
        length-append starts (own_cells ++ cells),
        length-append own_cells cells,
        symbols-length d.format d.symbols,
        starts-many,
      )

  -- Each check of opening.
  copy-header : WfDeck d → total ≤ 16384 → Header copy
  unfolding header_words
  copy-header w h =
      record {
        long = omega (arith, copy-length, deck-length d);
        format_least = format-least d.format;
        format_most = format-most d.format;
        some_symbol = w.some_symbol;
        few_symbols = w.few_symbols;
        symbol_offset = refl;
        clause_offset = refl;
        term_offset = refl;
        end = refl;
        whole = omega (arith, copy-length, deck-length d);
        total = omega (arith, deck-length d);
      }

  copy-fits : WfDeck d → header_fits copy ≡ leb total 16384
  copy-fits w = go (leb total 16384) (header_fits copy) refl refl
    where
      go : (a b : Bool) → leb total 16384 ≡ a → header_fits copy ≡ b → header_fits copy ≡ leb total 16384
      go true b p q = facts-fit copy (copy-header w (leb-true total 16384 p)) ∙ sym p
      go false true p q = let f = fit-facts copy q in absurd (omega (arith, f.whole, f.total, leb-false total 16384 p, copy-length))
      go false false p q = q ∙ sym p

  copy-rise : starts_fit (length (term_cells copy)) (clause_words copy) ≡ leb 1 (length cells)
  copy-rise =
      ap₂ starts_fit (ap length copy-cells ∙ length-append own_cells cells) copy-starts
      ∙ starts-joined (length own_cells + length cells) d.clauses (omega arith)
      ∙ past-end (length own_cells) (length cells)

  copy-rows : clause_rows (term_cells copy) (clause_words copy) ≡ map write_clause d.clauses ++ (cells ∷ [])
  copy-rows =
      let k : length own_cells ≡ 0 + length own_cells = omega arith in
      ap₂ clause_rows copy-cells copy-starts
      ∙ ap (λ n. clause_rows (own_cells ++ cells) (clause_starts 0 d.clauses ++ (n ∷ []))) k
      ∙ rows-more [] cells 0 d.clauses refl

  copy-short : WfDeck d → rows_short (clause_rows (term_cells copy) (clause_words copy)) ≡ leb (length cells) 256
  copy-short w = ap rows_short copy-rows ∙ short-more (map write_clause d.clauses) cells (rows_short_lem d.symbols d.clauses w.clauses)

  copy-clauses : WfDeck d → read_all (read_clause d.symbols) (clause_rows (term_cells copy) (clause_words copy)) ≡ with_last d.clauses (read_clause d.symbols cells)
  copy-clauses w =
      ap (read_all (read_clause d.symbols)) copy-rows
      ∙ read-more (read_clause d.symbols) write_clause (WfClause d.symbols) (clause-read d.symbols) d.clauses cells w.clauses

  opens-so : WfDeck d → open_deck copy ≡ add_clause (length (write_deck d)) d cells
  unfolding open_deck add_clause and_then require obtain with_last
  opens-so w = go (leb total 16384) (leb 1 (length cells)) (leb (length cells) 256) (read_clause d.symbols cells) refl refl refl refl
    where
      o : Opened (write_deck d) d
      o = steps-open (write_deck d) d (open-written d w)

      symbols-read : read_all read_symbol (symbol_words copy) ≡ some d.symbols
      symbols-read = ap (read_all read_symbol) copy-words ∙ o.symbols

      format-read : read_format copy ≡ some d.format
      format-read = copy-format ∙ o.format

      go : (a b c : Bool) (r : Option Clause) → leb total 16384 ≡ a → leb 1 (length cells) ≡ b → leb (length cells) 256 ≡ c → read_clause d.symbols cells ≡ r
          → open_deck copy ≡ add_clause (length (write_deck d)) d cells
      go false b c r p q s t = rw (copy-fits w, p) refl
      go true false c r p q s t = rw (copy-fits w, p, symbols-read, format-read, copy-rise, q) refl
      go true true false r p q s t = rw (copy-fits w, p, symbols-read, format-read, copy-rise, q, copy-short w, s) refl
      go true true true none p q s t = rw (copy-fits w, p, symbols-read, format-read, copy-rise, q, copy-short w, s, copy-clauses w, t) refl
      go true true true (some x) p q s t = rw (copy-fits w, p, symbols-read, format-read, copy-rise, q, copy-short w, s, copy-clauses w, t) refl

-- WHAT OPENING THE COPY COMES TO: the deck with that clause at its end, or 1, 3, 4, 5.
pub copy-opens : (ws : List ℕ) (d : Deck) (cells : List ℕ) → open_deck ws ≡ accepted d → open_deck (lengthened ws cells) ≡ add_clause (length ws) d cells
copy-opens ws d cells e =
    let o = opened-written ws d e in
    subst (λ x. open_deck (lengthened x cells) ≡ add_clause (length x) d cells) (sym o.0) (ap open_deck (copy-is d cells) ∙ opens-so d cells o.1)

pub copy-checked : (ws cells : List ℕ) → open_copy ws cells ≡ and_then (open_deck ws) (λ d. add_clause (length ws) d cells)
unfolding open_copy and_then
copy-checked ws cells = go (open_deck ws) refl
  where
    go : (o : Checked Deck) → open_deck ws ≡ o → open_copy ws cells ≡ and_then o (λ d. add_clause (length ws) d cells)
    go (refused n) e = rw e refl
    go (accepted d) e = rw e (copy-opens ws d cells e)

-- A clause of at most 256 cells that fits.
pub record Addable (words : ℕ) (d : Deck) (cells : List ℕ) (c : Clause) : Type 0 where
  pub fits : words + 1 + length cells ≤ 16384
  pub short : length cells ≤ 256
  pub reads : read_clause d.symbols cells ≡ some c

some-cells : (S : List Symbol) (cells : List ℕ) (c : Clause) → read_clause S cells ≡ some c → 1 ≤ length cells
some-cells S cells c e = omega (arith, ap length (clause-written S cells c e).0, clause-first c)

pub adds : (words : ℕ) (d : Deck) (cells : List ℕ) (c : Clause) → Addable words d cells c → add_clause words d cells ≡ accepted (with_clause d c)
unfolding add_clause and_then require obtain
adds words d cells c a =
    rw (le-leb (words + 1 + length cells) 16384 a.fits, le-leb 1 (length cells) (some-cells d.symbols cells c a.reads), le-leb (length cells) 256 a.short, a.reads) refl

pub added : (words : ℕ) (d : Deck) (cells : List ℕ) (d' : Deck) → add_clause words d cells ≡ accepted d' → (c : Clause) × Addable words d cells c × (d' ≡ with_clause d c)
unfolding add_clause
added words d cells d' e =
    let h1 = required bad_header (leb (words + 1 + length cells) 16384) _ e in
    let h2 = required bad_starts (leb 1 (length cells)) _ h1.1 in
    let h3 = required long_clause (leb (length cells) 256) _ h2.1 in
    let h4 = obtained bad_clause (read_clause d.symbols cells) _ h3.1 in (
      h4.0,
      record { fits = leb-true (words + 1 + length cells) 16384 h1.0; short = leb-true (length cells) 256 h3.0; reads = h4.1 },
      sym (accepted-same h4.2),
    )

-- So it opens exactly if the cells are such a clause, and then as the deck with that clause at its end.
pub copy-accepted :
    (ws : List ℕ) (d : Deck) (cells : List ℕ) → open_deck ws ≡ accepted d
    → ((c : Clause) → Addable (length ws) d cells c → open_deck (lengthened ws cells) ≡ accepted (with_clause d c))
    × ((d' : Deck) → open_deck (lengthened ws cells) ≡ accepted d' → (c : Clause) × Addable (length ws) d cells c × (d' ≡ with_clause d c))
copy-accepted ws d cells e = (
  λ c a. copy-opens ws d cells e ∙ adds (length ws) d cells c a,
  λ d' o. added (length ws) d cells d' (sym (copy-opens ws d cells e) ∙ o),
)

-- Else it is refused: with 1, 3, 4 or 5, in this order.
module _ (words : ℕ) (d : Deck) (cells : List ℕ) where
  pub too-long : 16384 < words + 1 + length cells → add_clause words d cells ≡ refused bad_header
  unfolding add_clause and_then require
  too-long h = rw (lt-leb (words + 1 + length cells) 16384 h) refl

  module _ (fits : words + 1 + length cells ≤ 16384) where
    pub no-cells : length cells ≡ 0 → add_clause words d cells ≡ refused bad_starts
    unfolding add_clause and_then require
    no-cells n = rw (le-leb (words + 1 + length cells) 16384 fits, lt-leb 1 (length cells) (omega arith)) refl

    pub too-many-cells : 256 < length cells → add_clause words d cells ≡ refused long_clause
    unfolding add_clause and_then require
    too-many-cells l = rw (le-leb (words + 1 + length cells) 16384 fits, le-leb 1 (length cells) (omega arith), lt-leb (length cells) 256 l) refl

    pub no-clause : 1 ≤ length cells → length cells ≤ 256 → read_clause d.symbols cells ≡ none → add_clause words d cells ≡ refused bad_clause
    unfolding add_clause and_then require obtain
    no-clause l m r = rw (le-leb (words + 1 + length cells) 16384 fits, le-leb 1 (length cells) l, le-leb (length cells) 256 m, r) refl

-- How long it is: a clause start and the cells more.
pub copy-long : (ws : List ℕ) (d : Deck) (cells : List ℕ) → open_deck ws ≡ accepted d → length (lengthened ws cells) ≡ length ws + 1 + length cells
copy-long ws d cells e =
    subst (λ x. length (lengthened x cells) ≡ length x + 1 + length cells) (sym (opened-written ws d e).0) (ap length (copy-is d cells) ∙ copy-length d cells)

-- Its symbols are the deck's.
pub copy-symbols : (ws : List ℕ) (d : Deck) (cells : List ℕ) → open_deck ws ≡ accepted d → symbol_words (lengthened ws cells) ≡ symbol_words ws
copy-symbols ws d cells e =
    subst (λ x. symbol_words (lengthened x cells) ≡ symbol_words x) (sym (opened-written ws d e).0) (ap symbol_words (copy-is d cells) ∙ copy-words d cells)
