-- What the words of a deck that opened hold, for code that reads them by their places: the header's numbers, and each clause,
-- whose cells run from its start to the next start or to the end.
use Prim.Native.Nat.{ℕ, zero, suc, ◌+◌, ◌-◌, ◌≤◌, ◌<◌}
use mathlib.Core.Path.{◌≡◌, refl, ap, sym, ◌∙◌, subst}
use mathlib.Core.Bool.{Bool, true, false}
use mathlib.Core.List.{List, [], ◌∷◌, ◌++◌, append_assoc}
use native.Mathlib.Omega.{arith}
use lib.ListN.{length, get_or, take, drop, length-append, get_or-append}
use lib.Seq.{take_at, drop_at, take_all, drop-drop, get_or-append-add}
use lib.Dec.{ltb}
use borrow.Author.Tests.{ltb-true, ltb-false}
use Rattle.rules.specs.Syntax.{Clause, Deck}
use Rattle.rules.specs.Refusals.{accepted}
use Rattle.rules.specs.Decks.{write_symbols, format_number, symbol_room, write_clause, clauses_cells, clause_starts, header_words, write_deck, header, term_cells, open_deck}
use Rattle.rules.specs.WellFormed.{All, WfClause, WfDeck}
use Rattle.rules.proofs.SymbolLaws.{symbols-length}
use Rattle.rules.proofs.DeckLaws.{starts-length, cells-part, deck-length, opened-written}

-- The place of clause i's first cell among the deck's words, and the place after its last one.
abbrev pub clause_start : List ℕ → ℕ → ℕ
clause_start ws i = get_or ws (header ws 4 + i) 0

abbrev pub clause_from : List ℕ → ℕ → ℕ
clause_from ws i = header ws 6 + clause_start ws i

unfoldable pub clause_to : List ℕ → ℕ → ℕ
clause_to ws i = header ws 6 + elim (ltb (i + 1) (header ws 3)) [ true ↦ clause_start ws (i + 1) | false ↦ header ws 5 ]

-- Clauses by their number.
one_more {ℓ} : {A : Type ℓ} (xs : List A) (i : ℕ) → i < length xs → (x : A) × (drop i xs ≡ x ∷ drop (i + 1) xs)
one_more [] i h = absurd (omega arith)
one_more (x ∷ xs) zero h = (x, refl)
one_more (x ∷ xs) (suc i) h = let r = one_more xs i (omega arith) in let s : suc i + 1 ≡ suc (i + 1) = omega arith in (r.0, rw s r.1)

all_drop {ℓ} : {A : Type ℓ} (P : A → Type 0) (xs : List A) (i : ℕ) → All P xs → All P (drop i xs)
all_drop P xs zero w = w
all_drop P [] (suc i) w = tt
all_drop P (x ∷ xs) (suc i) w = all_drop P xs i w.1

cells_cut : (i : ℕ) (cs : List Clause) → clauses_cells cs ≡ clauses_cells (take i cs) ++ clauses_cells (drop i cs)
unfolding clauses_cells
cells_cut zero cs = refl
cells_cut (suc i) [] = refl
cells_cut (suc i) (c ∷ cs) = ap (write_clause c ++◌) (cells_cut i cs) ∙ simp append_assoc

-- Where clause i starts.
abbrev start_of : List Clause → ℕ → ℕ
start_of cs i = length (clauses_cells (take i cs))

start-of : (at : ℕ) (cs : List Clause) (i : ℕ) → i < length cs → get_or (clause_starts at cs) i 0 ≡ at + start_of cs i
unfolding clause_starts clauses_cells
start-of at [] i h = absurd (omega arith)
start-of at (c ∷ cs) zero h = omega arith
start-of at (c ∷ cs) (suc i) h =
    omega (arith, start-of (at + length (write_clause c)) cs i (omega arith), length-append (write_clause c) (clauses_cells (take i cs)))

from_start : (cs : List Clause) (i : ℕ) → drop (start_of cs i) (clauses_cells cs) ≡ clauses_cells (drop i cs)
from_start cs i = ap (drop (start_of cs i)) (cells_cut i cs) ∙ drop_at (clauses_cells (take i cs)) (clauses_cells (drop i cs)) (start_of cs i) refl

start-inside : (cs : List Clause) (i : ℕ) → start_of cs i ≤ length (clauses_cells cs)
start-inside cs i = omega (arith, ap length (cells_cut i cs), length-append (clauses_cells (take i cs)) (clauses_cells (drop i cs)))

start-next : (cs : List Clause) (i : ℕ) (c : Clause) → drop i cs ≡ c ∷ drop (i + 1) cs → start_of cs (i + 1) ≡ start_of cs i + length (write_clause c)
unfolding clauses_cells
start-next cs i c e =
    let rest = clauses_cells (drop (i + 1) cs) in
    omega (
      arith,
      ap length (cells_cut i cs),
      length-append (clauses_cells (take i cs)) (clauses_cells (drop i cs)),
      ap (λ x. length (clauses_cells x)) e,
      length-append (write_clause c) rest,
      ap length (cells_cut (i + 1) cs),
      length-append (clauses_cells (take (i + 1) cs)) rest,
    )

-- A deck's words, with the header's numbers in terms of the deck.
pub record DeckWords (ws : List ℕ) (d : Deck) : Type 0 where
  pub symbol_count : header ws 1 ≡ length d.symbols
  pub clause_count : header ws 3 ≡ length d.clauses
  pub clause_offset : header ws 4 ≡ 8 + symbol_room (format_number d.format) (length d.symbols)
  pub cell_count : header ws 5 ≡ length (clauses_cells d.clauses)
  pub cell_offset : header ws 6 ≡ 8 + symbol_room (format_number d.format) (length d.symbols) + length d.clauses
  pub whole : length ws ≡ header ws 6 + header ws 5
  pub few : length ws ≤ 16384

-- Clause i of the deck, and its cells.
pub record ClauseAt (ws : List ℕ) (d : Deck) (i : ℕ) : Type 0 where
  pub clause : Clause
  pub place : drop i d.clauses ≡ clause ∷ drop (i + 1) d.clauses
  pub well_formed : WfClause d.symbols clause
  pub cells : drop (clause_from ws i) ws ≡ write_clause clause ++ drop (clause_to ws i) ws
  pub size : clause_from ws i + length (write_clause clause) ≡ clause_to ws i
  pub inside : clause_to ws i ≤ length ws

get_d_past : (xs ys : List ℕ) (n i : ℕ) → length xs ≡ n → get_or (xs ++ ys) (n + i) 0 ≡ get_or ys i 0
get_d_past xs ys n i e = ap (λ k. get_or (xs ++ ys) (k + i) 0) (sym e) ∙ get_or-append-add xs ys i 0

module _ (d : Deck) where
  start_word : (i : ℕ) → i < length d.clauses → clause_start (write_deck d) i ≡ start_of d.clauses i
  unfolding write_deck header_words
  start_word i h =
      let room = symbol_room (format_number d.format) (length d.symbols) in
      let front = header_words (format_number d.format) (length d.symbols) (length d.clauses) (length (clauses_cells d.clauses)) in
      let names = write_symbols d.format d.symbols in
      let starts = clause_starts 0 d.clauses in
      let cells = clauses_cells d.clauses in
      ap (λ ws. get_or ws (8 + room + i) 0) (sym (append_assoc front names (starts ++ cells)))
      ∙ get_d_past (front ++ names) (starts ++ cells) (8 + room) i (omega (arith, length-append front names, symbols-length d.format d.symbols))
      ∙ get_or-append starts cells 0 i (omega (arith, starts-length 0 d.clauses))
      ∙ (start-of 0 d.clauses i h ∙ omega arith)

  deck-words : WfDeck d → DeckWords (write_deck d) d
  unfolding write_deck header_words
  deck-words w =
      record {
        symbol_count = refl;
        clause_count = refl;
        clause_offset = refl;
        cell_count = refl;
        cell_offset = refl;
        whole = deck-length d;
        few = omega (arith, deck-length d, w.total);
      }

  from-cells : (i : ℕ) → drop (header (write_deck d) 6 + start_of d.clauses i) (write_deck d) ≡ clauses_cells (drop i d.clauses)
  unfolding term_cells
  from-cells i =
      sym (drop-drop (start_of d.clauses i) (header (write_deck d) 6) (write_deck d)) ∙ ap (drop (start_of d.clauses i)) (cells-part d) ∙ from_start d.clauses i

  to-next : WfDeck d → (i : ℕ) → i < length d.clauses → clause_to (write_deck d) i ≡ header (write_deck d) 6 + start_of d.clauses (i + 1)
  unfolding clause_to
  to-next w i h = go (ltb (i + 1) (header (write_deck d) 3)) refl
    where
      k : DeckWords (write_deck d) d
      k = deck-words w

      go : (b : Bool) → ltb (i + 1) (header (write_deck d) 3) ≡ b → clause_to (write_deck d) i ≡ header (write_deck d) 6 + start_of d.clauses (i + 1)
      go true e =
          let l : i + 1 < header (write_deck d) 3 = ltb-true (i + 1) (header (write_deck d) 3) e in
          rw (e, clause_to) (ap (header (write_deck d) 6 +◌) (start_word (i + 1) (omega (arith, k.clause_count))))
      go false e =
          let l : header (write_deck d) 3 ≤ i + 1 = ltb-false (i + 1) (header (write_deck d) 3) e in
          let all : take (i + 1) d.clauses ≡ d.clauses = take_all (i + 1) d.clauses (omega (arith, k.clause_count)) in
          rw (e, clause_to) (ap (header (write_deck d) 6 +◌) (k.cell_count ∙ ap (λ cs. length (clauses_cells cs)) (sym all)))

  clause-words : WfDeck d → (i : ℕ) → i < length d.clauses → ClauseAt (write_deck d) d i
  unfolding clauses_cells
  clause-words w i h =
      let k = deck-words w in
      let r = one_more d.clauses i h in
      let start : clause_start (write_deck d) i ≡ start_of d.clauses i = start_word i h in
      let to : clause_to (write_deck d) i ≡ header (write_deck d) 6 + start_of d.clauses (i + 1) = to-next w i h in
      let here : clauses_cells (drop i d.clauses) ≡ write_clause r.0 ++ clauses_cells (drop (i + 1) d.clauses) = ap clauses_cells r.1 in
      let next : start_of d.clauses (i + 1) ≡ start_of d.clauses i + length (write_clause r.0) = start-next d.clauses i r.0 r.1 in
      record {
        clause = r.0;
        place = r.1;
        well_formed = (subst (All (WfClause d.symbols)) r.1 (all_drop (WfClause d.symbols) d.clauses i w.clauses)).0;
        cells = rw (start, to, from-cells i, from-cells (i + 1)) here;
        size = omega arith;
        inside = omega (arith, k.whole, k.cell_count, start-inside d.clauses (i + 1));
      }

pub opened-words : (ws : List ℕ) (d : Deck) → open_deck ws ≡ accepted d → DeckWords ws d
opened-words ws d e = let o = opened-written ws d e in subst (λ x. DeckWords x d) (sym o.0) (deck-words d o.1)

pub clause-at : (ws : List ℕ) (d : Deck) → open_deck ws ≡ accepted d → (i : ℕ) → i < length d.clauses → ClauseAt ws d i
clause-at ws d e i h = let o = opened-written ws d e in subst (λ x. ClauseAt x d i) (sym o.0) (clause-words d o.1 i h)

pub clause-slice :
    (ws : List ℕ) (d : Deck) (i : ℕ) (c : ClauseAt ws d i) → take (clause_to ws i - clause_from ws i) (drop (clause_from ws i) ws) ≡ write_clause c.clause
clause-slice ws d i c =
    ap (take (clause_to ws i - clause_from ws i)) c.cells
    ∙ take_at (write_clause c.clause) (drop (clause_to ws i) ws) (clause_to ws i - clause_from ws i) (omega (arith, c.size))
