-- What a literal tries, by the index, and what is left of it after a clause. Assumes nothing.
use Prim.Native.Nat.{ℕ, zero, suc, ◌+◌, ◌-◌, ◌≤◌, ◌<◌}
use mathlib.Core.Path.{◌≡◌, refl, ap, sym, ◌∙◌, subst}
use mathlib.Core.Bool.{Bool, true, false}
use mathlib.Core.Option.{none}
use mathlib.Core.List.{List, [], ◌∷◌}
use native.Mathlib.Omega.{arith}
use lib.Dec.{ltb}
use lib.ListN.{length, get_or, drop, drop_of_length-le, length-drop}
use lib.Seq.{drop-drop}
use borrow.Author.Tests.{lt-ltb, ltb-true, ltb-false}
use Rattle.std.proofs.Common.{Option, Some, None, IfSome}
use Rattle.rules.specs.Terms.{Terms}
use Rattle.rules.specs.Syntax.{Clause, Deck}
use Rattle.rules.specs.Cells.{positive, read_cell}
use Rattle.rules.specs.Refusals.{accepted}
use Rattle.rules.specs.Decks.{open_deck, symbol_words}
use Rattle.rules.specs.Resolution.{clauses_about, row_of, in_row, row_clauses, has_rows, tried_by, tried}
use Rattle.rules.proofs.IndexLaws.{tried-few}
use Rattle.deck.proofs.OpenLaws.{accepted-deck}
use Rattle.signature.specs.Symbols.{arity_at}
use Rattle.clauses.specs.Groups.{before, Numbers}
use Rattle.clauses.specs.Rows.{member_bit, RowsOf, NextOne, Argued}
use Rattle.clauses.specs.Index.{rows_at, Indexes, begin_of, size_of, Places, numbers_at, RowFor}
use Rattle.clauses.specs.Tried.{row_of_symbol, tried_of, left, Gives, IsRowOf}
use Rattle.clauses.specs.declared.by_predicate.Index.{Index}
use Rattle.clauses.specs.declared.rows.Row.{Row}
use Rattle.clauses.specs.declared.tried.Tried.{Tried}
use Rattle.clauses.proofs.GroupLaws.{few, few-symbols, before-next, before-all, numbers-nth}
use Rattle.clauses.proofs.RowLaws.{member_none}
use Rattle.clauses.proofs.ArityLaws.{arity-of, all-argued}
use Rattle.clauses.proofs.IndexLaws.{group-begin, group-end, group-room, group-numbers}

-- WHAT IS FOUND of the literals about p.
module _ (ws : List ℕ) (d : Deck) (o : open_deck ws ≡ accepted d) (index : Index) (x : Indexes (symbol_words ws) d.clauses index) (p : ℕ)
    (h : p < length (symbol_words ws)) where
  abbrev cs : List Clause
  cs = clauses_about p d.clauses

  found-begin : begin_of index p ≡ before p d.clauses
  found-begin = group-begin (length (symbol_words ws)) d.clauses index.groups.begins index.groups.numbers x.groups (few ws d o) p h

  found-end : get_or index.groups.begins (p + 1) 0 ≡ before p d.clauses + length cs
  found-end = group-end (length (symbol_words ws)) d.clauses index.groups.begins index.groups.numbers x.groups (few ws d o) p h

  found-room : before p d.clauses + length cs ≤ 8192
  found-room = group-room (length (symbol_words ws)) d.clauses index.groups.begins index.groups.numbers x.groups (few ws d o) p h

  found-size : size_of index p ≡ length cs
  found-size = omega (arith, found-begin, found-end)

  pub found-places : Places index p
  found-places = record { p_in = omega (arith, few-symbols ws d o); in_order = omega (arith, found-begin, found-end); within = omega (arith, found-end, found-room) }

  pub found-numbers : (numbers : List ℕ) → numbers ≡ numbers_at index p → Numbers p d.clauses numbers
  found-numbers numbers e = group-numbers (length (symbol_words ws)) d.clauses index.groups.begins index.groups.numbers x.groups (few ws d o) p h numbers e

  pub found-few : (numbers : List ℕ) → numbers ≡ numbers_at index p → length numbers ≤ 8192
  found-few numbers e = omega (arith, (found-numbers numbers e).many, found-room)

  pub found-rows : (first : Option ℕ) (row : Option Row) → IfSome first (λ f. 0 < arity_at (symbol_words ws) p) → RowFor index p first row → IfSome row (λ r. RowsOf cs r.words.now)
  found-rows first None a r = tt
  found-rows None (Some row) a r = absurd r
  found-rows (Some f) (Some row) a r =
      let words : row.words.now ≡ rows_at index.rows (before p d.clauses) (length cs) = r.2 ∙ rw (found-size, found-begin) refl in
      rw words (x.rows p h a (omega (arith, found-size, r.0)))

  pub found-tried : (first : Option ℕ) (row : Option Row) (ts : Terms) → row_of_symbol first ≡ row_of ts → RowFor index p first row → tried_of row cs ≡ tried ts cs
  unfolding tried tried_by has_rows
  found-tried None None ts e r = rw (← e) (go (ltb 64 (length cs)))
    where
      go : (b : Bool) → cs ≡ tried_by b none cs
      go true = refl
      go false = refl
  found-tried None (Some row) ts e r = absurd r
  found-tried (Some f) None ts e r = sym (tried-few ts cs (omega (arith, found-size)))
  found-tried (Some f) (Some row) ts e r =
      let many : ltb 64 (length cs) ≡ true = lt-ltb 64 (length cs) (omega (arith, found-size, r.0)) in
      rw (← e, many, r.1) refl

-- THE NEXT ONE. The clauses of a row, from one place to the next one that is in it.
module _ (r : ℕ) where
  pub row-first : (c : Clause) (cs : List Clause) → member_bit r (c ∷ cs) ≡ 1 → row_clauses r (c ∷ cs) ≡ c ∷ row_clauses r cs
  unfolding member_bit row_clauses
  row-first c cs e = go (in_row r (row_of c.arguments)) refl
    where
      go : (b : Bool) → in_row r (row_of c.arguments) ≡ b → row_clauses r (c ∷ cs) ≡ c ∷ row_clauses r cs
      go true q = rw (q, row_clauses) refl
      go false q = let z : ◌≡◌ {A = ℕ} 0 1 = rw (q, member_bit) at e in absurd (omega arith)

  pub row-other : (c : Clause) (cs : List Clause) → member_bit r (c ∷ cs) ≡ 0 → row_clauses r (c ∷ cs) ≡ row_clauses r cs
  unfolding member_bit row_clauses
  row-other c cs e = go (in_row r (row_of c.arguments)) refl
    where
      go : (b : Bool) → in_row r (row_of c.arguments) ≡ b → row_clauses r (c ∷ cs) ≡ row_clauses r cs
      go true q = let z : ◌≡◌ {A = ℕ} 1 0 = rw (q, member_bit) at e in absurd (omega arith)
      go false q = rw (q, row_clauses) refl

  row_none : row_clauses r [] ≡ []
  unfolding row_clauses
  row_none = refl

  module _ (cs : List Clause) where
    pass-one : (k : ℕ) → member_bit r (drop k cs) ≡ 0 → row_clauses r (drop k cs) ≡ row_clauses r (drop (k + 1) cs)
    pass-one k z = go (drop k cs) refl
      where
        go : (l : List Clause) → drop k cs ≡ l → row_clauses r (drop k cs) ≡ row_clauses r (drop (k + 1) cs)
        go [] e =
            let past : length cs ≤ k = omega (arith, ap length e, length-drop k cs) in
            rw (e, drop_of_length-le cs {i = k + 1} (omega arith)) refl
        go (c ∷ l) e =
            let t : drop (k + 1) cs ≡ l = sym (drop-drop 1 k cs) ∙ ap (drop 1) e in
            rw (e, t) (row-other c l (rw e at z))

    pass-some : (n k : ℕ) → ((m : ℕ) → k ≤ m → m < k + n → member_bit r (drop m cs) ≡ 0) → row_clauses r (drop k cs) ≡ row_clauses r (drop (k + n) cs)
    pass-some zero k h = let e : k + 0 ≡ k = omega arith in rw e refl
    pass-some (suc n) k h =
        let e : k + 1 + n ≡ k + suc n = omega arith in
        pass-one k (h k (omega arith) (omega arith)) ∙ pass-some n (k + 1) (λ m a b. h m (omega arith) (omega arith)) ∙ ap (λ (m : ℕ). row_clauses r (drop m cs)) e

-- All clauses, or those of a row: j is the next place from k on.
abbrev pub NextPlace : Option Row → ℕ → ℕ → ℕ → Type 0
NextPlace None n k j = j ≡ k
NextPlace (Some row) n k j = NextOne row.words.now row.number n k j

module _ (cs : List Clause) (k j : ℕ) where
  passed-row : (row : Row) → RowsOf cs row.words.now → NextOne row.words.now row.number (length cs) k j → row_clauses row.number (drop k cs) ≡ row_clauses row.number (drop j cs)
  passed-row row x n =
      let e : k + (j - k) ≡ j = omega (arith, n.later) in
      pass-some row.number cs (j - k) k (λ m a b. unset m a (omega (arith, n.later))) ∙ ap (λ (m : ℕ). row_clauses row.number (drop m cs)) e
    where
      unset : (m : ℕ) → k ≤ m → m < j → member_bit row.number (drop m cs) ≡ 0
      unset m a b = go (ltb m (length cs)) refl
        where
          go : (t : Bool) → ltb m (length cs) ≡ t → member_bit row.number (drop m cs) ≡ 0
          go true t =
              let h : m < length cs = ltb-true m (length cs) t in
              sym (x.bits row.number m row.number_in (omega arith)) ∙ n.passed m a b h
          go false t = rw (drop_of_length-le cs {i = m} (ltb-false m (length cs) t)) (member_none row.number)

  pub tried_none : (row : Option Row) → IfSome row (λ r. RowsOf cs r.words.now) → NextPlace row (length cs) k j → length cs ≤ j → tried_of row (drop k cs) ≡ []
  tried_none None x n h = rw (drop_of_length-le cs {i = k} (omega arith)) refl
  tried_none (Some row) x n h = passed-row row x n ∙ rw (drop_of_length-le cs {i = j} h) (row_none row.number)

  pub tried-first : (row : Option Row) (c : Clause) → IfSome row (λ r. RowsOf cs r.words.now) → NextPlace row (length cs) k j → drop j cs ≡ c ∷ drop (j + 1) cs
      → tried_of row (drop k cs) ≡ c ∷ tried_of row (drop (j + 1) cs)
  tried-first None c x n e = rw (← n) e
  tried-first (Some row) c x n e =
      let h : j < length cs = omega (arith, ap length e, length-drop j cs, length-drop (j + 1) cs) in
      let one : member_bit row.number (drop j cs) ≡ 1 = sym (x.bits row.number j row.number_in (omega arith)) ∙ n.one h in
      passed-row row x n ∙ ap (row_clauses row.number) e ∙ row-first row.number c (drop (j + 1) cs) (ap (member_bit row.number) (sym e) ∙ one)

-- A STEP of the clauses that are tried, at the next place k.
next-later : (row : Option Row) (n k j : ℕ) → NextPlace row n k j → k ≤ j
next-later None n k j h = omega arith
next-later (Some row) n k j h = h.later

module _ (s : Tried) (k : ℕ) (place : NextPlace s.row (length s.numbers.now) s.next k) where
  pub step-later : s.next ≤ k
  step-later = next-later s.row (length s.numbers.now) s.next k place

  module _ (d : Deck) (e : open_deck s.clauses.deck.words.now ≡ accepted d) where
    counted : NextPlace s.row (length (clauses_about s.p d.clauses)) s.next k
    counted = subst (λ n. NextPlace s.row n s.next k) (s.numbers_about d e).many place

    pub step_none : length s.numbers.now ≤ k → left d s ≡ []
    step_none h = tried_none (clauses_about s.p d.clauses) s.next k s.row (s.rows_about d e) counted (omega (arith, (s.numbers_about d e).many))

    pub step-given : (i : ℕ) → k < length s.numbers.now → i ≡ get_or s.numbers.now k 0
        → Gives d.clauses s.p i (left d s) (tried_of s.row (drop (k + 1) (clauses_about s.p d.clauses)))
    step-given i h q =
        let r = numbers-nth s.p d.clauses s.numbers.now k i (s.numbers_about d e) h q in
        record {
          clause = r.clause;
          at = r.at;
          is_about = r.is-about;
          first = tried-first (clauses_about s.p d.clauses) s.next k s.row r.clause (s.rows_about d e) counted r.here;
        }

-- A predicate of a literal whose first argument begins with a symbol has arguments.
pub first-argued : (ws : List ℕ) (d : Deck) → open_deck ws ≡ accepted d → (p n : ℕ) → read_cell d.symbols p ≡ positive p n → (first : Option ℕ)
    → ((f : ℕ) → first ≡ Some f → 0 < n) → IfSome first (λ f. 0 < arity_at (symbol_words ws) p)
first-argued ws d o p n e None h = tt
first-argued ws d o p n e (Some f) h = omega (arith, arity-of ws d o p n e, h f refl)

-- The row is that of the symbol.
pub row-symbol : (index : Index) (p : ℕ) (first : Option ℕ) (row : Option Row) → RowFor index p first row → IsRowOf first row
row-symbol index p first None r = tt
row-symbol index p None (Some row) r = absurd r
row-symbol index p (Some f) (Some row) r = rw r.1 refl

-- There are at most as many places as the deck has clauses.
pub few-places : (s : Tried) → length s.numbers.now ≤ 8192
few-places s =
    let ws = s.clauses.deck.words.now in
    let d = accepted-deck ws s.clauses.deck.opens in
    let cs = d.0.clauses in
    omega (arith, (s.numbers_about d.0 d.1).many, before-next s.p cs, before-all (suc s.p) cs, few ws d.0 d.1)

-- At the start all clauses of the row are to be tried.
pub start-left : (s : Tried) (d : Deck) (row : Row) → s.row ≡ Some row → s.next ≡ 0 → left d s ≡ row_clauses row.number (clauses_about s.p d.clauses)
start-left s d row e z = rw (e, z) refl

-- The clauses about a predicate with arguments have arguments.
pub argued-of : (ws : List ℕ) (d : Deck) → open_deck ws ≡ accepted d → (p n : ℕ) → read_cell d.symbols p ≡ positive p n → 0 < n → Argued p d.clauses
argued-of ws d o p n e h = all-argued ws d o p (omega (arith, arity-of ws d o p n e))
