-- The rows of a predicate's clauses: the next one of a row, the bit of one clause more, and what a literal tries by a row. Assumes nothing.
use Prim.Native.Nat.{ℕ, ◌+◌, ◌-◌, ◌*◌, ◌/◌, ◌%◌, ◌^◌, ◌≤◌, ◌<◌}
use mathlib.Core.Path.{◌≡◌, refl, ap, sym, ◌∙◌}
use mathlib.Core.Bool.{Bool, true, false, true≢false}
use mathlib.Core.Option.{none, some}
use mathlib.Core.List.{List, [], ◌∷◌, ◌++◌}
use native.Mathlib.Omega.{arith}
use native.Mathlib.Nat.{div-add-mod'}
use native.Mathlib.Decide.{ℕ_discrete}
use lib.Dec.{ltb}
use lib.ListN.{length, get_or, set, take, drop, drop_of_length-le, length-append, length-drop}
use lib.Seq.{get_or-take, get_or-set_same, get_or-set_other}
use borrow.Author.Tests.{eqb-true, eqb-false, le-ltb, lt-ltb, ltb-true, ltb-false}
use borrow.Rule.Slice.PartMut.{put_mid}
use Rattle.std.specs.Int.{bit_at, trailing_zeros, w64}
use Rattle.std.specs.Int.Bits.{bit_or}
use Rattle.std.proofs.lemmas.List.{get_or-drop, length-take}
use Rattle.std.proofs.lemmas.List.Edits.{get_or-between}
use Rattle.std.proofs.lemmas.Nat.{shr-shr, shr_le}
use Rattle.std.proofs.lemmas.Nat.Bits.{bit_at-zero, bit_at-trailing_zeros, bit_at_above}
use Rattle.std.proofs.lemmas.Slice.{take-put_mid_below, drop-put_mid, between-put_mid}
use Rattle.rules.specs.Terms.{Terms, var, app, nil, cons, count}
use Rattle.rules.specs.Syntax.{Symbol, Clause}
use Rattle.rules.specs.Cells.{function, write_terms, write_literals}
use Rattle.rules.specs.Decks.{write_clause}
use Rattle.rules.specs.Resolution.{row_of, in_row}
use Rattle.rules.specs.WellFormed.{WfTerms, WfClause}
use Rattle.rules.proofs.CellLaws.{written_as}
use Rattle.deck.proofs.BitLaws.{set-here, set-other}
use Rattle.clauses.specs.Clauses.{ClauseAt}
use Rattle.clauses.specs.Rows.{row_words, row_bit, member_bit, RowsOf, Unset, row_of_cell, Marked}

-- THE NEXT ONE. The bits of one word from that of m on.
module _ (words : List ℕ) (r m : ℕ) where
  abbrev pub word : ℕ
  word = get_or words (16 * (m / 64) + r) 0

  abbrev pub rest : ℕ
  rest = word / 2 ^ (m % 64)

  bit-shift : (n j i : ℕ) → bit_at (n / 2 ^ j) i ≡ bit_at n (j + i)
  bit-shift n j i = ap (λ (x : ℕ). x % 2) (shr-shr n j i)

  bit-further : (i : ℕ) → m ≤ i → i < m + (64 - m % 64) → row_bit words r i ≡ bit_at rest (i - m)
  bit-further i l h =
      let e : i / 64 ≡ m / 64 = omega (arith, div-add-mod' i 64, div-add-mod' m 64) in
      let f : i % 64 ≡ m % 64 + (i - m) = omega (arith, div-add-mod' i 64, div-add-mod' m 64) in
      rw (e, f) (sym (bit-shift word (m % 64) (i - m)))

  pub word_none : rest ≡ 0 → (i : ℕ) → m ≤ i → i < m + (64 - m % 64) → row_bit words r i ≡ 0
  word_none z i l h = bit-further i l h ∙ rw z (bit_at-zero (i - m))

  module _ (small : word < 2 ^ 64) (some-bit : 0 < rest) where
    abbrev first : ℕ
    first = trailing_zeros w64 rest

    low : rest < 2 ^ 64
    low = omega (arith, shr_le word (m % 64))

    -- The bit that is found is in the same word.
    pub word-inside : first < 64 - m % 64
    word-inside = go (ltb first (64 - m % 64)) refl
      where
        go : (b : Bool) → ltb first (64 - m % 64) ≡ b → first < 64 - m % 64
        go true e = ltb-true first (64 - m % 64) e
        go false e =
            let past : bit_at word (m % 64 + first) ≡ 0 = bit_at_above word 64 (m % 64 + first) small (omega (arith, ltb-false first (64 - m % 64) e)) in
            absurd (omega (arith, sym (bit-shift word (m % 64) first) ∙ (bit_at-trailing_zeros w64 rest some-bit low).1, past))

    pub word-passed : (i : ℕ) → m ≤ i → i < m + first → row_bit words r i ≡ 0
    word-passed i l h = bit-further i l (omega (arith, word-inside)) ∙ (bit_at-trailing_zeros w64 rest some-bit low).2 (i - m) (omega arith)

    pub word-one : row_bit words r (m + first) ≡ 1
    word-one =
        let e : m + first - m ≡ first = omega arith in
        bit-further (m + first) (omega arith) (omega (arith, word-inside)) ∙ rw e ((bit_at-trailing_zeros w64 rest some-bit low).1)

-- ONE CLAUSE MORE. The row of a head by the cell that its arguments start with.
row-of-cell : (S : List Symbol) (ts : Terms) (more : List ℕ) → 0 < count ts → WfTerms S ts → row_of_cell (get_or (write_terms ts more) 0 0) ≡ row_of ts
unfolding row_of
row-of-cell S nil more h w = absurd (omega arith)
row-of-cell S (cons (var v) ts) more h w = let l : 32768 ≤ 32768 + v = omega arith in rw (le-ltb (32768 + v) 32768 l, row_of_cell) refl
row-of-cell S (cons (app f us) ts) more h w =
    let l : f < 32768 = omega (arith, (written_as S f (function f (count us)) w.0.0).1) in rw (lt-ltb f 32768 l, row_of_cell) refl

pub head-cell : (S : List Symbol) (c : Clause) (l : List ℕ) → WfClause S c → 0 < count c.arguments → l ≡ write_clause c
    → (1 < length l) × (row_of_cell (get_or l 1 0) ≡ row_of c.arguments)
unfolding write_clause
head-cell S c l w h e = rw e (omega (arith, long c.arguments (write_literals c.body) h), row-of-cell S c.arguments (write_literals c.body) h w.literals.0.1)
  where
    long : (ts : Terms) (rest : List ℕ) → 0 < count ts → 0 < length (write_terms ts rest)
    long nil rest h = absurd (omega arith)
    long (cons (var v) ts) rest h = omega arith
    long (cons (app f us) ts) rest h = omega arith

-- A part of a list that is written: what is before it, in it and behind it.
module _ (a k : ℕ) (xs ys : List ℕ) (whole : a + k ≤ length xs) (size : length ys ≡ k) where
  pub put-before : (w : ℕ) → w < a → get_or (put_mid a k xs ys) w 0 ≡ get_or xs w 0
  put-before w h =
      sym (get_or-take a (put_mid a k xs ys) w 0 h) ∙ ap (λ l. get_or l w 0) (take-put_mid_below a k xs ys a (omega arith) (omega arith)) ∙ get_or-take a xs w 0 h

  pub put-inside : (w : ℕ) → w < k → get_or (put_mid a k xs ys) (a + w) 0 ≡ get_or ys w 0
  put-inside w h =
      sym (get_or-between (put_mid a k xs ys) a (a + k) w 0 (omega arith))
      ∙ ap (λ l. get_or l w 0) (between-put_mid a k xs ys (a + k) (omega arith) (omega arith))

  pub put-behind : (w : ℕ) → a + k ≤ w → get_or (put_mid a k xs ys) w 0 ≡ get_or xs w 0
  put-behind w h =
      let e : a + k + (w - (a + k)) ≡ w = omega arith in
      ap (λ i. get_or (put_mid a k xs ys) i 0) (sym e) ∙ sym (get_or-drop (a + k) (put_mid a k xs ys) (w - (a + k)) 0)
      ∙ ap (λ l. get_or l (w - (a + k)) 0) (drop-put_mid a k xs ys (a + k) (omega arith) (omega arith) size)
      ∙ get_or-drop (a + k) xs (w - (a + k)) 0 ∙ ap (λ i. get_or xs i 0) e

  pub put-length : length (put_mid a k xs ys) ≡ length xs
  put-length =
      omega (
        arith,
        length-append (take a xs) (ys ++ drop k (drop a xs)),
        length-append ys (drop k (drop a xs)),
        length-take a xs,
        length-drop k (drop a xs),
        length-drop a xs,
      )

-- The bit of one clause in a block.
abbrev chosen : Bool → ℕ
chosen true = 1
chosen false = 0

member-one : (r : ℕ) (c : Clause) (cs : List Clause) → member_bit r (c ∷ cs) ≡ chosen (in_row r (row_of c.arguments))
unfolding member_bit
member-one r c cs = go (in_row r (row_of c.arguments))
  where
    go : (b : Bool) → (elim b as (λ _. ℕ) [ true ↦ 1 | false ↦ 0 ]) ≡ chosen b
    go true = refl
    go false = refl

pub member_none : (r : ℕ) → member_bit r [] ≡ 0
unfolding member_bit
member_none r = refl

-- The bit is set in one word of a block, or in each.
pub marked-one : (block : List ℕ) (j cell w b : ℕ) → length block ≡ 16 → cell < 32768 → w ≡ cell % 16 → b ≡ 2 ^ j
    → Marked block j cell (set block w (bit_or (get_or block w 0) b))
unfolding in_row
marked-one block j cell w b long h e q =
    let o : row_of_cell cell ≡ some (cell % 16) = rw (lt-ltb cell 32768 h, row_of_cell) refl in
    rw (e, q)
    record {
      set = λ r l t.
          let z : r ≡ cell % 16 = eqb-true r (cell % 16) (ap (in_row r) (sym o) ∙ t) in
          rw z (get_or-set_same block (cell % 16) (bit_or (get_or block (cell % 16) 0) (2 ^ j)) 0 (omega arith));
      kept = λ r l t.
          get_or-set_other block (cell % 16) r (bit_or (get_or block (cell % 16) 0) (2 ^ j)) 0 (eqb-false r (cell % 16) (ap (in_row r) (sym o) ∙ t));
    }

pub marked-each : (block : List ℕ) (j cell b : ℕ) (block' : List ℕ) → 32768 ≤ cell → b ≡ 2 ^ j → ((r : ℕ) → r < 16 → get_or block' r 0 ≡ bit_or (get_or block r 0) b)
    → Marked block j cell block'
unfolding in_row
marked-each block j cell b block' h q all =
    let o : row_of_cell cell ≡ none = rw (le-ltb cell 32768 h, row_of_cell) refl in
    record {
      set = λ r l t. all r l ∙ rw q refl;
      kept = λ r l t. absurd (true≢false (ap (in_row r) (sym o) ∙ t));
    }

-- The rows of some clauses, filled for the first k of them.
pub record Rowing (cs : List Clause) (k : ℕ) (words : List ℕ) : Type 0 where
  pub size : length words ≡ row_words (length cs)
  pub done : (r m : ℕ) → r < 16 → m < k → row_bit words r m ≡ member_bit r (drop m cs)
  pub unset : (r m : ℕ) → r < 16 → k ≤ m → m / 64 < (length cs + 63) / 64 → row_bit words r m ≡ 0

pub rowing_none : (cs : List Clause) (words : List ℕ) → length words ≡ row_words (length cs) → Unset words → Rowing cs 0 words
rowing_none cs words size z = record {
  size = size;
  done = λ r m h l. absurd (omega arith);
  unset = λ r m h l q. rw (z.none (16 * (m / 64) + r) (omega (arith, size))) (bit_at-zero (m % 64));
}

module _ (cs : List Clause) (k cell : ℕ) (c : Clause) (at : ClauseAt cs k c) (row : row_of_cell cell ≡ row_of c.arguments) (words block : List ℕ) (long : length block ≡ 16) (x : Rowing cs k words)
    (marked : Marked (take 16 (drop (16 * (k / 64)) words)) (k % 64) cell block) where
  abbrev new : List ℕ
  new = put_mid (16 * (k / 64)) 16 words block

  inside : k / 64 < (length cs + 63) / 64
  inside = omega (arith, ap length at, length-drop k cs, length-drop (k + 1) cs)

  whole : 16 * (k / 64) + 16 ≤ length words
  whole = omega (arith, x.size, inside)

  old-word : (r : ℕ) → r < 16 → get_or (take 16 (drop (16 * (k / 64)) words)) r 0 ≡ get_or words (16 * (k / 64) + r) 0
  old-word r h = get_or-take 16 (drop (16 * (k / 64)) words) r 0 h ∙ get_or-drop (16 * (k / 64)) words r 0

  here : (r : ℕ) → r < 16 → row_bit new r k ≡ member_bit r (drop k cs)
  here r h = rw (put-inside (16 * (k / 64)) 16 words block whole long r h, at, member-one r c (drop (k + 1) cs), ← row) (go (in_row r (row_of_cell cell)) refl)
    where
      clear : bit_at (get_or words (16 * (k / 64) + r) 0) (k % 64) ≡ 0
      clear = x.unset r k h (omega arith) inside

      go : (b : Bool) → in_row r (row_of_cell cell) ≡ b → bit_at (get_or block r 0) (k % 64) ≡ chosen b
      go true e = rw (marked.set r h e, old-word r h) (set-here (get_or words (16 * (k / 64) + r) 0) (k % 64) clear)
      go false e = rw (marked.kept r h e, old-word r h) clear

  other : (r m : ℕ) → r < 16 → (m ≡ k → ⊥) → row_bit new r m ≡ row_bit words r m
  other r m h n = cases (ℕ_discrete (m / 64) (k / 64))
    where
      go : (b : Bool) → in_row r (row_of_cell cell) ≡ b → m / 64 ≡ k / 64 → bit_at (get_or block r 0) (m % 64) ≡ bit_at (get_or words (16 * (k / 64) + r) 0) (m % 64)
      go true e q =
          rw (marked.set r h e, old-word r h)
          (set-other (get_or words (16 * (k / 64) + r) 0) (k % 64) (m % 64) (λ z. n (omega (arith, div-add-mod' m 64, div-add-mod' k 64))))
      go false e q = rw (marked.kept r h e, old-word r h) refl

      elsewhere : (m / 64 ≡ k / 64 → ⊥) → get_or new (16 * (m / 64) + r) 0 ≡ get_or words (16 * (m / 64) + r) 0
      elsewhere q = side (ltb (m / 64) (k / 64)) refl
        where
          side : (t : Bool) → ltb (m / 64) (k / 64) ≡ t → get_or new (16 * (m / 64) + r) 0 ≡ get_or words (16 * (m / 64) + r) 0
          side true e = put-before (16 * (k / 64)) 16 words block whole long (16 * (m / 64) + r) (omega (arith, ltb-true (m / 64) (k / 64) e))
          side false e = put-behind (16 * (k / 64)) 16 words block whole long (16 * (m / 64) + r) (omega (arith, ltb-false (m / 64) (k / 64) e, q))

      cases : Dec (m / 64 ≡ k / 64) → row_bit new r m ≡ row_bit words r m
      cases (yes q) = rw (q, put-inside (16 * (k / 64)) 16 words block whole long r h) (go (in_row r (row_of_cell cell)) refl q)
      cases (no q) = rw (elsewhere q) refl

  pub rowing-more : Rowing cs (k + 1) new
  rowing-more =
      record {
        size = put-length (16 * (k / 64)) 16 words block whole long ∙ x.size;
        done = λ r m h l. go r m h l (ℕ_discrete m k);
        unset = λ r m h l b. other r m h (λ z. omega arith) ∙ x.unset r m h (omega arith) b;
      }
    where
      go : (r m : ℕ) → r < 16 → m < k + 1 → Dec (m ≡ k) → row_bit new r m ≡ member_bit r (drop m cs)
      go r m h l (yes z) = rw z (here r h)
      go r m h l (no z) = other r m h z ∙ x.done r m h (omega arith)

pub rowing-all : (cs : List Clause) (k : ℕ) (words : List ℕ) → length cs ≤ k → Rowing cs k words → RowsOf cs words
rowing-all cs k words h x =
    record {
      room = x.size;
      bits = λ r m l b. go r m l b (ltb m k) refl;
    }
  where
    go : (r m : ℕ) → r < 16 → m / 64 < (length cs + 63) / 64 → (t : Bool) → ltb m k ≡ t → row_bit words r m ≡ member_bit r (drop m cs)
    go r m l b true e = x.done r m l (ltb-true m k e)
    go r m l b false e =
        let past : k ≤ m = ltb-false m k e in
        x.unset r m l past b ∙ sym (rw (drop_of_length-le cs {i = m} (omega arith)) (member_none r))
