-- The number of ones in a row is that of the clauses that are in it. Assumes nothing.
use Prim.Native.Nat.{ℕ, zero, suc, ◌+◌, ◌*◌, ◌/◌, ◌%◌, ◌^◌, ◌≤◌, ◌<◌}
use mathlib.Core.Path.{◌≡◌, refl, ap, ap₂, sym, ◌∙◌}
use mathlib.Core.Bool.{Bool, true, false}
use mathlib.Core.List.{List, [], ◌∷◌}
use native.Mathlib.Omega.{arith}
use native.Mathlib.Nat.{div-add-mod'}
use lib.ListN.{length, get_or, drop}
use lib.Seq.{drop-drop}
use Rattle.std.specs.Int.{bit_at}
use Rattle.std.specs.Int.Count.{ones, ones_step}
use Rattle.std.proofs.lemmas.Nat.Bits.{bit_at_lowest, bit_at-suc}
use Rattle.rules.specs.Syntax.{Clause}
use Rattle.rules.specs.Resolution.{row_of, in_row, row_clauses}
use Rattle.clauses.specs.Rows.{row_bit, member_bit, RowsOf}
use Rattle.clauses.proofs.RowLaws.{member_none}
use Rattle.clauses.proofs.TriedLaws.{row-first, row-other}

-- How many ones there are in so many words of row r.
unfoldable pub ones_of : List ℕ → ℕ → ℕ → ℕ
ones_of words r zero = 0
ones_of words r (suc w) = ones_of words r w + ones (get_or words (16 * w + r) 0)

pub ones_none : (words : List ℕ) (r : ℕ) → ones_of words r 0 ≡ 0
unfolding ones_of
ones_none words r = refl

pub ones-more : (words : List ℕ) (r w : ℕ) → ones_of words r (suc w) ≡ ones_of words r w + ones (get_or words (16 * w + r) 0)
unfolding ones_of
ones-more words r w = refl

module _ (r : ℕ) where
  member-true : (c : Clause) (cs : List Clause) → in_row r (row_of c.arguments) ≡ true → member_bit r (c ∷ cs) ≡ 1
  unfolding member_bit
  member-true c cs e = rw (e, member_bit) refl

  member-false : (c : Clause) (cs : List Clause) → in_row r (row_of c.arguments) ≡ false → member_bit r (c ∷ cs) ≡ 0
  unfolding member_bit
  member-false c cs e = rw (e, member_bit) refl

  -- How many of the first k are in the row.
  abbrev in_first : ℕ → List Clause → ℕ
  in_first zero cs = 0
  in_first (suc k) cs = member_bit r cs + in_first k (drop 1 cs)

  first-nil : (k : ℕ) → in_first k [] ≡ 0
  first-nil zero = refl
  first-nil (suc k) = omega (arith, member_none r, first-nil k)

  first-all : (k : ℕ) (cs : List Clause) → length cs ≤ k → in_first k cs ≡ length (row_clauses r cs)
  unfolding row_clauses
  first-all k [] h = first-nil k
  first-all zero (c ∷ cs) h = absurd (omega arith)
  first-all (suc k) (c ∷ cs) h = go (in_row r (row_of c.arguments)) refl (first-all k cs (omega arith))
    where
      go : (b : Bool) → in_row r (row_of c.arguments) ≡ b → in_first k cs ≡ length (row_clauses r cs) → in_first (suc k) (c ∷ cs) ≡ length (row_clauses r (c ∷ cs))
      go true e i = omega (arith, i, member-true c cs e, ap length (row-first r c cs (member-true c cs e)))
      go false e i = omega (arith, i, member-false c cs e, ap length (row-other r c cs (member-false c cs e)))

  first-add : (a b : ℕ) (cs : List Clause) → in_first (a + b) cs ≡ in_first a cs + in_first b (drop a cs)
  first-add zero b cs = let e : 0 + b ≡ b = omega arith in ap (λ (n : ℕ). in_first n cs) e ∙ omega arith
  first-add (suc a) b cs =
      let e : suc a + b ≡ suc (a + b) = omega arith in
      let f : 1 + a ≡ suc a = omega arith in
      let d : drop a (drop 1 cs) ≡ drop (suc a) cs = drop-drop a 1 cs ∙ ap (λ (n : ℕ). drop n cs) f in
      ap (λ (n : ℕ). in_first n cs) e ∙ omega (arith, first-add a b (drop 1 cs), ap (in_first b) d)

  -- One word of k bits.
  word-first : (k n : ℕ) (cs : List Clause) → n < 2 ^ k → ((j : ℕ) → j < k → bit_at n j ≡ member_bit r (drop j cs)) → ones n ≡ in_first k cs
  unfolding ones
  word-first zero n cs h b = let z : n ≡ 0 = omega arith in rw z refl
  word-first (suc k) n cs h b =
      let s : 2 ^ suc k ≡ 2 * 2 ^ k = omega arith in
      let first : n % 2 ≡ member_bit r cs = sym (bit_at_lowest n) ∙ b 0 (omega arith) in
      let rest : ones (n / 2) ≡ in_first k (drop 1 cs) =
      word-first k (n / 2) (drop 1 cs) (omega (arith, s))
      (λ j l.
      let f : 1 + j ≡ suc j = omega arith in
      sym (bit_at-suc n j) ∙ b (suc j) (omega arith) ∙ ap (member_bit r) (sym (drop-drop j 1 cs ∙ ap (λ (m : ℕ). drop m cs) f))) in
      ones_step n ∙ ap₂ (λ (x y : ℕ). x + y) first rest

  -- All words.
  words-first : (words : List ℕ) (cs : List Clause) (w : ℕ) → ((v : ℕ) → v < w → get_or words (16 * v + r) 0 < 2 ^ 64) → ((k : ℕ) → k / 64 < w → row_bit words r k ≡ member_bit r (drop k cs))
      → ones_of words r w ≡ in_first (64 * w) cs
  words-first words cs zero small b = ones_none words r
  words-first words cs (suc w) small b =
      let e : 64 * suc w ≡ 64 * w + 64 = omega arith in
      let word : ones (get_or words (16 * w + r) 0) ≡ in_first 64 (drop (64 * w) cs) =
      word-first 64 (get_or words (16 * w + r) 0) (drop (64 * w) cs) (small w (omega arith))
      (λ j l.
      let q : (64 * w + j) / 64 ≡ w = omega (arith, div-add-mod' (64 * w + j) 64) in
      let m : (64 * w + j) % 64 ≡ j = omega (arith, div-add-mod' (64 * w + j) 64) in
      (rw (q, m) at (b (64 * w + j) (omega (arith, div-add-mod' (64 * w + j) 64)))) ∙ ap (member_bit r) (sym (drop-drop j (64 * w) cs))) in
      ones-more words r w
      ∙ ap₂ (λ (x y : ℕ). x + y) (words-first words cs w (λ v l. small v (omega arith)) (λ k l. b k (omega arith))) word
      ∙ sym (first-add (64 * w) 64 cs) ∙ ap (λ (n : ℕ). in_first n cs) (sym e)

pub ones-row : (words : List ℕ) (r : ℕ) (cs : List Clause) → r < 16 → ((v : ℕ) → v < length words / 16 → get_or words (16 * v + r) 0 < 2 ^ 64) → RowsOf cs words
    → ones_of words r (length words / 16) ≡ length (row_clauses r cs)
ones-row words r cs h small x =
    let w : length words / 16 ≡ (length cs + 63) / 64 = omega (arith, x.room) in
    ap (ones_of words r) w
    ∙ words-first r words cs ((length cs + 63) / 64) (λ v l. small v (omega (arith, w))) (λ k l. x.bits r k h l)
    ∙ first-all r (64 * ((length cs + 63) / 64)) cs (omega arith)

-- A word of k bits has at most k ones.
pub ones-few : (k n : ℕ) → n < 2 ^ k → ones n ≤ k
unfolding ones
ones-few zero n h = let z : n ≡ 0 = omega arith in rw z (omega arith)
ones-few (suc k) n h =
    let s : 2 ^ suc k ≡ 2 * 2 ^ k = omega arith in
    omega (arith, ones_step n, ones-few k (n / 2) (omega (arith, s)))
