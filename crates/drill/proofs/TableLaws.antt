-- The rows of the table: one that is filled in from its start, and one more of them.
use Prim.Native.Nat.{ℕ, zero, suc, ◌+◌, ◌≤◌, ◌<◌}
use mathlib.Core.Path.{◌≡◌, refl, sym, ◌∙◌}
use mathlib.Core.Bool.{Bool, true, false}
use mathlib.Core.List.{List, []}
use native.Mathlib.Omega.{arith}
use lib.ListN.{length, get_or, set, replicate, length-set}
use lib.Dec.{eqb, eqb-suc-zero, leb}
use borrow.Author.Tests.{eqb-true, eqb-false, leb-true, leb-false}
use lib.Seq.{get_or-set_same}
use Rattle.std.proofs.lemmas.List.{get_or-set_other}
use Rattle.rules.specs.Syntax.{Symbol}
use Rattle.rules.specs.Drill.{fillings}
use Rattle.drill.specs.Successors.{nonempty, Known, AllKnown}
use Rattle.drill.proofs.FillLaws.{nonempty-places-none, nonempty-over}

-- The first n entries of a row of m cells are filled in, and the others are false.
pub record Filled (S : List Symbol) (m : ℕ) (row : List Bool) (n : ℕ) : Type 0 where
  pub size : length row ≡ 8
  pub at : (k : ℕ) → k < n → get_or row k false ≡ nonempty (fillings S m k)
  pub others : (k : ℕ) → n ≤ k → k < 8 → get_or row k false ≡ false

-- Nothing is filled in; and no places take no cells.
module _ (S : List Symbol) (m : ℕ) (row : List Bool) (size : length row ≡ 8) (blank : (k : ℕ) → k < 8 → get_or row k false ≡ false) where
  pub filled-none : Filled S m row 0
  filled-none = record { size = size; at = λ k h. absurd (omega arith); others = λ k h. blank k }

  pub filled-one : 1 ≤ m → Filled S m row 1
  filled-one some = record { size = size; at = first; others = λ k h. blank k }
    where
      first : (k : ℕ) → k < 1 → get_or row k false ≡ nonempty (fillings S m k)
      first zero h = blank 0 (omega arith) ∙ go m some ∙ sym (nonempty-places-none S m)
        where
          go : (m : ℕ) → 1 ≤ m → false ≡ eqb m 0
          go zero h = absurd (omega arith)
          go (suc m) h = sym (eqb-suc-zero m)
      first (suc k) h = absurd (omega arith)

pub filled-first : (S : List Symbol) → true ≡ nonempty (fillings S 0 0)
unfolding nonempty fillings
filled-first S = refl

-- One more entry.
module _ {S : List Symbol} {m : ℕ} {row : List Bool} {n : ℕ} (f : Filled S m row n) where
  pub filled_more : (b : Bool) → n < 8 → b ≡ nonempty (fillings S m n) → Filled S m (set row n b) (n + 1)
  filled_more b h e =
      record {
        size = length-set row n b ∙ f.size;
        at = λ k l. entry k (omega arith);
        others = λ k l r. get_or-set_other row n k b false (omega arith) ∙ f.others k (omega arith) r;
      }
    where
      entry : (k : ℕ) → k ≤ n → get_or (set row n b) k false ≡ nonempty (fillings S m k)
      entry k l = go (eqb k n) refl
        where
          go : (same : Bool) → eqb k n ≡ same → get_or (set row n b) k false ≡ nonempty (fillings S m k)
          go true q =
              let at : k ≡ n = eqb-true k n q in
              rw at (get_or-set_same row n b false (omega (arith, f.size)) ∙ e)
          go false q =
              let other = eqb-false k n q in
              get_or-set_other row n k b false (omega (arith, other)) ∙ f.at k (omega (arith, other))

  -- A whole row.
  pub filled_known : m < n → Known S m row
  filled_known h = record { size = f.size; at = entry }
    where
      entry : (k : ℕ) → k < 8 → get_or row k false ≡ nonempty (fillings S m k)
      entry k l = go (leb n k) refl
        where
          go : (past : Bool) → leb n k ≡ past → get_or row k false ≡ nonempty (fillings S m k)
          go true q = f.others k (leb-true n k q) l ∙ sym (nonempty-over S m k (omega (arith, leb-true n k q)))
          go false q = f.at k (omega (arith, leb-false n k q))

-- The rows of the table: all that of no cells at first, and then one more.
pub rows-first : (S : List Symbol) (row : List Bool) → Known S 0 row → AllKnown S (replicate 8 row) 1
rows-first S row r = record { size = refl; at = first }
  where
    first : (m : ℕ) → m < 1 → Known S m (get_or (replicate 8 row) m [])
    first zero h = r
    first (suc m) h = absurd (omega arith)

pub rows_more : {S : List Symbol} {rows : List (List Bool)} {m : ℕ} → AllKnown S rows (m + 1) → (row : List Bool) → Known S (m + 1) row → m < 7
    → AllKnown S (set rows (m + 1) row) (m + 1 + 1)
rows_more {S} {rows} {m} a row r h = record { size = length-set rows (m + 1) row ∙ a.size; at = entry }
  where
    entry : (k : ℕ) → k < m + 1 + 1 → Known S k (get_or (set rows (m + 1) row) k [])
    entry k l = go (eqb k (m + 1)) refl
      where
        go : (same : Bool) → eqb k (m + 1) ≡ same → Known S k (get_or (set rows (m + 1) row) k [])
        go true q =
            let at : k ≡ m + 1 = eqb-true k (m + 1) q in
            rw (at, get_or-set_same rows (m + 1) row [] (omega (arith, a.size))) r
        go false q =
            let other = eqb-false k (m + 1) q in
            rw (get_or-set_other rows (m + 1) k row [] (omega (arith, other))) (a.at k (omega (arith, other)))
