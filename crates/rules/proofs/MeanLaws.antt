-- Whole numbers with a sign as differences, and the mean: its whole part and remainder are the only ones (document 02, U10).
use Prim.Native.Nat.{ℕ, zero, suc, ◌+◌, ◌-◌, ◌*◌, ◌/◌, ◌%◌, ◌≤◌, ◌<◌}
use mathlib.Core.Path.{◌≡◌, refl, ap, sym, ◌∙◌, subst}
use mathlib.Core.Bool.{Bool, true, false}
use native.Mathlib.Omega.{arith}
use native.Mathlib.Nat.{add-mul, suc-mul, mod-lt, div-add-mod', mul-add-div_right, div-eq_of_lt}
use lib.Dec.{ltb}
use lib.IntN.{ℤ, pos, negsuc, neg_ℤ, sub_ℕ, ◌+ℤ◌, ◌-ℤ◌, ◌*ℤ◌}
use Rattle.std.proofs.lemmas.Int.{ints}
use borrow.Author.Tests.{ltb-true, ltb-false}
use Rattle.rules.specs.Column.{value_of, whole_part, remainder}

-- z is a - b.
abbrev Diff : ℤ → ℕ → ℕ → Type 0
Diff (pos s) a b = s + b ≡ a
Diff (negsuc m) a b = a + suc m ≡ b

diff-same : (y z : ℤ) (a b : ℕ) → Diff y a b → Diff z a b → y ≡ z
diff-same (pos s) (pos t) a b p q = ap pos (omega arith)
diff-same (pos s) (negsuc m) a b p q = absurd (omega arith)
diff-same (negsuc m) (pos s) a b p q = absurd (omega arith)
diff-same (negsuc m) (negsuc n) a b p q = ap negsuc (omega arith)

diff-move : (z : ℤ) (a b c d : ℕ) → Diff z a b → a + d ≡ c + b → Diff z c d
diff-move (pos s) a b c d p e = omega arith
diff-move (negsuc m) a b c d p e = omega arith

sub-diff : (a b : ℕ) → Diff (sub_ℕ a b) a b
sub-diff a b = go (ltb a b) refl
  where
    go : (t : Bool) → ltb a b ≡ t → Diff (sub_ℕ a b) a b
    go true e = let l = ltb-true a b e in rw e (omega arith)
    go false e = let l = ltb-false a b e in rw e (omega arith)

diff-add : (y z : ℤ) (a b c d : ℕ) → Diff y a b → Diff z c d → Diff (y +ℤ z) (a + c) (b + d)
diff-add (pos s) (pos t) a b c d p q = omega arith
diff-add (pos s) (negsuc m) a b c d p q = diff-move (sub_ℕ s (suc m)) s (suc m) (a + c) (b + d) (sub-diff s (suc m)) (omega arith)
diff-add (negsuc m) (pos s) a b c d p q = diff-move (sub_ℕ s (suc m)) s (suc m) (a + c) (b + d) (sub-diff s (suc m)) (omega arith)
diff-add (negsuc m) (negsuc n) a b c d p q = omega arith

negated-diff : (n : ℕ) → Diff (neg_ℤ (pos n)) 0 n
negated-diff zero = omega arith
negated-diff (suc n) = omega arith

diff-times : (z : ℤ) (a b n : ℕ) → Diff z a b → Diff (z *ℤ pos n) (a * n) (b * n)
diff-times (pos s) a b n p = sym (add-mul s b n) ∙ ap (◌* n) p
diff-times (negsuc m) a b n p =
    diff-move (neg_ℤ (pos (suc m * n))) 0 (suc m * n) (a * n) (b * n) (negated-diff (suc m * n)) (omega (arith, add-mul a (suc m) n, ap (◌* n) p))

-- A negative sum: -(q + 1) times n, and r.
under : (q n r : ℕ) → r < n → negsuc q *ℤ pos n +ℤ pos r ≡ negsuc (q * n + (n - suc r))
under q n r h =
    diff-same (negsuc q *ℤ pos n +ℤ pos r) (negsuc (q * n + (n - suc r))) (0 * n + r) (suc q * n + 0)
    (diff-add (negsuc q *ℤ pos n) (pos r) (0 * n) (suc q * n) r 0 (diff-times (negsuc q) 0 (suc q) n (omega arith)) (omega arith))
    (omega (arith, suc-mul q n))

divided : (q n r : ℕ) → r < n → ((q * n + r) / n ≡ q) × ((q * n + r) % n ≡ r)
divided q n r h =
    let d : (q * n + r) / n ≡ q = mul-add-div_right (omega arith) q r ∙ omega (arith, div-eq_of_lt h) in
    let m = div-add-mod' (q * n + r) n in
    (d, omega (arith, m, ap (◌* n) d))

-- THE MEAN: sum = whole × count + remainder, with the remainder below the count;
pub mean-is : (z : ℤ) (n : ℕ) → 1 ≤ n → (z ≡ whole_part z n *ℤ pos n +ℤ pos (remainder z n)) × (remainder z n < n)
unfolding whole_part remainder
mean-is (pos s) n h = (ap pos (sym (div-add-mod' s n)), mod-lt s h)
mean-is (negsuc m) n h =
    let l : m % n < n = mod-lt m h in
    let back : n - suc (n - suc (m % n)) ≡ m % n = omega arith in
    (ap negsuc (sym (ap (m / n * n +◌) back ∙ div-add-mod' m n)) ∙ sym (under (m / n) n (n - suc (m % n)) (omega arith)), omega arith)

-- and there is no other.
pub mean-only : (z : ℤ) (n : ℕ) (w : ℤ) (r : ℕ) → z ≡ w *ℤ pos n +ℤ pos r → r < n → (w ≡ whole_part z n) × (r ≡ remainder z n)
unfolding whole_part remainder
mean-only z n w r e h = subst (λ x. (w ≡ whole_part x n) × (r ≡ remainder x n)) (sym e) (go w)
  where
    go : (w : ℤ) → (w ≡ whole_part (w *ℤ pos n +ℤ pos r) n) × (r ≡ remainder (w *ℤ pos n +ℤ pos r) n)
    go (pos q) = let d = divided q n r h in (ap pos (sym d.0), sym d.1)
    go (negsuc q) =
        let d = divided q n (n - suc r) (omega arith) in
        subst (λ x. (negsuc q ≡ whole_part x n) × (r ≡ remainder x n)) (sym (under q n r h)) (ap negsuc (sym d.0), omega (arith, d.1))

-- Two values are equal just if their words are.
pub same-value : (v w : ℕ) → v < 65536 → w < 65536 → value_of v ≡ value_of w → v ≡ w
unfolding value_of
same-value v w h k e = go (ltb v 32768) (ltb w 32768) refl refl
  where
    go : (a b : Bool) → ltb v 32768 ≡ a → ltb w 32768 ≡ b → v ≡ w
    go true true p q = let z : ◌≡◌ {A = ℤ} (pos v) (pos w) = rw (p, q, value_of) at e in omega (arith, ints)
    go true false p q = let z : ◌≡◌ {A = ℤ} (pos v) (pos w -ℤ pos 65536) = rw (p, q, value_of) at e in omega (arith, ints)
    go false true p q = let z : ◌≡◌ {A = ℤ} (pos v -ℤ pos 65536) (pos w) = rw (p, q, value_of) at e in omega (arith, ints)
    go false false p q = let z : ◌≡◌ {A = ℤ} (pos v -ℤ pos 65536) (pos w -ℤ pos 65536) = rw (p, q, value_of) at e in omega (arith, ints)
