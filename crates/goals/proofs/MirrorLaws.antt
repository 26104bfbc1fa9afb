-- Words written as a mirror image: one more word in front, the first word changed, words taken out. Assumes nothing.
use Prim.Native.Nat.{ℕ, suc, ◌+◌, ◌-◌, ◌≤◌, ◌<◌}
use mathlib.Core.Path.{◌≡◌, ap, sym, ◌∙◌}
use mathlib.Core.List.{List, [], ◌∷◌, ◌++◌, reverse, reverse-cons, append_assoc}
use native.Mathlib.Omega.{arith}
use native.Mathlib.Numerals.{add-one}
use lib.ListN.{length, get_or, take, drop, set, length-append, length-drop, length-reverse, take-append-drop}
use lib.Seq.{sets, sets-eq, length-take-le, take-set-lt, get_or_at, set_at, drop-cons, drop-drop}
use Rattle.words.proofs.StoreLaws.{sets-append, down, mirror-length, removed}

first_more : (l xs : List ℕ) (at k x : ℕ) → at + length xs ≡ k → set (sets l at (reverse xs)) k x ≡ sets l at (reverse (x ∷ xs))
first_more l xs at k x e =
    let n : k ≡ at + length (reverse xs) = omega (arith, length-reverse xs) in
    rw (reverse-cons x xs, n) (sets-append (reverse xs) (x ∷ []) l at)

-- The words xs up to two places before held, and then two more in front.
pub two-more :
    (l xs : List ℕ) (base held n a w : ℕ) → base + n + 2 ≡ held → length xs ≡ n
    → set (set (sets l (held - 2 - n) (reverse xs)) (held - 2) a) (held - 1) w ≡ sets l base (reverse (w ∷ a ∷ xs))
two-more l xs base held n a w e k =
    let b : held - 2 - n ≡ base = omega arith in
    let m : base + length xs ≡ held - 2 = omega arith in
    let q : base + length (a ∷ xs) ≡ held - 1 = omega arith in
    rw (b, first_more l xs base (held - 2) a m, first_more l (a ∷ xs) base (held - 1) w q)

-- The words y, xs with two more in front, mirrored: y stands three places before the end.
third-last :
    (l xs : List ℕ) (base k w a y : ℕ) → base + length xs ≡ k → k + 3 ≤ length l
    → sets l base (reverse (w ∷ a ∷ y ∷ xs)) ≡ (take base l ++ reverse xs) ++ (y ∷ a ∷ w ∷ drop (k + 3) l)
third-last l xs base k w a y e h =
    let ws = reverse (w ∷ a ∷ y ∷ xs) in
    let n : base + length ws ≡ k + 3 = omega (arith, length-reverse (w ∷ a ∷ y ∷ xs)) in
    sets-eq ws l base (omega arith)
    ∙ rw n (simp (reverse-cons, append_assoc))

-- The first of the words is read there, and changed there.
pub first-of-mirrored :
    (l words : List ℕ) (base end w a x : ℕ) (t : List ℕ) → base + length words + 2 ≡ end → end ≤ length l → 0 < length words
    → t ≡ sets l (end - 2 - length words) (reverse (w ∷ a ∷ words))
    → (get_or t (end - 3) 0 ≡ get_or words 0 0) × (set t (end - 3) x ≡ sets l base (reverse (w ∷ a ∷ x ∷ drop 1 words)))
first-of-mirrored l [] base end w a x t e h z q = absurd (omega arith)
first-of-mirrored l (y ∷ xs) base end w a x t e h z q =
    let front = take base l ++ reverse xs in
    let s : end - 2 - length (y ∷ xs) ≡ base = omega arith in
    let b : base + length xs ≡ end - 3 = omega arith in
    let m : end - 3 + 3 ≤ length l = omega arith in
    let n : length front ≡ end - 3 = length-append (take base l) (reverse xs) ∙ omega (arith, length-reverse xs, length-take-le base l (omega arith)) in
    let is : t ≡ front ++ (y ∷ a ∷ w ∷ drop (end - 3 + 3) l) = q ∙ rw s (third-last l xs base (end - 3) w a y b m) in (
      ap (λ (r : List ℕ). get_or r (end - 3) 0) is ∙ get_or_at front y _ 0 (end - 3) n,
      ap (λ (r : List ℕ). set r (end - 3) x) is ∙ set_at front y _ x (end - 3) n ∙ sym (third-last l xs base (end - 3) w a x b m),
    )

-- A literal's words, those of cells from s up to e: their number, the first of them, and the others.
pub literal-words :
    (cells : List ℕ) (s e : ℕ) → s < e → e ≤ length cells
    → (length (take (e - s) (drop s cells)) ≡ e - s) × (get_or (take (e - s) (drop s cells)) 0 0 ≡ get_or cells s 0) × (drop 1 (take (e - s) (drop s cells)) ≡ take (e - s - 1) (drop (s + 1) cells))
literal-words cells s e h k =
    let q : e - s ≡ suc (e - s - 1) = omega arith in
    let first : take (e - s) (drop s cells) ≡ get_or cells s 0 ∷ take (e - s - 1) (drop (s + 1) cells) =
    ap (λ (k : ℕ). take k (drop s cells)) q ∙ rw (add-one, drop-cons cells s 0 (omega arith)) in
    (length-take-le (e - s) (drop s cells) (omega (arith, length-drop s cells)), ap (λ (r : List ℕ). get_or r 0 0) first, ap (drop 1) first)

-- Of the mirrored words y, xs, gs, zs the words gs are taken out, and the first word is changed.
out_of :
    (store xs gs zs : List ℕ) (y x held a d : ℕ) → held ≤ length store → suc (length xs) ≡ a → length gs ≡ d → take held store ≡ reverse (y ∷ (xs ++ (gs ++ zs)))
    → take (held - d) (set (down (held - a) held d store) (held - d - 1) x) ≡ reverse (x ∷ (xs ++ zs))
out_of store xs gs zs y x held a d l la ld q =
    let n : suc (length xs + (length gs + length zs)) ≡ held =
    omega (arith, mirror-length store (y ∷ (xs ++ (gs ++ zs))) held l q, length-append xs (gs ++ zs), length-append gs zs) in
    let moved : take (held - d) (down (held - a) held d store) ≡ reverse (y ∷ (xs ++ zs)) = (removed store (y ∷ xs) gs zs held a d l la ld q).0 in
    let r : length (reverse (xs ++ zs)) ≡ held - d - 1 = length-reverse (xs ++ zs) ∙ length-append xs zs ∙ omega arith in
    rw (take-set-lt (held - d) (down (held - a) held d store) (held - d - 1) x (omega arith), moved, reverse-cons y (xs ++ zs), reverse-cons x (xs ++ zs))
    (set_at (reverse (xs ++ zs)) y [] x (held - d - 1) r)

-- A list in three parts.
cut : (ys : List ℕ) (a d : ℕ) → ys ≡ take a ys ++ (take d (drop a ys) ++ drop (a + d) ys)
cut ys a d = rw (← drop-drop d a ys, take-append-drop d (drop a ys)) (sym (take-append-drop a ys))

pub taken_out :
    (store ys : List ℕ) (held s e x : ℕ) → s ≤ e → e + 2 ≤ held → held ≤ length store → take held store ≡ reverse ys
    → take (held - (e - s)) (set (down (held - 2 - s) held (e - s) store) (held - (e - s) - 1) x) ≡ reverse (x ∷ (take (s + 1) (drop 1 ys) ++ drop (e + 2) ys))
taken_out store [] held s e x h k l q = absurd (omega (arith, mirror-length store [] held l q))
taken_out store (y ∷ ys) held s e x h k l q =
    let n : suc (length ys) ≡ held = mirror-length store (y ∷ ys) held l q in
    let low : suc (length (take (s + 1) ys)) ≡ s + 2 = omega (arith, length-take-le (s + 1) ys (omega arith)) in
    let mid : length (take (e - s) (drop (s + 1) ys)) ≡ e - s = length-take-le (e - s) (drop (s + 1) ys) (omega (arith, length-drop (s + 1) ys)) in
    let m : held - 2 - s ≡ held - (s + 2) = omega arith in
    let f : e + 2 ≡ suc (s + 1 + (e - s)) = omega arith in
    rw (m, f)
    (out_of store (take (s + 1) ys) (take (e - s) (drop (s + 1) ys)) (drop (s + 1 + (e - s)) ys) y x held (s + 2) (e - s) l low mid
    (q ∙ ap (λ (r : List ℕ). reverse (y ∷ r)) (cut ys (s + 1) (e - s))))
