-- A run of stores, `sets l at xs`: one run after another, what it leaves alone, and what a write of a part of a slice leaves. Assumes nothing.
use Prim.Native.Nat.{ℕ, suc, ◌+◌, ◌-◌, ◌≤◌, ◌<◌}
use mathlib.Core.Path.{◌≡◌, refl, ap, sym, ◌∙◌}
use mathlib.Core.List.{List, [], ◌∷◌, ◌++◌, append_assoc}
use native.Mathlib.Omega.{arith}
use native.Mathlib.Nat.{add-zero, add-suc, suc-add}
use native.Mathlib.Numerals.{add-one}
use lib.ListN.{length, get_or, take, drop, set, length-append, length-drop}
use lib.Seq.{sets, sets-eq, length-take-le, take-suc, take_at, take-set-le, drop-set-lt, drop-drop, get_or-drop}
use borrow.Rule.Slice.PartMut.{put_mid}
use Rattle.std.proofs.lemmas.List.{append-nil, drop_all}
use Rattle.std.specs.List.{copy_within}

pub sets-append : (xs ys l : List ℕ) (at : ℕ) → sets (sets l at xs) (at + length xs) ys ≡ sets l at (xs ++ ys)
sets-append [] ys l at = rw add-zero
sets-append (x ∷ xs) ys l at = rw (add-suc, ← suc-add) (sets-append xs ys (set l at x) (suc at))

-- one more word at the end
pub sets_more : (l xs : List ℕ) (at i : ℕ) → i < length xs → set (sets l at (take i xs)) (at + i) (get_or xs i 0) ≡ sets l at (take (i + 1) xs)
sets_more l xs at i h =
    let e : length (take i xs) ≡ i = length-take-le i xs (omega arith) in
    rw (add-one, take-suc xs i 0, ← sets-append, e)

-- a write of the n words from place `at` on
pub put_sets : (l xs : List ℕ) (at n : ℕ) → at + n ≤ length l → length xs ≡ n → put_mid at n l xs ≡ sets l at xs
put_sets l xs at n h e =
    ap (λ (r : List ℕ). take at l ++ (xs ++ r)) (drop-drop n at l ∙ ap (λ (i : ℕ). drop (at + i) l) (sym e))
    ∙ sym (append_assoc (take at l) xs (drop (at + length xs) l))
    ∙ sym (sets-eq xs l at (omega arith))

pub take-sets-before : (xs l : List ℕ) (k at : ℕ) → k ≤ at → take k (sets l at xs) ≡ take k l
take-sets-before [] l k at h = refl
take-sets-before (x ∷ xs) l k at h = take-sets-before xs (set l at x) k (suc at) (omega arith) ∙ take-set-le k l at x h

pub take-sets : (xs l : List ℕ) (k at : ℕ) → at + length xs ≡ k → k ≤ length l → take k (sets l at xs) ≡ take at l ++ xs
take-sets xs l k at e h =
    let n : length (take at l ++ xs) ≡ k = length-append (take at l) xs ∙ omega (arith, length-take-le at l (omega arith)) in
    rw (sets-eq xs l at (omega arith), take_at (take at l ++ xs) (drop (at + length xs) l) k n)

pub drop-sets : (xs l : List ℕ) (k at : ℕ) → at + length xs ≤ k → drop k (sets l at xs) ≡ drop k l
drop-sets [] l k at h = refl
drop-sets (x ∷ xs) l k at h = drop-sets xs (set l at x) k (suc at) (omega arith) ∙ drop-set-lt k l at x (omega arith)

get_d-sets-past : (xs l : List ℕ) (k at : ℕ) → at + length xs ≤ k → get_or (sets l at xs) k 0 ≡ get_or l k 0
get_d-sets-past xs l k at h =
    let first : (r : List ℕ) → get_or (drop k r) 0 0 ≡ get_or r k 0 = λ r. get_or-drop k r 0 0 ∙ ap (λ (n : ℕ). get_or r n 0) (add-zero k) in
    sym (first (sets l at xs)) ∙ ap (λ (r : List ℕ). get_or r 0 0) (drop-sets xs l k at h) ∙ first l

-- the elements from a up to b, d places lower
abbrev pub down : ℕ → ℕ → ℕ → List ℕ → List ℕ
down a b d l = sets l (a - d) (take (b - a) (drop a l))

pub paste_down : (l : List ℕ) (a b d : ℕ) → d ≤ a → a ≤ b → b ≤ length l → copy_within l a b (a - d) ≡ down a b d l
paste_down l a b d h k m =
    let n : length (take (b - a) (drop a l)) ≡ b - a = length-take-le (b - a) (drop a l) (omega (arith, length-drop a l)) in
    sym (sets-eq (take (b - a) (drop a l)) l (a - d) (omega arith) ∙ rw n)

-- one more of them
pub down-more : (l : List ℕ) (a d j : ℕ) → d ≤ a → a ≤ j → j < length l → set (down a j d l) (j - d) (get_or (down a j d l) j 0) ≡ down a (j + 1) d l
down-more l a d j h k m =
    let n = length-drop a l in
    let p : a - d + length (take (j - a) (drop a l)) ≤ j = omega (arith, length-take-le (j - a) (drop a l) (omega arith)) in
    let i : a + (j - a) ≡ j = omega arith in
    let y : get_or (drop a l) (j - a) 0 ≡ get_or l j 0 = get_or-drop a l (j - a) 0 ∙ ap (λ (n : ℕ). get_or l n 0) i in
    let x : get_or (down a j d l) j 0 ≡ get_or (drop a l) (j - a) 0 = get_d-sets-past (take (j - a) (drop a l)) l j (a - d) p ∙ sym y in
    let e : j - d ≡ a - d + (j - a) = omega arith in
    let f : j + 1 - a ≡ j - a + 1 = omega arith in
    rw (x, e, f) (sets_more l (drop a l) (a - d) (j - a) (omega arith))

-- a whole list
pub sets-whole : (xs l : List ℕ) → length l ≡ length xs → sets l 0 xs ≡ xs
sets-whole xs l e = sets-eq xs l 0 (omega (arith, e)) ∙ ap (λ (r : List ℕ). xs ++ r) (drop_all (0 + length xs) l (omega (arith, e))) ∙ append-nil xs
