-- A list with the elements from a up to b reversed, of a list in parts; the elements of a mirror image, and of its front. Assumes nothing.
use Prim.Native.Nat.{ℕ, suc, ◌+◌, ◌-◌, ◌≤◌, ◌<◌}
use mathlib.Core.Path.{◌≡◌, refl, ap, sym, ◌∙◌}
use mathlib.Core.List.{List, [], ◌∷◌, ◌++◌, reverse, reverse-append, reverse-cons, append_assoc}
use native.Mathlib.Omega.{arith}
use lib.ListN.{length, get_or, take, drop, length-append, length-drop, length-reverse}
use borrow.Rule.Slice.PartMut.{put_mid}
use lib.Seq.{drop-drop, take_at, drop_at, get_or_at, split_at, get_or-take, length-take-le, take-add}

abbrev pub rev : ℕ → ℕ → List ℕ → List ℕ
rev a b s = take a s ++ (reverse (take (b - a) (drop a s)) ++ drop b s)

-- a list in three parts
pub rev-parts : (p m q : List ℕ) (a b : ℕ) → length p ≡ a → a + length m ≡ b → rev a b (p ++ (m ++ q)) ≡ p ++ (reverse m ++ q)
rev-parts p m q a b la lb =
    let k : b - a ≡ length m = omega arith in
    let l : length (p ++ m) ≡ b = length-append p m ∙ omega arith in
    let d : drop b (p ++ (m ++ q)) ≡ q = ap (drop b) (sym (append_assoc p m q)) ∙ drop_at (p ++ m) q b l in
    rw (d, take_at p (m ++ q) a la, drop_at p (m ++ q) a la, k, take_at m q (length m) refl)

-- The words from a up to b of a slice reversed, or the first b of them, as the slice then stands.
pub put_reversed : (a b : ℕ) (s m : List ℕ) → a ≤ b → m ≡ reverse (take (b - a) (drop a s)) → put_mid a (b - a) s m ≡ rev a b s
put_reversed a b s m h e = let n : a + (b - a) ≡ b = omega arith in rw (e, drop-drop (b - a) a s, n)

pub front_reversed : (b : ℕ) (s m : List ℕ) → m ≡ reverse (take b s) → m ++ drop b s ≡ rev 0 b s
front_reversed b s m e = let n : b - 0 ≡ b = omega arith in rw (e, n)

get_or-reverse : (l : List ℕ) (i k : ℕ) → i + 1 + k ≡ length l → get_or (reverse l) i 0 ≡ get_or l k 0
get_or-reverse l i k e =
    let n : length (reverse (drop (suc k) l)) ≡ i = length-reverse (drop (suc k) l) ∙ length-drop (suc k) l ∙ omega arith in
    ap (λ (r : List ℕ). get_or (reverse r) i 0) (split_at l k 0 (omega arith))
    ∙ rw (reverse-append (take k l) (get_or l k 0 ∷ drop (suc k) l), reverse-cons (get_or l k 0) (drop (suc k) l), append_assoc (reverse (drop (suc k) l)) (get_or l k 0 ∷ []) (reverse (take k l)))
    (get_or_at (reverse (drop (suc k) l)) (get_or l k 0) (reverse (take k l)) 0 i n)

pub get_or-mirrored : (s : List ℕ) (end i : ℕ) → end ≤ length s → i < end → get_or (reverse (take end s)) i 0 ≡ get_or s (end - 1 - i) 0
get_or-mirrored s end i h k =
    get_or-reverse (take end s) i (end - 1 - i) (omega (arith, length-take-le end s h)) ∙ get_or-take end s (end - 1 - i) 0 (omega arith)

-- the last n of the first `end` elements, reversed, are the first n of their mirror image
pub reverse_end : (s : List ℕ) (end n : ℕ) → n ≤ end → end ≤ length s → reverse (take (end - (end - n)) (drop (end - n) s)) ≡ take n (reverse (take end s))
reverse_end s end n h k =
    let m : end - (end - n) ≡ n = omega arith in
    let e : end ≡ end - n + n = omega arith in
    let last = take n (drop (end - n) s) in
    let l : length (reverse last) ≡ n = length-reverse last ∙ length-take-le n (drop (end - n) s) (omega (arith, length-drop (end - n) s)) in
    let p : take end s ≡ take (end - n) s ++ last = ap (λ (i : ℕ). take i s) e ∙ take-add (end - n) n s in
    rw (m, p, reverse-append (take (end - n) s) last) (sym (take_at (reverse last) (reverse (take (end - n) s)) n l))
