-- What copies and reversals leave in a store that holds, at the end of its first `held` words, the mirror image of a list of words. Assumes
-- nothing. `rev a b s` is what a reversal of the words from a up to b leaves, `down a b d s` what `copy_within` leaves there.
use Prim.Native.Nat.{ℕ, ◌+◌, ◌-◌, ◌≤◌, ◌<◌}
use mathlib.Core.Path.{◌≡◌, refl, ap, ap₂, sym, ◌∙◌}
use mathlib.Core.List.{List, [], ◌++◌, reverse, reverse-append, reverse-reverse, append_assoc}
use native.Mathlib.Omega.{arith}
use lib.ListN.{length, get_or, take, drop, length-append, length-take, length-drop, length-reverse, take-append-drop}
use lib.Seq.{sets, take_at, drop_at, take-append-le, length-take-le, take-add}
use borrow.Rule.Slice.PartMut.{put_mid}
use Rattle.words.proofs.Sets.{put_sets}
use Rattle.words.proofs.Reverse.{rev-parts, reverse_end, get_or-mirrored}
pub use lib.Seq.{length-sets}
pub use Rattle.words.proofs.Sets.{sets-append, take-sets-before, take-sets, drop-sets, down}
pub use Rattle.words.proofs.Reverse.{rev}

-- t begins with `front`, n words, and goes on as s does
abbrev pub Fronted : List ℕ → ℕ → List ℕ → List ℕ → Type 0
Fronted s n front t = (take n t ≡ front) × (drop n t ≡ drop n s)

fronted : (s front t : List ℕ) (n : ℕ) → length front ≡ n → t ≡ front ++ drop n s → Fronted s n front t
fronted s front t n l e = (ap (take n) e ∙ take_at front (drop n s) n l, ap (drop n) e ∙ drop_at front (drop n s) n l)

whole : (s : List ℕ) (n : ℕ) (front : List ℕ) → take n s ≡ front → s ≡ front ++ drop n s
whole s n front h = sym (take-append-drop n s) ∙ ap (λ (f : List ℕ). f ++ drop n s) h

pub mirror-length : (s ys : List ℕ) (held : ℕ) → held ≤ length s → take held s ≡ reverse ys → length ys ≡ held
mirror-length s ys held k h = sym (length-reverse ys) ∙ ap length (sym h) ∙ length-take-le held s k

pub length-rev : (s : List ℕ) (a b : ℕ) → a ≤ b → length (rev a b s) ≡ length s
length-rev s a b h = simp (length-append, length-reverse, length-take, length-drop) (omega arith)

-- the words from a to b reversed
pub rev-fronted : (s p m : List ℕ) (a b : ℕ) → length p ≡ a → a + length m ≡ b → take b s ≡ p ++ m → Fronted s b (p ++ reverse m) (rev a b s)
rev-fronted s p m a b la lb h =
    let e : s ≡ p ++ (m ++ drop b s) = whole s b (p ++ m) h ∙ append_assoc p m (drop b s) in
    let r = ap (rev a b) e ∙ rev-parts p m (drop b s) a b la lb ∙ sym (append_assoc p (reverse m) (drop b s)) in
    let l : length (p ++ reverse m) ≡ b = length-append p (reverse m) ∙ omega (arith, length-reverse m) in
    fronted s (p ++ reverse m) (rev a b s) b l r

-- two ranges reversed one after the other, both up to b
rev-rev : (s p m p' m' r : List ℕ) (a a' b : ℕ) → length p ≡ a → a + length m ≡ b → length p' ≡ a' → a' + length m' ≡ b → take b s ≡ p ++ m
    → p ++ reverse m ≡ p' ++ m' → p' ++ reverse m' ≡ r → Fronted s b r (rev a' b (rev a b s))
rev-rev s p m p' m' r a a' b la lb la' lb' h e f =
    let one = rev-fronted s p m a b la lb h in
    let two = rev-fronted (rev a b s) p' m' a' b la' lb' (one.0 ∙ e) in
    (two.0 ∙ f, two.1 ∙ one.1)

-- parking: the words xs, on top of the words ys, are put above the parked ones in order
pub parked-on : (s ps xs ys : List ℕ) (parked held x : ℕ) → length ps ≡ parked → length (xs ++ ys) ≡ held → length xs ≡ x
    → take (parked + held) s ≡ ps ++ reverse (xs ++ ys)
    → Fronted s (parked + held) (ps ++ (xs ++ reverse ys)) (rev (parked + x) (parked + held) (rev parked (parked + held) s))
parked-on s ps xs ys parked held x lp lh lx h =
    let n = length-append xs ys in
    let l : parked + length (reverse (xs ++ ys)) ≡ parked + held = omega (arith, length-reverse (xs ++ ys)) in
    let l' : length (ps ++ xs) ≡ parked + x = length-append ps xs ∙ omega arith in
    let e : ps ++ reverse (reverse (xs ++ ys)) ≡ ps ++ xs ++ ys = rw reverse-reverse (sym (append_assoc ps xs ys)) in
    rev-rev s ps (reverse (xs ++ ys)) (ps ++ xs) ys _ parked (parked + x) (parked + held) lp l l' (omega arith) h e (append_assoc ps xs (reverse ys))

-- the end: what is held comes first, in order, then the parked words
pub turned : (s ps ys : List ℕ) (parked held : ℕ) → length ps ≡ parked → length ys ≡ held → take (parked + held) s ≡ ps ++ reverse ys
    → Fronted s (parked + held) (ys ++ ps) (rev held (parked + held) (rev 0 (parked + held) s))
turned s ps ys parked held lp lh h =
    let n : 0 + length (ps ++ reverse ys) ≡ parked + held = omega (arith, length-append ps (reverse ys), length-reverse ys) in
    let e : reverse (ps ++ reverse ys) ≡ ys ++ reverse ps = rw (reverse-append ps (reverse ys), reverse-reverse) in
    let f : ys ++ reverse (reverse ps) ≡ ys ++ ps = rw reverse-reverse in
    rev-rev s [] (ps ++ reverse ys) ys (reverse ps) _ 0 held (parked + held) refl n lh (omega (arith, length-reverse ps)) h e f

-- children: the words cs, in order above what is held, are put on top of it
pub children-on : (s cs rest : List ℕ) (base end : ℕ) → length rest ≡ base → base + length cs ≡ end → take end s ≡ reverse rest ++ cs
    → Fronted s end (reverse (cs ++ rest)) (rev base end s)
children-on s cs rest base end lr lc h = rw (reverse-append cs rest) (rev-fronted s (reverse rest) cs base end (length-reverse rest ∙ lr) lc h)

-- the same, where what is held and the children are known apart
pub children-above : (s cs rest : List ℕ) (base end : ℕ) → base ≤ end → end ≤ length s → take base s ≡ reverse rest → take (end - base) (drop base s) ≡ cs
    → Fronted s end (reverse (cs ++ rest)) (rev base end s)
children-above s cs rest base end h k r c =
    let n : base + (end - base) ≡ end = omega arith in
    let lr = mirror-length s rest base (omega arith) r in
    let lc : base + length cs ≡ end = omega (arith, ap length c, length-take-le (end - base) (drop base s) (omega (arith, length-drop base s))) in
    children-on s cs rest base end lr lc (ap (λ (m : ℕ). take m s) (sym n) ∙ take-add base (end - base) s ∙ ap₂ (λ (p q : List ℕ). p ++ q) r c)

-- the words m move down over the d words g
down-fronted : (s p g m : List ℕ) (a b d : ℕ) → length g ≡ d → length p + d ≡ a → a + length m ≡ b → b ≤ length s → take b s ≡ p ++ (g ++ m)
    → (take (b - d) (down a b d s) ≡ p ++ m) × (drop b (down a b d s) ≡ drop b s)
down-fronted s p g m a b d lg la lb k h =
    let q = drop b s in
    let e = whole s b (p ++ (g ++ m)) h in
    let low : take (a - d) s ≡ p = ap (take (a - d)) (e ∙ append_assoc p (g ++ m) q) ∙ take_at p (g ++ m ++ q) (a - d) (omega arith) in
    let f : s ≡ p ++ g ++ (m ++ q) = e ∙ simp append_assoc in
    let up : drop a s ≡ m ++ q = ap (drop a) f ∙ drop_at (p ++ g) (m ++ q) a (length-append p g ∙ omega arith) in
    let mid : take (b - a) (drop a s) ≡ m = ap (take (b - a)) up ∙ take_at m q (b - a) (omega arith) in
    let moved : down a b d s ≡ sets s (a - d) m = ap (sets s (a - d)) mid in
    let first = take-sets m s (b - d) (a - d) (omega arith) (omega arith) ∙ ap (λ (r : List ℕ). r ++ m) low in
    (ap (take (b - d)) moved ∙ first, ap (drop b) moved ∙ drop-sets m s b (a - d) (omega arith))

-- removal: the words xs on top move down over the d words ys, which go
pub removed : (s xs ys zs : List ℕ) (held x d : ℕ) → held ≤ length s → length xs ≡ x → length ys ≡ d → take held s ≡ reverse (xs ++ (ys ++ zs))
    → (take (held - d) (down (held - x) held d s) ≡ reverse (xs ++ zs)) × (drop held (down (held - x) held d s) ≡ drop held s)
removed s xs ys zs held x d k lx ld h =
    let e : reverse (xs ++ (ys ++ zs)) ≡ reverse zs ++ (reverse ys ++ reverse xs) = simp (reverse-append, append_assoc) in
    let n : x + (d + length zs) ≡ held = omega (arith, mirror-length s (xs ++ (ys ++ zs)) held k h, length-append xs (ys ++ zs), length-append ys zs) in
    let lz : length (reverse zs) + d ≡ held - x = omega (arith, length-reverse zs) in
    let lh : held - x + length (reverse xs) ≡ held = omega (arith, length-reverse xs) in
    rw (reverse-append xs zs) (down-fronted s (reverse zs) (reverse ys) (reverse xs) (held - x) held d (length-reverse ys ∙ ld) lz lh k (h ∙ e))

-- the words xs are put on top of what is held, backwards
pub pushed : (s xs rest : List ℕ) (held end : ℕ) → held + length xs ≡ end → end ≤ length s → take held s ≡ reverse rest
    → Fronted s end (reverse (xs ++ rest)) (sets s held (reverse xs))
pushed s xs rest held end l k h =
    let n : held + length (reverse xs) ≡ end = omega (arith, length-reverse xs) in
    let e : take held s ++ reverse xs ≡ reverse (xs ++ rest) = rw (h, reverse-append xs rest) in
    (take-sets (reverse xs) s end held n k ∙ e, drop-sets (reverse xs) s end held (omega arith))

-- copying: `image` is the mirror image of the n words before place `end` of `from`, written from place `at` on
pub image-copied : (to from image : List ℕ) (at end n : ℕ) → n ≤ end → end ≤ length from → at + n ≤ length to
    → image ≡ reverse (take (end - (end - n)) (drop (end - n) from)) → put_mid at (at + n - at) to image ≡ sets to at (take n (reverse (take end from)))
image-copied to from image at end n h k l e =
    let i = e ∙ reverse_end from end n h k in
    let m : length image ≡ n =
    ap length i ∙ length-take-le n (reverse (take end from)) (omega (arith, length-reverse (take end from), length-take-le end from k)) in
    let q : at + n - at ≡ n = omega arith in
    rw q (put_sets to image at n l m ∙ ap (sets to at) i)

-- reading
pub read_first : (s xs rest : List ℕ) (held n : ℕ) → take held s ≡ reverse (xs ++ rest) → n ≤ length xs → take n (reverse (take held s)) ≡ take n xs
read_first s xs rest held n h k = rw (h, reverse-reverse, take-append-le n xs rest k)

pub read_word : (s ys : List ℕ) (held i : ℕ) → held ≤ length s → take held s ≡ reverse ys → i < held → get_or s (held - 1 - i) 0 ≡ get_or ys i 0
read_word s ys held i k h l = sym (get_or-mirrored s held i k l) ∙ ap (λ (r : List ℕ). get_or r i 0) (ap reverse h ∙ reverse-reverse ys)
