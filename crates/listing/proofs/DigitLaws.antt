-- Decimal digits by weights are the digits of the written rules, for every number below the power of ten above the weights.
use Prim.Native.Nat.{ℕ, zero, suc, ◌+◌, ◌-◌, ◌*◌, ◌/◌, ◌%◌, ◌^◌, ◌≤◌, ◌<◌}
use mathlib.Core.Path.{◌≡◌, refl, ap, ap₂, sym, ◌∙◌}
use mathlib.Core.Bool.{Bool, true, false, ◌||◌}
use mathlib.Core.List.{List, [], ◌∷◌, ◌++◌, append_assoc, append-nil}
use native.Mathlib.Omega.{arith}
use native.Mathlib.Decide.{dec_lt}
use native.Mathlib.Nat.{pow-suc, le-div_iff_mul-le, div-lt_iff_lt-mul, div-div-eq-div-mul, div-one, mul_comm}
use lib.Dec.{leb, eqb}
use lib.ListN.{length, length-append}
use borrow.Author.Tests.{lt-ltb, le-ltb, le-leb, lt-leb, ne_eqb}
use Rattle.rules.specs.WellFormed.{All}
use Rattle.rules.specs.Listing.{digits, decimal}
use Rattle.listing.specs.Digits.{shown_if, digit, digits_at, weight_at, weights_of, weights}

-- Ten times the weights, and the last place.
abbrev scale : ℕ → List ℕ → List ℕ
scale c [] = []
scale c (w ∷ ws) = (c * w) ∷ scale c ws

weights-last : (k : ℕ) → weights_of (suc k) ≡ scale 10 (weights_of k) ++ (1 ∷ [])
weights-last zero = refl
weights-last (suc k) = ap {B = List ℕ} ((10 * weight_at k) ∷◌) (weights-last k)

Positive : List ℕ → Type 0
Positive ws = All (λ w. 0 < w) ws

digits_at-append : (vs ws : List ℕ) (n : ℕ) → digits_at (vs ++ ws) n ≡ digits_at vs n ++ digits_at ws n
digits_at-append [] ws n = refl
digits_at-append (v ∷ vs) ws n = ap (digit v n ++◌) (digits_at-append vs ws n) ∙ simp append_assoc

-- What is shown and what is not.
shown : (w n : ℕ) → w ≤ n → digit w n ≡ (48 + n / w % 10) ∷ []
shown w n h = rw (le-leb w n h)

hidden : (w n : ℕ) → n < w → (w ≡ 1 → ⊥) → digit w n ≡ []
hidden w n h f = rw (lt-leb w n h, ne_eqb w 1 f)

-- Weights that are c times as great take n's digits above c, if n is at least c.
scaled-digit : (c w n : ℕ) → 2 ≤ c → c ≤ n → 0 < w → digit (c * w) n ≡ digit w (n / c)
scaled-digit c w n two h p = go (dec_lt (n / c) w)
  where
    one : 1 ≤ n / c
    one = (le-div_iff_mul-le {k = c} {x = 1} {y = n} (omega arith)).1 (omega arith)

    go : Dec (n / c < w) → digit (c * w) n ≡ digit w (n / c)
    go (yes l) =
        let far : n < w * c = (div-lt_iff_lt-mul {k = c} {x = n} {y = w} (omega arith)).0 l in
        hidden (c * w) n (omega (arith, mul_comm c w)) (λ e. omega (arith, mul_comm c w)) ∙ sym (hidden w (n / c) l (λ e. omega (arith, one)))
    go (no l) =
        let near : w * c ≤ n = (le-div_iff_mul-le {k = c} {x = w} {y = n} (omega arith)).0 (omega arith) in
        shown (c * w) n (omega (arith, mul_comm c w))
        ∙ ap (λ (d : ℕ). (48 + d % 10) ∷ []) (sym (div-div-eq-div-mul n c w))
        ∙ sym (shown w (n / c) (omega arith))

scaled : (c n : ℕ) → 2 ≤ c → c ≤ n → (ws : List ℕ) → Positive ws → digits_at (scale c ws) n ≡ digits_at ws (n / c)
unfolding Positive
scaled c n two h [] p = refl
scaled c n two h (w ∷ ws) p = ap₂ ◌++◌ (scaled-digit c w n two h p.0) (scaled c n two h ws p.1)

-- Below ten, ten times a weight shows nothing.
none-shown : (n : ℕ) → n < 10 → (ws : List ℕ) → Positive ws → digits_at (scale 10 ws) n ≡ []
unfolding Positive
none-shown n h [] p = refl
none-shown n h (w ∷ ws) p =
    let q : 0 < w = p.0 in
    ap₂ ◌++◌ (hidden (10 * w) n (omega arith) (λ e. omega arith)) (none-shown n h ws p.1)

last-digit : (n : ℕ) → digit 1 n ≡ (48 + n % 10) ∷ []
last-digit n = ap (λ (d : ℕ). shown_if (leb 1 n || eqb 1 1) (48 + d % 10)) (div-one n) ∙ go (leb 1 n)
  where
    go : (b : Bool) → shown_if (b || true) (48 + n % 10) ≡ (48 + n % 10) ∷ []
    go true = refl
    go false = refl

pub weight-positive : (k : ℕ) → 0 < weight_at k
weight-positive zero = omega arith
weight-positive (suc k) = omega (arith, weight-positive k)

weights-positive : (k : ℕ) → Positive (weights_of k)
unfolding Positive
weights-positive zero = tt
weights-positive (suc k) = (weight-positive k, weights-positive k)

-- The law. The last digit is split off on both sides.
last_apart : (k n : ℕ) → digits_at (weights_of (suc k)) n ≡ digits_at (scale 10 (weights_of k)) n ++ ((48 + n % 10) ∷ [])
last_apart k n = ap (λ ws. digits_at ws n) (weights-last k) ∙ digits_at-append (scale 10 (weights_of k)) (1 ∷ []) n ∙ ap (digits_at (scale 10 (weights_of k)) n ++◌) (ap (◌++ []) (last-digit n))

pub one-digit : (n more : ℕ) (rest : List ℕ) → n < 10 → digits (suc more) n rest ≡ (48 + n) ∷ rest
unfolding digits
one-digit n more rest h = rw (lt-ltb n 10 h, digits)

pub more-digits : (n more : ℕ) (rest : List ℕ) → 10 ≤ n → digits (suc more) n rest ≡ digits more (n / 10) ((48 + n % 10) ∷ rest)
unfolding digits
more-digits n more rest h = rw (le-ltb n 10 h, digits)

small : (k n : ℕ) → n < 10 → digits_at (weights_of (suc k)) n ≡ (48 + n) ∷ []
small k n h =
    let m : n % 10 ≡ n = omega arith in
    last_apart k n ∙ ap₂ ◌++◌ (none-shown n h (weights_of k) (weights-positive k)) (ap (λ (d : ℕ). (48 + d) ∷ []) m)

large : (k n : ℕ) (rest : List ℕ) → 10 ≤ n → digits_at (weights_of (suc k)) (n / 10) ++ ((48 + n % 10) ∷ rest) ≡ digits_at (weights_of (suc (suc k))) n ++ rest
large k n rest h =
    rw (last_apart (suc k) n, scaled 10 n (omega arith) h (weights_of (suc k)) (weights-positive (suc k)))
    (sym (append_assoc (digits_at (weights_of (suc k)) (n / 10)) ((48 + n % 10) ∷ []) rest))

digits-by-weights : (k n more : ℕ) (rest : List ℕ) → n < weight_at (suc k) → n ≤ more → digits (suc more) n rest ≡ digits_at (weights_of (suc k)) n ++ rest
digits-by-weights zero n more rest h f = one-digit n more rest h ∙ ap (◌++ rest) (sym (small zero n h))
digits-by-weights (suc k) n zero rest h f = one-digit n zero rest (omega arith) ∙ ap (◌++ rest) (sym (small (suc k) n (omega arith)))
digits-by-weights (suc k) n (suc more) rest h f = go (dec_lt n 10) (digits-by-weights k (n / 10) more ((48 + n % 10) ∷ rest))
  where
    go :
        Dec (n < 10)
        → (n / 10 < weight_at (suc k) → n / 10 ≤ more
        → digits (suc more) (n / 10) ((48 + n % 10) ∷ rest) ≡ digits_at (weights_of (suc k)) (n / 10) ++ ((48 + n % 10) ∷ rest))
        → digits (suc (suc more)) n rest ≡ digits_at (weights_of (suc (suc k))) n ++ rest
    go (yes l) r = one-digit n (suc more) rest l ∙ ap (◌++ rest) (sym (small (suc k) n l))
    go (no l) r = more-digits n (suc more) rest (omega arith) ∙ r (omega arith) (omega arith) ∙ large k n rest (omega arith)

digits_append : (fuel n : ℕ) (xs ys : List ℕ) → digits fuel n (xs ++ ys) ≡ digits fuel n xs ++ ys
unfolding digits
digits_append zero n xs ys = refl
digits_append (suc fuel) n xs ys = go (dec_lt n 10) (digits_append fuel (n / 10) ((48 + n % 10) ∷ xs) ys)
  where
    go :
        Dec (n < 10) → digits fuel (n / 10) ((48 + n % 10) ∷ (xs ++ ys)) ≡ digits fuel (n / 10) ((48 + n % 10) ∷ xs) ++ ys
        → digits (suc fuel) n (xs ++ ys) ≡ digits (suc fuel) n xs ++ ys
    go (yes l) r = one-digit n fuel (xs ++ ys) l ∙ ap (◌++ ys) (sym (one-digit n fuel xs l))
    go (no l) r = more-digits n fuel (xs ++ ys) (omega arith) ∙ r ∙ ap (◌++ ys) (sym (more-digits n fuel xs (omega arith)))

-- Decimal numbers: what follows, below 100,000, from there on, and how long they are.
pub decimal-append : (n : ℕ) (xs rest : List ℕ) → decimal n (xs ++ rest) ≡ decimal n xs ++ rest
unfolding decimal
decimal-append n xs rest = digits_append (suc n) n xs rest

decimal-by-weights : (k n : ℕ) → n < weight_at (suc k) → decimal n [] ≡ digits_at (weights_of (suc k)) n
unfolding decimal
decimal-by-weights k n h = digits-by-weights k n n [] h (omega arith) ∙ append-nil (digits_at (weights_of (suc k)) n)

pub decimal-five : (n : ℕ) → n < 100000 → decimal n [] ≡ digits_at weights n
decimal-five n h = decimal-by-weights 4 n h

pub decimal-long : (n : ℕ) → 100000 ≤ n → n < 10000000000 → decimal n [] ≡ digits_at weights (n / 100000) ++ digits_at weights n
decimal-long n l h =
    decimal-by-weights 9 n h
    ∙ digits_at-append (scale 100000 weights) weights n
    ∙ ap (◌++ digits_at weights n) (scaled 100000 n (omega arith) l weights (weights-positive 5))

shown-length : (b : Bool) (x : ℕ) → length (shown_if b x) ≤ 1
shown-length true x = omega arith
shown-length false x = omega arith

digits-length : (ws : List ℕ) (n : ℕ) → length (digits_at ws n) ≤ length ws
digits-length [] n = omega arith
digits-length (w ∷ ws) n =
    omega (arith, length-append (digit w n) (digits_at ws n), shown-length (leb w n || eqb w 1) (48 + n / w % 10), digits-length ws n)

weights-length : (k : ℕ) → length (weights_of k) ≡ k
weights-length zero = refl
weights-length (suc k) = ap suc (weights-length k)

pub decimal-length : (k n : ℕ) → n < weight_at (suc k) → length (decimal n []) ≤ suc k
decimal-length k n h = omega (arith, ap length (decimal-by-weights k n h), digits-length (weights_of (suc k)) n, weights-length (suc k))

-- The digit of the first of so many places, and those of the others.
pub digits-next : (k n : ℕ) → 0 < k → digits_at (weights_of k) n ≡ digit (weight_at (k - 1)) n ++ digits_at (weights_of (k - 1)) n
digits-next zero n h = absurd (omega arith)
digits-next (suc k) n h = let e : suc k - 1 ≡ k = omega arith in rw e

-- A weight is a power of ten.
pub power_weight : (k : ℕ) → 10 ^ k ≡ weight_at k
power_weight zero = refl
power_weight (suc k) = omega (arith, power_weight k, pow-suc 10 k)
