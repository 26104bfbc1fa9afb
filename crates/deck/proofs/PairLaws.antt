-- The words of symbols in format 2: the check of second words and values, two words at a time; the table of kinds, place by place.
use Prim.Native.Nat.{ℕ, zero, suc, ◌+◌, ◌*◌, ◌/◌, ◌%◌, ◌^◌, ◌≤◌, ◌<◌}
use mathlib.Core.Path.{◌≡◌, refl, ap, ap₂, sym, ◌∙◌}
use mathlib.Core.Bool.{Bool, true, false, ◌&&◌, ◌||◌, not}
use mathlib.Core.Option.{Option, none, some, none-ne-some, some-injective}
use mathlib.Core.List.{List, [], ◌∷◌}
use native.Mathlib.Omega.{arith}
use native.Mathlib.Nat.{div-add-mod'}
use native.Mathlib.Decide.{ℕ_discrete}
use lib.Dec.{eqb}
use lib.ListN.{length, get_or, get_elem?, set, drop, replicate}
use lib.Seq.{get_or-set_same, get_or-set_other}
use Rattle.std.specs.Int.{bit_at}
use Rattle.std.specs.Int.Bits.{bit_or}
use Rattle.std.proofs.lemmas.Nat.Bits.{bit_at-zero}
use borrow.Author.Tests.{eq-eqb, ne_eqb, eqb-true, eqb-false}
use Rattle.rules.specs.Syntax.{format2}
use Rattle.rules.specs.Goals.{member}
use Rattle.rules.specs.Decks.{kind_word, kind_words, read_next, read_value, read_values, numbers, distinct, keep_distinct}
use Rattle.rules.specs.Column.{flatten, number_word}
use Rattle.rules.proofs.SymbolLaws.{read_next_lem}
use Rattle.deck.specs.Answers.{found}
use Rattle.deck.specs.Pairs.{pair_fits, values_fit, marked, Turned}
use Rattle.deck.proofs.BitLaws.{set-here, set-other}

-- THE CHECK, word by word as the rules have it.
rest_fits : List ℕ → Option (List (Option ℕ)) → Bool
rest_fits before none = false
rest_fits before (some vs) = distinct before (numbers vs)

found-kept : (o : Option (List (Option ℕ))) → found (keep_distinct o) ≡ rest_fits [] o
unfolding found keep_distinct rest_fits
found-kept none = refl
found-kept (some vs) = go (distinct [] (numbers vs)) refl
  where
    go : (b : Bool) → distinct [] (numbers vs) ≡ b → found (keep_distinct (some vs)) ≡ distinct [] (numbers vs)
    go true e = rw (e, keep_distinct) refl
    go false e = rw (e, keep_distinct) refl

no_value : (before : List ℕ) (os : Option (List (Option ℕ))) → rest_fits before (read_next (some none) os) ≡ rest_fits before os
unfolding read_next rest_fits numbers
no_value before none = refl
no_value before (some vs) = refl

a_value : (before : List ℕ) (v : ℕ) (os : Option (List (Option ℕ))) → rest_fits before (read_next (some (some v)) os) ≡ not (member v before) && rest_fits (v ∷ before) os
unfolding read_next rest_fits numbers distinct
a_value before v none = and-false (not (member v before))
  where
    and-false : (b : Bool) → false ≡ (b && false)
    and-false true = refl
    and-false false = refl
a_value before v (some vs) = refl

fit-rest : (ws before : List ℕ) → rest_fits before (read_values ws) ≡ values_fit (λ x. member x before) ws
unfolding read_values read_value read_next rest_fits values_fit pair_fits member numbers distinct
fit-rest [] before = refl
fit-rest (w ∷ []) before = refl
fit-rest (w ∷ v ∷ ws) before = go (eqb w 512) (eqb v 0) (member v before) (λ b. fit-rest ws b) refl refl refl
  where
    More : Type 0
    More = (b : List ℕ) → rest_fits b (read_values ws) ≡ values_fit (λ x. member x b) ws

    go : (a b c : Bool) → More → eqb w 512 ≡ a → eqb v 0 ≡ b → member v before ≡ c → rest_fits before (read_values (w ∷ v ∷ ws)) ≡ values_fit (λ x. member x before) (w ∷ v ∷ ws)
    go true b true more p q r = rw (p, read_value, pair_fits, a_value before v (read_values ws), r) refl
    go true b false more p q r = rw (p, read_value, pair_fits, a_value before v (read_values ws), r) (more (v ∷ before))
    go false true c more p q r = rw (p, q, read_value, pair_fits, no_value before (read_values ws)) (more before)
    go false false c more p q r = rw (p, q, read_value, pair_fits) refl

-- No bits, and one more bit.
unmarked : (n : ℕ) → marked (replicate n 0) ≡ (λ x. false)
unmarked n = λ i x. clear x i
  where
    none-set : (n w : ℕ) → get_or {A = ℕ} (replicate n 0) w 0 ≡ 0
    none-set zero w = refl
    none-set (suc n) zero = refl
    none-set (suc n) (suc w) = none-set n w

    clear : (x : ℕ) → marked (replicate n 0) x ≡ false
    clear x = ap (λ k. eqb k 1) (ap (λ (w : ℕ). bit_at w (x % 64)) (none-set n (x / 64)) ∙ bit_at-zero (x % 64))

module _ (words : List ℕ) (v : ℕ) where
  abbrev word : ℕ
  word = get_or words (v / 64) 0

  abbrev pub and-bit : List ℕ
  and-bit = set words (v / 64) (bit_or word (2 ^ (v % 64)))

  bit-here : v / 64 < length words → bit_at word (v % 64) ≡ 0 → bit_at (get_or and-bit (v / 64) 0) (v % 64) ≡ 1
  bit-here h z = ap (λ w. bit_at w (v % 64)) (get_or-set_same words (v / 64) (bit_or word (2 ^ (v % 64))) 0 h) ∙ set-here word (v % 64) z

  bit-there : (x : ℕ) → v / 64 < length words → (x ≡ v → ⊥) → bit_at (get_or and-bit (x / 64) 0) (x % 64) ≡ bit_at (get_or words (x / 64) 0) (x % 64)
  bit-there x h n = go (ℕ_discrete (x / 64) (v / 64))
    where
      go : Dec (x / 64 ≡ v / 64) → bit_at (get_or and-bit (x / 64) 0) (x % 64) ≡ bit_at (get_or words (x / 64) 0) (x % 64)
      go (yes q) =
          rw q
          (ap (λ w. bit_at w (x % 64)) (get_or-set_same words (v / 64) (bit_or word (2 ^ (v % 64))) 0 h)
          ∙ set-other word (v % 64) (x % 64) (λ z. n (omega (arith, div-add-mod' x 64, div-add-mod' v 64))))
      go (no q) = ap (λ w. bit_at w (x % 64)) (get_or-set_other words (v / 64) (x / 64) (bit_or word (2 ^ (v % 64))) 0 q)

  one-more-bit : v / 64 < length words → bit_at word (v % 64) ≡ 0 → (λ x. eqb x v || marked words x) ≡ marked and-bit
  one-more-bit h z = λ i x. at x i
    where
      at : (x : ℕ) → (eqb x v || marked words x) ≡ marked and-bit x
      at x = go (eqb x v) refl
        where
          go : (b : Bool) → eqb x v ≡ b → (b || marked words x) ≡ marked and-bit x
          go true e = sym (ap (marked and-bit) (eqb-true x v e) ∙ ap (λ k. eqb k 1) (bit-here h z))
          go false e = sym (ap (λ k. eqb k 1) (bit-there x h (eqb-false x v e)))

pub fit-marked : (n : ℕ) (ws : List ℕ) → found (keep_distinct (read_values ws)) ≡ values_fit (marked (replicate n 0)) ws
unfolding member
fit-marked n ws = found-kept (read_values ws) ∙ fit-rest ws [] ∙ ap (λ s. values_fit s ws) (sym (unmarked n))

-- One symbol: no number; a number whose value was seen; another number.
module _ (seen : List ℕ) (w v : ℕ) where
  pub turned-plain : (w ≡ 512 → ⊥) → Turned seen w v (eqb v 0) seen
  unfolding pair_fits
  turned-plain h go = rw (ne_eqb w 512 h, pair_fits) refl

  pub turned_again : w ≡ 512 → bit_at (get_or seen (v / 64) 0) (v % 64) ≡ 1 → (after : List ℕ) → Turned seen w v false after
  unfolding pair_fits
  turned_again e m after go = rw (eq-eqb w 512 e, eq-eqb (bit_at (get_or seen (v / 64) 0) (v % 64)) 1 m, pair_fits) refl

  pub turned_first : w ≡ 512 → bit_at (get_or seen (v / 64) 0) (v % 64) ≡ 0 → v / 64 < length seen → Turned seen w v true (and-bit seen v)
  unfolding pair_fits
  turned_first e m h go = rw (eq-eqb w 512 e, m, pair_fits) (ap go (one-more-bit seen v h m))

-- THE TABLE
pub kinds-length : (ws : List ℕ) → length (kind_words ws) ≡ length ws / 2
unfolding kind_words
kinds-length [] = refl
kinds-length (w ∷ []) = omega arith
kinds-length (w ∷ v ∷ ws) = omega (arith, kinds-length ws)

pub kinds-at : (ws : List ℕ) (i : ℕ) → i < length ws / 2 → get_or (kind_words ws) i 0 ≡ kind_word (get_or ws (2 * i) 0)
unfolding kind_words
kinds-at [] i h = absurd (omega (arith, h))
kinds-at (w ∷ []) i h = absurd (omega (arith, h))
kinds-at (w ∷ v ∷ ws) zero h = refl
kinds-at (w ∷ v ∷ ws) (suc i) h = let e : suc (suc (2 * i)) ≡ 2 * suc i = omega arith in kinds-at ws i (omega (arith, h)) ∙ ap (λ k. kind_word (get_or (w ∷ v ∷ ws) k 0)) e

-- Words two at a time.
pub two_more : (s : ℕ → Bool) (ws : List ℕ) → 2 ≤ length ws → values_fit s ws ≡ pair_fits s (get_or ws 0 0) (get_or ws 1 0) (λ t. values_fit t (drop 2 ws))
unfolding values_fit
two_more s [] h = absurd (omega (arith, h))
two_more s (w ∷ []) h = absurd (omega (arith, h))
two_more s (w ∷ v ∷ ws) h = refl

pub none_more : (s : ℕ → Bool) (ws : List ℕ) → length ws < 2 → values_fit s ws ≡ eqb (length ws) 0
unfolding values_fit
none_more s [] h = refl
none_more s (w ∷ []) h = refl
none_more s (w ∷ v ∷ ws) h = absurd (omega (arith, h))

-- VALUES, place by place.
pub values-length : (ws : List ℕ) (vs : List (Option ℕ)) → read_values ws ≡ some vs → length vs ≡ length ws / 2
unfolding read_values
values-length [] vs e = ap length (sym (some-injective [] vs e)) ∙ omega arith
values-length (w ∷ []) vs e = absurd (none-ne-some vs e)
values-length (w ∷ v ∷ ws) vs e =
    let n = read_next_lem (read_value w v) (read_values ws) vs e in
    let more = values-length ws n.1 n.3 in
    omega (arith, more, ap length n.4)

pub value-at : (ws : List ℕ) (vs : List (Option ℕ)) → read_values ws ≡ some vs → (f : ℕ) → f < length ws / 2
    → get_elem? vs f ≡ read_value (get_or ws (2 * f) 0) (get_or ws (2 * f + 1) 0)
unfolding read_values
value-at [] vs e f h = absurd (omega (arith, h))
value-at (w ∷ []) vs e f h = absurd (omega (arith, h))
value-at (w ∷ v ∷ ws) vs e zero h =
    let n = read_next_lem (read_value w v) (read_values ws) vs e in
    ap (λ (xs : List (Option ℕ)). get_elem? xs 0) (sym n.4) ∙ sym n.2
value-at (w ∷ v ∷ ws) vs e (suc f) h =
    let n = read_next_lem (read_value w v) (read_values ws) vs e in
    let first : suc (suc (2 * f)) ≡ 2 * suc f = omega arith in
    let second : suc (suc (2 * f + 1)) ≡ 2 * suc f + 1 = omega arith in
    ap (λ (xs : List (Option ℕ)). get_elem? xs (suc f)) (sym n.4)
    ∙ value-at ws n.1 n.3 f (omega (arith, h))
    ∙ ap₂ (λ i j. read_value (get_or (w ∷ v ∷ ws) i 0) (get_or (w ∷ v ∷ ws) j 0)) first second

no_entry : {A : Type 0} (xs : List A) (i : ℕ) → length xs ≤ i → get_elem? xs i ≡ none
no_entry [] i h = refl
no_entry (x ∷ xs) zero h = absurd (omega (arith, h))
no_entry (x ∷ xs) (suc i) h = no_entry xs i (omega (arith, h))

-- The word of a symbol's value.
module _ (ws : List ℕ) (vs : List (Option ℕ)) (e : read_values ws ≡ some vs) (f : ℕ) where
  pub value-past : length ws / 2 ≤ f → number_word (format2 vs) f ≡ none
  unfolding number_word flatten
  value-past h = ap flatten (no_entry vs f (omega (arith, h, values-length ws vs e)))

  pub value-plain : f < length ws / 2 → (get_or ws (2 * f) 0 ≡ 512 → ⊥) → number_word (format2 vs) f ≡ none
  unfolding number_word flatten read_value
  value-plain h n = ap flatten (value-at ws vs e f h) ∙ go (eqb (get_or ws (2 * f + 1) 0) 0) refl
    where
      go : (b : Bool) → eqb (get_or ws (2 * f + 1) 0) 0 ≡ b → flatten (read_value (get_or ws (2 * f) 0) (get_or ws (2 * f + 1) 0)) ≡ none
      go true p = rw (ne_eqb (get_or ws (2 * f) 0) 512 n, p, read_value) refl
      go false p = rw (ne_eqb (get_or ws (2 * f) 0) 512 n, p, read_value) refl

  pub value-number : f < length ws / 2 → get_or ws (2 * f) 0 ≡ 512 → number_word (format2 vs) f ≡ some (get_or ws (2 * f + 1) 0)
  unfolding number_word flatten read_value
  value-number h n = ap flatten (value-at ws vs e f h) ∙ rw (eq-eqb (get_or ws (2 * f) 0) 512 n, read_value) refl
