-- The bytes in front that pass a test: spacing, the letters and digits of a name, the digits of a number.
use Rattle.std.proofs.Common.{◌≡◌, ℕ, zero, suc, ◌+◌, ◌*◌, ◌-◌, ◌≤◌, Bool, true, false, List, [], ◌∷◌, length, take, drop, get_or, min, refl, ap, sym, ◌∙◌, arith, length-drop, length-take}
use Rattle.std.specs.List.{prefix_len, fold}
use Rattle.std.proofs.Math.Seq.{drop-drop}
use Rattle.std.proofs.lemmas.List.{take_all, get_or-drop}
use Rattle.std.proofs.lemmas.List.Sums.{prefix_len-le-length, prefix_len_stops}
use Rattle.text_rules.specs.TextTokens.{space, is_class, digit_byte, word_byte, longest, value, tokens}
use Rattle.text.specs.Scan.{Skipped, DigitsAt}

module _ (such : ℕ → Bool) where
  one-more : (n : ℕ) → 1 + n ≡ suc n
  one-more n = omega arith

  pub longest-take : (xs : List ℕ) → longest such xs ≡ take (prefix_len such xs) xs
  unfolding longest
  longest-take [] = refl
  longest-take (x ∷ xs) = go (such x) refl (longest-take xs)
    where
      go : (b : Bool) → such x ≡ b → longest such xs ≡ take (prefix_len such xs) xs → longest such (x ∷ xs) ≡ take (prefix_len such (x ∷ xs)) (x ∷ xs)
      go true e r = rw (e, longest, prefix_len, one-more) (ap {B = List ℕ} (x ∷◌) r)
      go false e r = rw (e, longest, prefix_len) refl

  pub length-longest : (xs : List ℕ) → length (longest such xs) ≡ prefix_len such xs
  unfolding longest
  length-longest [] = refl
  length-longest (x ∷ xs) = go (such x) refl (length-longest xs)
    where
      go : (b : Bool) → such x ≡ b → length (longest such xs) ≡ prefix_len such xs → length (longest such (x ∷ xs)) ≡ prefix_len such (x ∷ xs)
      go true e r = rw (e, longest, prefix_len) (omega arith)
      go false e r = rw (e, longest, prefix_len) refl

  pub longest-some : (n : ℕ) (xs : List ℕ) → longest such (take n xs) ≡ take n (longest such xs)
  unfolding longest
  longest-some zero xs = refl
  longest-some (suc n) [] = refl
  longest-some (suc n) (x ∷ xs) = go (such x) refl (longest-some n xs)
    where
      go : (b : Bool) → such x ≡ b → longest such (take n xs) ≡ take n (longest such xs) → longest such (x ∷ take n xs) ≡ take (suc n) (longest such (x ∷ xs))
      go true e r = rw (e, longest) (ap {B = List ℕ} (x ∷◌) r)
      go false e r = rw (e, longest) refl

pub skip-spaces : (xs : List ℕ) → tokens 0 xs ≡ tokens 0 (drop (prefix_len (is_class space) xs) xs)
unfolding tokens
skip-spaces [] = refl
skip-spaces (x ∷ xs) = go (is_class space x) refl (skip-spaces xs)
  where
    go :
        (b : Bool) → is_class space x ≡ b → tokens 0 xs ≡ tokens 0 (drop (prefix_len (is_class space) xs) xs)
        → tokens 0 (x ∷ xs) ≡ tokens 0 (drop (prefix_len (is_class space) (x ∷ xs)) (x ∷ xs))
    go true e r = rw (e, tokens, prefix_len, one-more (is_class space)) r
    go false e r = let none : prefix_len (is_class space) (x ∷ xs) ≡ 0 = rw (e, prefix_len) refl in ap (λ n. tokens 0 (drop n (x ∷ xs))) (sym none)

-- The value of digits as it is counted, up to 65,535.
pub decimal-value : (n : ℕ) (ds : List ℕ) → fold (λ n b. min 65535 (min 65535 (n * 10) + (b - 48))) (min 65535 n) ds ≡ min 65535 (value n ds)
unfolding value
decimal-value n [] = refl
decimal-value n (d ∷ ds) =
    let e : min 65535 (min 65535 (min 65535 n * 10) + (d - 48)) ≡ min 65535 (10 * n + (d - 48)) = omega arith in
    ap (λ m. fold (λ n b. min 65535 (min 65535 (n * 10) + (b - 48))) m ds) e ∙ decimal-value (10 * n + (d - 48)) ds

-- A slice up to the text's end.
pub up-to-end : (n : ℕ) (text : List ℕ) → take (length text - n) (drop n text) ≡ drop n text
up-to-end n text = take_all (length text - n) (drop n text) (omega (arith, length-drop n text))

pub front-fits : (such : ℕ → Bool) (text : List ℕ) (at n : ℕ) → at ≤ length text → n ≡ prefix_len such (take (length text - at) (drop at text)) → at + n ≤ length text
front-fits such text at n h e = omega (arith, ap (prefix_len such) (up-to-end at text), prefix_len-le-length such (drop at text), length-drop at text)

pub skipped : (text : List ℕ) (at n : ℕ) → at ≤ length text → n ≡ prefix_len (is_class space) (take (length text - at) (drop at text)) → Skipped text at (at + n)
skipped text at n h e =
    let k : n ≡ prefix_len (is_class space) (drop at text) = e ∙ ap (prefix_len (is_class space)) (up-to-end at text) in
    record {
      later = omega arith;
      inside = front-fits (is_class space) text at n h e;
      same = skip-spaces (drop at text) ∙ ap (λ m. tokens 0 (drop m (drop at text))) (sym k) ∙ ap (tokens 0) (drop-drop n at text);
      stops = λ l.
          let s = prefix_len_stops (is_class space) (drop at text) 0 (omega (arith, length-drop at text)) in
          ap (is_class space) (sym (get_or-drop at text n 0) ∙ ap (λ m. get_or (drop at text) m 0) k) ∙ s;
    }

pub named : (text : List ℕ) (from n : ℕ) → from ≤ length text → n ≡ prefix_len word_byte (take 15 (take (length text - from) (drop from text)))
    → (from ≤ from + n) × (from + n ≤ length text) × (from + n - from ≡ length (take 15 (longest word_byte (drop from text))))
named text from n h e =
    let k : n ≡ prefix_len word_byte (take 15 (drop from text)) = e ∙ ap (λ xs. prefix_len word_byte (take 15 xs)) (up-to-end from text) in
    let f : n ≤ length text - from = omega (arith, prefix_len-le-length word_byte (take 15 (drop from text)), length-take 15 (drop from text), length-drop from text) in
    let s : length (take 15 (longest word_byte (drop from text))) ≡ n = ap length (sym (longest-some word_byte 15 (drop from text))) ∙ length-longest word_byte (take 15 (drop from text)) ∙ sym k in
    (omega arith, omega arith, omega (arith, s))

pub digits-found : (text : List ℕ) (from n v : ℕ) → from ≤ length text → n ≡ prefix_len digit_byte (take (length text - from) (drop from text))
    → v ≡ min 65535 (value 0 (take (from + n - from) (drop from text))) → DigitsAt text from (longest digit_byte (drop from text)) (record { to = from + n; value = v })
digits-found text from n v h e f =
    let k : n ≡ prefix_len digit_byte (drop from text) = e ∙ ap (prefix_len digit_byte) (up-to-end from text) in
    let m : from + n - from ≡ n = omega arith in
    record {
      later = omega arith;
      inside = front-fits digit_byte text from n h e;
      size = m ∙ k ∙ sym (length-longest digit_byte (drop from text));
      number = f ∙ ap (λ xs. min 65535 (value 0 xs)) (ap (λ i. take i (drop from text)) (m ∙ k) ∙ sym (longest-take digit_byte (drop from text)));
    }
