-- The token that begins at a place, by the class of its first byte, and the next token from a place on.
use Rattle.std.proofs.Common.{◌≡◌, ℕ, zero, suc, ◌+◌, ◌-◌, ◌≤◌, ◌<◌, ◌⊎◌, inl, inr, Bool, true, false, List, [], ◌∷◌, ◌++◌, length, take, drop, get_or, refl, ap, ap₂, sym, ◌∙◌, arith, append_assoc, take-append-drop, length-append, length-drop, length-take, drop-cons, add-one}
use lib.Dec.{eqb}
use lib.Pointwise.{pointwise}
use Rattle.std.proofs.Math.ListN.{drop_of_length-le}
use Rattle.std.proofs.Math.Seq.{drop-drop, take-append_seam}
use Rattle.std.proofs.lemmas.Bool.Decides.{nat_tests}
use borrow.Author.Tests.{le-leb, lt-leb, eq-eqb, eqb-true}
use Rattle.text_rules.specs.TextTokens.{name, number, variable, implies, invalid, kind_number, ranges, class_in, class_of, letter, zero_digit, digit, underscore, colon, minus, space, no_class, mark, is_class, digit_byte, word_byte, longest, numeral, value, token, at_most, number_kind, number_token, negative_kind, negative_token, variable_token, implies_token, token_from, tokens}
use Rattle.text_rules.specs.TextTokens as rules
use Rattle.text_rules.specs.TextWords.{value_word}
use Rattle.std.specs.Prelude.{Some}
use Rattle.std.specs.List.{prefix_len}
use Rattle.text.specs.declared.tokens.Kind.{Kind}
use Rattle.text.specs.declared.tokens.Kind.TheVariants.{Invalid, Ending, Name, Number, Variable, Implies}
use Rattle.text.specs.declared.tokens.Token.{Token}
use Rattle.text.specs.declared.tokens.Numeral.{Numeral}
use Rattle.text.specs.declared.classes.Class.{Class}
use Rattle.text.specs.declared.classes.Class.TheVariants.{Unknown, Space}
use Rattle.text.specs.Kinds.{kind_of, value_in, rule_class}
use Rattle.text.specs.Scan.{Skipped, DigitsAt, single, NumberKind, NegativeKind, Scanned, tokens_from, NextToken}
use Rattle.text.proofs.ScanLaws.{longest-take, up-to-end}

-- What a byte's class says of it.
zero-only : (b : ℕ) → (b ≡ 48 → ⊥) → is_class zero_digit b ≡ false
unfolding is_class class_of class_in ranges
zero-only b h = grind (arith, nat_tests)

minus-only : (b : ℕ) → (b ≡ 45 → ⊥) → is_class minus b ≡ false
unfolding is_class class_of class_in ranges
minus-only b h = grind (arith, nat_tests)

pub mark-kinds : (b : ℕ) (k : rules.Kind) → class_of b ≡ mark k → (6 ≤ kind_number k) × (kind_number k ≤ 11)
unfolding class_of class_in ranges
mark-kinds b k e = grind (arith, nat_tests)

-- Fronts of lists.
longest-front : (such : ℕ → Bool) (xs : List ℕ) → (zs : List ℕ) × (longest such xs ++ zs ≡ xs)
longest-front such xs =
    (drop (prefix_len such xs) xs, ap (◌++ drop (prefix_len such xs) xs) (longest-take such xs) ∙ take-append-drop (prefix_len such xs) xs)

take-front : (n : ℕ) (ys xs : List ℕ) → (zs : List ℕ) × (ys ++ zs ≡ xs) → (zs : List ℕ) × (take n ys ++ zs ≡ xs)
take-front n ys xs r = (drop n ys ++ r.0, sym (append_assoc (take n ys) (drop n ys) r.0) ∙ ap (◌++ r.0) (take-append-drop n ys) ∙ r.1)

numeral-front : (xs : List ℕ) → (zs : List ℕ) × (numeral xs ++ zs ≡ xs)
unfolding numeral
numeral-front [] = ([], refl)
numeral-front (x ∷ xs) = go (is_class zero_digit x) refl
  where
    go : (b : Bool) → is_class zero_digit x ≡ b → (zs : List ℕ) × (numeral (x ∷ xs) ++ zs ≡ x ∷ xs)
    go true e = (xs, rw (e, numeral) refl)
    go false e = let r = longest-front digit_byte (x ∷ xs) in (r.0, rw (e, numeral) r.1)

numeral-some : (x : ℕ) (xs : List ℕ) → digit_byte x ≡ true → 1 ≤ length (numeral (x ∷ xs))
unfolding numeral longest
numeral-some x xs d = go (is_class zero_digit x) refl
  where
    go : (b : Bool) → is_class zero_digit x ≡ b → 1 ≤ length (numeral (x ∷ xs))
    go true e = rw (e, numeral) (omega arith)
    go false e = rw (e, numeral) (rw (d, longest) (omega arith))

-- Numbers within a bound, and over it.
within : (most : ℕ) (k : rules.Kind) (n : ℕ) → n ≤ most → at_most most k n ≡ k
unfolding at_most
within most k n h = rw (le-leb n most h, at_most)

over : (most : ℕ) (k : rules.Kind) (n : ℕ) → most < n → at_most most k n ≡ invalid
unfolding at_most
over most k n h = rw (lt-leb n most h, at_most)

variable-full : (b left : ℕ) (xs : List ℕ) → 1 ≤ length xs → variable_token b xs left ≡ token (at_most 1023 variable (value 0 xs)) (b ∷ xs) left
unfolding variable_token
variable-full b left [] h = absurd (omega arith)
variable-full b left (x ∷ xs) h = refl

variable-empty : (b left : ℕ) (xs : List ℕ) → length xs ≡ 0 → variable_token b xs left ≡ token invalid (b ∷ []) left
unfolding variable_token
variable-empty b left [] h = refl
variable-empty b left (x ∷ xs) h = absurd (omega arith)

negative-full : (b left : ℕ) (xs : List ℕ) → 1 ≤ length xs → negative_token b xs left ≡ token (negative_kind (value 0 xs)) (b ∷ xs) left
unfolding negative_token
negative-full b left [] h = absurd (omega arith)
negative-full b left (x ∷ xs) h = refl

negative-empty : (b left : ℕ) (xs : List ℕ) → length xs ≡ 0 → negative_token b xs left ≡ token invalid (b ∷ []) left
unfolding negative_token
negative-empty b left [] h = refl
negative-empty b left (x ∷ xs) h = absurd (omega arith)

-- The word of a value, and which kinds have one.
plain-word : (b : ℕ) (bs : List ℕ) → eqb b 45 ≡ false → value_word (b ∷ bs) ≡ value 0 (b ∷ bs)
unfolding value_word
plain-word b bs e = rw (e, value_word) refl

no-minus : (b : ℕ) → digit_byte b ≡ true → eqb b 45 ≡ false
unfolding digit_byte is_class class_of class_in ranges
no-minus b d = go (eqb b 45) refl
  where
    go : (r : Bool) → eqb b 45 ≡ r → eqb b 45 ≡ false
    go true q = let z : false ≡ true = ap digit_byte (sym (eqb-true b 45 q)) ∙ d in cc
    go false q = q

numeral-word : (x : ℕ) (xs : List ℕ) → digit_byte x ≡ true → value_word (numeral (x ∷ xs)) ≡ value 0 (numeral (x ∷ xs))
unfolding numeral longest
numeral-word x xs d = go (is_class zero_digit x) refl
  where
    go : (b : Bool) → is_class zero_digit x ≡ b → value_word (numeral (x ∷ xs)) ≡ value 0 (numeral (x ∷ xs))
    go true e = rw (e, numeral) (plain-word x [] (no-minus x d))
    go false e = rw (e, numeral) (rw (d, longest) (plain-word x (longest digit_byte xs) (no-minus x d)))

negative-word : (b : ℕ) (bs : List ℕ) → class_of b ≡ minus → value_word (b ∷ bs) ≡ 65536 - value 0 bs
unfolding value_word is_class
negative-word b bs c = go (eqb b 45) refl
  where
    go : (r : Bool) → eqb b 45 ≡ r → value_word (b ∷ bs) ≡ 65536 - value 0 bs
    go true q = rw (q, value_word) refl
    go false q =
        let m : is_class minus b ≡ true = rw c refl in
        let z : false ≡ true = sym (minus-only b (λ e. let w : false ≡ true = sym q ∙ eq-eqb b 45 e in cc)) ∙ m in
        cc

value-kinds : (k : Kind) (w : ℕ) → value_in k ≡ Some w → (kind_number (kind_of k) ≡ 3) ⊎ (kind_number (kind_of k) ≡ 12)
value-kinds k w e = grind arith

-- Whether a byte stands in front.
abbrev begins : ℕ → List ℕ → Bool
begins b xs = pointwise eqb (b ∷ []) (take 1 xs)

begins-head : (b x : ℕ) (xs : List ℕ) → begins b (x ∷ xs) ≡ eqb b x
begins-head b x xs = go (eqb b x) refl
  where
    go : (r : Bool) → eqb b x ≡ r → begins b (x ∷ xs) ≡ eqb b x
    go true e = rw (e, pointwise) refl
    go false e = rw (e, pointwise) refl

numeral-zero : (xs : List ℕ) → begins 48 xs ≡ true → (numeral xs ≡ 48 ∷ []) × (1 ≤ length xs)
unfolding numeral is_class class_of class_in ranges
numeral-zero [] e = cc
numeral-zero (x ∷ xs) e =
    let q : 48 ≡ x = eqb-true 48 x (sym (begins-head 48 x xs) ∙ e) in
    (ap (λ y. numeral (y ∷ xs)) (sym q), omega arith)

numeral-other : (xs : List ℕ) → begins 48 xs ≡ false → numeral xs ≡ longest digit_byte xs
unfolding numeral longest
numeral-other [] e = refl
numeral-other (x ∷ xs) e =
    let z = zero-only x (λ q. let w : true ≡ false = sym (eq-eqb 48 x (sym q)) ∙ sym (begins-head 48 x xs) ∙ e in cc) in
    rw (z, numeral) refl

implies-yes : (b left : ℕ) (xs : List ℕ) → begins 45 xs ≡ true → (implies_token b xs left ≡ token implies (b ∷ 45 ∷ []) left) × (xs ≡ 45 ∷ drop 1 xs)
unfolding implies_token is_class class_of class_in ranges
implies-yes b left [] e = cc
implies-yes b left (x ∷ xs) e =
    let q : 45 ≡ x = eqb-true 45 x (sym (begins-head 45 x xs) ∙ e) in
    (ap (λ y. implies_token b (y ∷ xs) left) (sym q), ap (λ y. y ∷ xs) (sym q))

implies-no : (b left : ℕ) (xs : List ℕ) → begins 45 xs ≡ false → implies_token b xs left ≡ token invalid (b ∷ []) left
unfolding implies_token
implies-no b left [] e = refl
implies-no b left (x ∷ xs) e =
    let z = minus-only x (λ q. let w : true ≡ false = sym (eq-eqb 45 x (sym q)) ∙ sym (begins-head 45 x xs) ∙ e in cc) in
    rw (z, implies_token) refl

-- The number at a place.
module _ (text : List ℕ) (from : ℕ) where
  abbrev from_here : List ℕ
  from_here = take (length text - from) (drop from text)

  pub zero_number : from ≤ length text → begins 48 from_here ≡ true → DigitsAt text from (numeral (drop from text)) (record { to = from + 1; value = 0 })
  unfolding value
  zero_number h b =
      let e = numeral-zero (drop from text) (ap (begins 48) (sym (up-to-end from text)) ∙ b) in
      rw e.0 (record { later = omega arith; inside = omega (arith, e.1, length-drop from text); size = omega arith; number = refl })

  pub other-number : begins 48 from_here ≡ false → (n : Numeral) → DigitsAt text from (longest digit_byte (drop from text)) n → DigitsAt text from (numeral (drop from text)) n
  other-number b n d = rw (numeral-other (drop from text) (ap (begins 48) (sym (up-to-end from text)) ∙ b)) d

-- The token at a place in the text.
module _ (text : List ℕ) (from : ℕ) (h : from < length text) where
  abbrev byte : ℕ
  byte = get_or text from 0

  abbrev rest : List ℕ
  rest = drop (suc from) text

  left : length (byte ∷ rest) ≡ length text - from
  left = omega (arith, length-drop (suc from) text)

  after_one : drop (from + 1) text ≡ rest
  after_one = ap (λ k. drop k text) (add-one from)

  -- It is its bytes ys, of kind k.
  scan :
      (k : Kind) (to : ℕ) (ys zs : List ℕ) → ys ++ zs ≡ byte ∷ rest → to - from ≡ length ys → 1 ≤ length ys → (k ≡ Ending → ⊥)
      → token_from (class_of byte) byte rest ≡ token (kind_of k) ys (length (byte ∷ rest)) → ((n : ℕ) → k ≡ Number n → n ≡ value 0 ys)
      → ((v : ℕ) → k ≡ Variable v → v ≡ value 0 (drop 1 ys)) → ((w : ℕ) → value_in k ≡ Some w → w ≡ value_word ys)
      → Scanned text from (record { kind = k; from = from; to = to })
  scan k to ys zs e n some in_text t a_number a_variable an_amount =
      let bytes : take (to - from) (drop from text) ≡ ys =
      ap₂ take n (drop-cons text from 0 h ∙ sym e) ∙ take-append_seam ys zs in
      let all : length ys + length zs ≡ length (byte ∷ rest) = sym (length-append ys zs) ∙ ap length e in
      record {
        begins = refl;
        later = omega (arith, n, some);
        inside = omega (arith, n, some, all, left);
        in_text = in_text;
        scanned = t ∙ ap₂ (token (kind_of k)) (sym bytes) left;
        number = λ m q. a_number m q ∙ ap (value 0) (sym bytes);
        variable = λ v q. a_variable v q ∙ ap (λ xs. value 0 (drop 1 xs)) (sym bytes);
        amount = λ w q. an_amount w q ∙ ap value_word (sym bytes);
      }

  one : from + 1 - from ≡ 1
  one = omega arith

  -- A mark, or bytes that are no token.
  scan-mark : (k : Kind) → (6 ≤ kind_number (kind_of k)) × (kind_number (kind_of k) ≤ 11) → token_from (class_of byte) byte rest ≡ token (kind_of k) (byte ∷ []) (length (byte ∷ rest)) → Scanned text from (single k from)
  scan-mark k l t = scan k (from + 1) (byte ∷ []) rest refl one (omega arith) (λ q. absurd (not_one (ap (λ x. kind_number (kind_of x)) q))) t (λ n q. absurd (not_three (ap (λ x. kind_number (kind_of x)) q))) (λ v q. absurd (not_four (ap (λ x. kind_number (kind_of x)) q))) (λ w q. absurd (no-value (value-kinds k w q)))
    where
      no-value : (kind_number (kind_of k) ≡ 3) ⊎ (kind_number (kind_of k) ≡ 12) → ⊥
      no-value (inl q) = omega (arith, l.0)
      no-value (inr q) = omega (arith, l.1)

      not_one : kind_number (kind_of k) ≡ 1 → ⊥
      not_one q = omega (arith, l.0)

      not_three : kind_number (kind_of k) ≡ 3 → ⊥
      not_three q = omega (arith, l.0)

      not_four : kind_number (kind_of k) ≡ 4 → ⊥
      not_four q = omega (arith, l.0)

  pub mark-scanned : (k : Kind) → mark (kind_of k) ≡ class_of byte → Scanned text from (single k from)
  unfolding token_from
  mark-scanned k c = scan-mark k (mark-kinds byte (kind_of k) (sym c)) (ap (λ c. token_from c byte rest) (sym c))

  scan-invalid : (to : ℕ) (ys zs : List ℕ) → ys ++ zs ≡ byte ∷ rest → to - from ≡ length ys → 1 ≤ length ys → token_from (class_of byte) byte rest ≡ token invalid ys (length (byte ∷ rest)) → Scanned text from (record { kind = Invalid; from = from; to = to })
  scan-invalid to ys zs e n some t = scan Invalid to ys zs e n some (λ q. cc) t (λ m q. cc) (λ v q. cc) (λ w q. cc)

  pub invalid-scanned : (k : Class) → (k ≡ Unknown) ⊎ (k ≡ Space) → rule_class k ≡ class_of byte → Scanned text from (single Invalid from)
  unfolding token_from
  invalid-scanned k c e = scan-invalid (from + 1) (byte ∷ []) rest refl one (omega arith) (ap (λ c. token_from c byte rest) (sym e) ∙ go c)
    where
      go : (k ≡ Unknown) ⊎ (k ≡ Space) → token_from (rule_class k) byte rest ≡ token invalid (byte ∷ []) (length (byte ∷ rest))
      go (inl q) = ap (λ c. token_from (rule_class c) byte rest) q
      go (inr q) = ap (λ c. token_from (rule_class c) byte rest) q

  pub name-scanned :
      class_of byte ≡ letter → (to : ℕ) → (from + 1 ≤ to) × (to ≤ length text) × (to - (from + 1) ≡ length (take 15 (longest word_byte (drop (from + 1) text))))
      → Scanned text from (record { kind = Name; from = from; to = to })
  unfolding token_from
  name-scanned c to e =
      let ys = take 15 (longest word_byte rest) in
      let p = take-front 15 (longest word_byte rest) rest (longest-front word_byte rest) in
      let n : to - (from + 1) ≡ length ys = e.2 ∙ ap (λ xs. length (take 15 (longest word_byte xs))) after_one in
      scan Name to (byte ∷ ys) p.0 (ap {B = List ℕ} (byte ∷◌) p.1) (omega (arith, n, e.0)) (omega arith) (λ q. cc)
      (ap (λ c. token_from c byte rest) c) (λ m q. cc) (λ v q. cc) (λ w q. cc)

  -- Numbers.
  module _ (c : (class_of byte ≡ zero_digit) ⊎ (class_of byte ≡ digit)) (n : Numeral) (d : DigitsAt text from (numeral (drop from text)) n) where
    digits : DigitsAt text from (numeral (byte ∷ rest)) n
    digits = rw (drop-cons text from 0 h) at d

    is-digit : digit_byte byte ≡ true
    unfolding digit_byte is_class
    is-digit = go c
      where
        go : (class_of byte ≡ zero_digit) ⊎ (class_of byte ≡ digit) → digit_byte byte ≡ true
        go (inl e) = rw e refl
        go (inr e) = rw e refl

    from-number : (k : rules.Kind) → number_kind (value 0 (numeral (byte ∷ rest))) ≡ k → token_from (class_of byte) byte rest ≡ token k (numeral (byte ∷ rest)) (length (byte ∷ rest))
    unfolding number_token token_from
    from-number k e = go c ∙ ap (λ k. token k (numeral (byte ∷ rest)) (length (byte ∷ rest))) e
      where
        go : (class_of byte ≡ zero_digit) ⊎ (class_of byte ≡ digit) → token_from (class_of byte) byte rest ≡ number_token (numeral (byte ∷ rest)) (length (byte ∷ rest))
        go (inl e) = ap (λ c. token_from c byte rest) e
        go (inr e) = ap (λ c. token_from c byte rest) e

    pub number-scanned : (k : Kind) → NumberKind n.value k → Scanned text from (record { kind = k; from = from; to = n.to })
    number-scanned k h =
        let f = h (value 0 (numeral (byte ∷ rest))) digits.number in
        let p = numeral-front (byte ∷ rest) in
        scan k n.to (numeral (byte ∷ rest)) p.0 p.1 digits.size (numeral-some byte rest is-digit) f.other.0 (from-number (kind_of k) (sym f.same))
        (λ m q. f.value m (ap value_in q)) (λ v q. absurd (f.other.1 v q)) (λ w q. f.value w q ∙ sym (numeral-word byte rest is-digit))

  -- The number after the first byte.
  module _ (n : Numeral) (d : DigitsAt text (from + 1) (numeral (drop (from + 1) text)) n) where
    after : DigitsAt text (from + 1) (numeral rest) n
    after = rw after_one at d

    none_after : n.to ≡ from + 1 → length (numeral rest) ≡ 0
    none_after e = omega (arith, after.size)

    some_after : (n.to ≡ from + 1 → ⊥) → 1 ≤ length (numeral rest)
    some_after e = let l : from + 1 ≤ n.to = after.later in omega (arith, after.size)

    size_after : n.to - from ≡ length (byte ∷ numeral rest)
    size_after = omega (arith, after.size, after.later)

  -- Negative numbers.
  module _ (c : class_of byte ≡ minus) (n : Numeral) (d : DigitsAt text (from + 1) (numeral (drop (from + 1) text)) n) where
    from-minus : token_from (class_of byte) byte rest ≡ negative_token byte (numeral rest) (length (byte ∷ rest))
    unfolding token_from
    from-minus = ap (λ c. token_from c byte rest) c

    pub sign-scanned : n.to ≡ from + 1 → Scanned text from (single Invalid from)
    sign-scanned e =
        scan-invalid (from + 1) (byte ∷ []) rest refl one (omega arith) (from-minus ∙ negative-empty byte (length (byte ∷ rest)) (numeral rest) (none_after n d e))

    pub negative-scanned : (n.to ≡ from + 1 → ⊥) → (k : Kind) → NegativeKind n.value k → Scanned text from (record { kind = k; from = from; to = n.to })
    negative-scanned e k h =
        let f = h.given (value 0 (numeral rest)) (after n d).number in
        let p = numeral-front rest in
        let scanned =
        from-minus ∙ negative-full byte (length (byte ∷ rest)) (numeral rest) (some_after n d e)
        ∙ ap (λ k. token k (byte ∷ numeral rest) (length (byte ∷ rest))) (sym f.same) in
        scan k n.to (byte ∷ numeral rest) p.0 (ap {B = List ℕ} (byte ∷◌) p.1) (size_after n d) (omega arith) f.other.0 scanned
        (λ m q. absurd (h.negative m q)) (λ v q. absurd (f.other.1 v q)) (λ w q. f.value w q ∙ sym (negative-word byte (numeral rest) c))

  -- Variables.
  module _ (c : class_of byte ≡ underscore) (n : Numeral) (d : DigitsAt text (from + 1) (numeral (drop (from + 1) text)) n) where
    from-variable : token_from (class_of byte) byte rest ≡ variable_token byte (numeral rest) (length (byte ∷ rest))
    unfolding token_from
    from-variable = ap (λ c. token_from c byte rest) c

    pub bare-scanned : n.to ≡ from + 1 → Scanned text from (single Invalid from)
    bare-scanned e =
        scan-invalid (from + 1) (byte ∷ []) rest refl one (omega arith) (from-variable ∙ variable-empty byte (length (byte ∷ rest)) (numeral rest) (none_after n d e))

    module _ (e : n.to ≡ from + 1 → ⊥) where
      from-full :
          (k : rules.Kind) → at_most 1023 variable (value 0 (numeral rest)) ≡ k → token_from (class_of byte) byte rest ≡ token k (byte ∷ numeral rest) (length (byte ∷ rest))
      from-full k q =
          from-variable ∙ variable-full byte (length (byte ∷ rest)) (numeral rest) (some_after n d e) ∙ ap (λ k. token k (byte ∷ numeral rest) (length (byte ∷ rest))) q

      pub variable-scanned : n.value ≤ 1023 → Scanned text from (record { kind = Variable n.value; from = from; to = n.to })
      variable-scanned l =
          let v : value 0 (numeral rest) ≡ n.value = omega (arith, (after n d).number) in
          let p = numeral-front rest in
          scan (Variable n.value) n.to (byte ∷ numeral rest) p.0 (ap {B = List ℕ} (byte ∷◌) p.1) (size_after n d) (omega arith) (λ q. cc)
          (from-full variable (within 1023 variable (value 0 (numeral rest)) (omega arith))) (λ m q. cc) (λ m q. let e : m ≡ n.value = cc in e ∙ sym v) (λ w q. cc)

      pub far-scanned : 1023 < n.value → Scanned text from (record { kind = Invalid; from = from; to = n.to })
      far-scanned l =
          let p = numeral-front rest in
          scan-invalid n.to (byte ∷ numeral rest) p.0 (ap {B = List ℕ} (byte ∷◌) p.1) (size_after n d) (omega arith)
          (from-full invalid (over 1023 variable (value 0 (numeral rest)) (omega (arith, (after n d).number))))

  -- `:-`
  module _ (c : class_of byte ≡ colon) where
    from-colon : token_from (class_of byte) byte rest ≡ implies_token byte rest (length (byte ∷ rest))
    unfolding token_from
    from-colon = ap (λ c. token_from c byte rest) c

    second : take (length text - (from + 1)) (drop (from + 1) text) ≡ rest
    second = up-to-end (from + 1) text ∙ after_one

    pub colon-alone : begins 45 (take (length text - (from + 1)) (drop (from + 1) text)) ≡ false → Scanned text from (single Invalid from)
    colon-alone e =
        scan-invalid (from + 1) (byte ∷ []) rest refl one (omega arith) (from-colon ∙ implies-no byte (length (byte ∷ rest)) rest (ap (begins 45) (sym second) ∙ e))

    pub implies-scanned : begins 45 (take (length text - (from + 1)) (drop (from + 1) text)) ≡ true → Scanned text from (record { kind = Implies; from = from; to = from + 2 })
    implies-scanned e =
        let p = implies-yes byte (length (byte ∷ rest)) rest (ap (begins 45) (sym second) ∙ e) in
        scan Implies (from + 2) (byte ∷ 45 ∷ []) (drop 1 rest) (ap {B = List ℕ} (byte ∷◌) (sym p.1)) (omega arith) (omega arith) (λ q. cc)
        (from-colon ∙ p.0) (λ m q. cc) (λ v q. cc) (λ w q. cc)

-- Bytes passed over.
skip-drop : (k : ℕ) (bs : List ℕ) → tokens k bs ≡ tokens 0 (drop k bs)
unfolding tokens
skip-drop zero bs = refl
skip-drop (suc k) [] = refl
skip-drop (suc k) (b ∷ bs) = skip-drop k bs

take-token : (b : ℕ) (bs : List ℕ) → is_class space b ≡ false → tokens 0 (b ∷ bs) ≡ token_from (class_of b) b bs ∷ tokens (length (token_from (class_of b) b bs).bytes - 1) bs
unfolding tokens
take-token b bs e = rw (e, tokens)

-- The tokens after one that is not the last.
pub not-ending : (k : Kind) (text : List ℕ) (to : ℕ) → (k ≡ Ending → ⊥) → tokens_from k text to ≡ tokens 0 (drop to text)
not-ending k text to f = grind (arith, f)

-- The next token.
module _ (text : List ℕ) (at from : ℕ) (s : Skipped text at from) where
  token-tokens :
      (to : ℕ) (k : rules.Kind) → from < length text → from < to → to ≤ length text
      → token_from (class_of (get_or text from 0)) (get_or text from 0) (drop (suc from) text) ≡ token k (take (to - from) (drop from text)) (length text - from)
      → tokens 0 (drop at text) ≡ token k (take (to - from) (drop from text)) (length text - from) ∷ tokens 0 (drop to text)
  token-tokens to k h l m t =
      let ys = take (to - from) (drop from text) in
      let size : length ys ≡ to - from = omega (arith, length-take (to - from) (drop from text), length-drop from text) in
      let there : suc from + (length ys - 1) ≡ to = omega (arith, size) in
      s.same
      ∙ ap (tokens 0) (drop-cons text from 0 h)
      ∙ take-token (get_or text from 0) (drop (suc from) text) (s.stops h)
      ∙ ap (λ x. x ∷ tokens (length x.bytes - 1) (drop (suc from) text)) t
      ∙ ap {B = List rules.Token} (token k ys (length text - from) ∷◌)
      (skip-drop (length ys - 1) (drop (suc from) text) ∙ ap (tokens 0) (drop-drop (length ys - 1) (suc from) text ∙ ap (λ n. drop n text) there))

  pub next-scanned : (r : Token) → from < length text → Scanned text from r → NextToken text at r
  next-scanned r h t =
      let all = token-tokens r.to (kind_of r.kind) h t.later t.inside t.scanned in
      record {
        later = omega (arith, s.later, t.begins);
        forward = omega (arith, t.begins, t.later);
        progress = λ _. omega (arith, t.begins, t.later);
        last = λ q. absurd (t.in_text q);
        inside = t.inside;
        scanned = rw (t.begins, not-ending r.kind text r.to t.in_text) all;
        number = λ m q. t.number m q ∙ ap (λ k. value 0 (take (r.to - k) (drop k text))) (sym t.begins);
        variable = λ v q. t.variable v q ∙ ap (λ k. value 0 (drop 1 (take (r.to - k) (drop k text)))) (sym t.begins);
        amount = λ w q. t.amount w q ∙ ap (λ k. value_word (take (r.to - k) (drop k text))) (sym t.begins);
      }

  pub next-ended : length text ≤ from → NextToken text at (record { kind = Ending; from = from; to = from })
  unfolding tokens
  next-ended h =
      let e : drop from text ≡ [] = drop_of_length-le text h in
      let z : from - from ≡ 0 = omega arith in
      let w : length text - from ≡ 0 = omega arith in
      record {
        later = s.later;
        forward = omega arith;
        progress = λ f. absurd (f refl);
        last = λ q. omega (arith, s.inside);
        inside = s.inside;
        scanned = s.same ∙ ap (tokens 0) e ∙ rw (z, w) refl;
        number = λ m q. cc;
        variable = λ v q. cc;
        amount = λ w q. cc;
      }
