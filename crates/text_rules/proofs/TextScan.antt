-- Scanning: decimal digits are read as what they were written for, and a written name, variable or arity is one token.
use Prim.Native.Nat.{ℕ, zero, suc, ◌+◌, ◌*◌, ◌-◌, ◌/◌, ◌%◌, ◌≤◌, ◌<◌}
use mathlib.Core.Path.{◌≡◌, refl, ap, ap₂, sym, ◌∙◌, subst}
use mathlib.Core.Bool.{Bool, true, false, ◌||◌, and-eq-true_iff}
use mathlib.Core.List.{List, [], ◌∷◌, ◌++◌}
use native.Mathlib.Omega.{arith}
use native.Mathlib.Decide.{dec_lt}
use lib.ListN.{length, take, drop}
use lib.Seq.{take_all}
use lib.Dec.{eqb, leb, ltb}
use borrow.Author.Tests.{lt-ltb, le-ltb, le-leb, eq-eqb, eqb-true, ltb-true, ltb-false}
use Rattle.rules.specs.WellFormed.{All}
use Rattle.rules.specs.Listing.{digits, decimal}
use Rattle.text_rules.specs.TextTokens.{Kind, name, number, amount, variable, class_in, ranges, class_of, space, letter, zero_digit, is_class, digit_byte, word_byte, longest, numeral, value, Token, token, at_most, number_kind, number_token, negative_kind, negative_token, variable_token, token_from, tokens}
use Rattle.text_rules.specs.TextGrammar.{same_bytes, is_value}
use Rattle.text_rules.specs.TextWords.{value_word}
use Rattle.text_rules.specs.TextWriter.{name_text, value_text}
use Rattle.rules.proofs.ListLaws.{all-weaken}

-- Digits, one by one.
one-digit : (n more : ℕ) (rest : List ℕ) → n < 10 → digits (suc more) n rest ≡ (48 + n) ∷ rest
unfolding digits
one-digit n more rest h = rw (lt-ltb n 10 h, digits)

more-digits : (n more : ℕ) (rest : List ℕ) → 10 ≤ n → digits (suc more) n rest ≡ digits more (n / 10) ((48 + n % 10) ∷ rest)
unfolding digits
more-digits n more rest h = rw (le-ltb n 10 h, digits)

-- A property of digits f n xs by the way in which they are written: it is enough to go from n / 10 to n.
module _ (P : ℕ → ℕ → List ℕ → Type 0) where
  by_digits :
      ((n : ℕ) (xs : List ℕ) → P 0 n xs) → ((f n : ℕ) (xs : List ℕ) → n < 10 → P (suc f) n xs)
      → ((f n : ℕ) (xs : List ℕ) → 10 ≤ n → P f (n / 10) ((48 + n % 10) ∷ xs) → P (suc f) n xs) → (f n : ℕ) (xs : List ℕ) → P f n xs
  by_digits none last step zero n xs = none n xs
  by_digits none last step (suc f) n xs = go (dec_lt n 10) (by_digits none last step f (n / 10) ((48 + n % 10) ∷ xs))
    where
      go : Dec (n < 10) → P f (n / 10) ((48 + n % 10) ∷ xs) → P (suc f) n xs
      go (yes h) r = last f n xs h
      go (no h) r = step f n xs (omega arith) r

digits_append : (f n : ℕ) (xs rest : List ℕ) → digits f n (xs ++ rest) ≡ digits f n xs ++ rest
digits_append f n xs rest =
    by_digits (λ f n xs. digits f n (xs ++ rest) ≡ digits f n xs ++ rest)
    (λ n xs. unfold digits in refl)
    (λ f n xs h. one-digit n f (xs ++ rest) h ∙ ap (◌++ rest) (sym (one-digit n f xs h)))
    (λ f n xs h r. more-digits n f (xs ++ rest) h ∙ r ∙ ap (◌++ rest) (sym (more-digits n f xs h)))
    f n xs

pub decimal-append : (n : ℕ) (rest : List ℕ) → decimal n rest ≡ decimal n [] ++ rest
unfolding decimal
decimal-append n rest = digits_append (suc n) n [] rest

-- Their value.
value-digits : (f n : ℕ) (xs : List ℕ) → n < f → value 0 (digits f n xs) ≡ value n xs
unfolding value
value-digits =
    by_digits (λ f n xs. n < f → value 0 (digits f n xs) ≡ value n xs)
    (λ n xs h. absurd (omega arith))
    (λ f n xs l h. let e : 10 * 0 + (48 + n - 48) ≡ n = omega arith in ap (value 0) (one-digit n f xs l) ∙ ap (λ k. value k xs) e)
    (λ f n xs l r h.
    let e : 10 * (n / 10) + (48 + n % 10 - 48) ≡ n = omega arith in
    ap (value 0) (more-digits n f xs l) ∙ r (omega arith) ∙ ap (λ k. value k xs) e)

pub value-decimal : (n : ℕ) → value 0 (decimal n []) ≡ n
unfolding decimal value
value-decimal n = value-digits (suc n) n [] (omega arith)

-- Each is a digit.
digit-byte : (n : ℕ) → n < 10 → digit_byte (48 + n) ≡ true
unfolding digit_byte is_class class_of class_in ranges
digit-byte zero h = refl
digit-byte (suc zero) h = refl
digit-byte (suc (suc zero)) h = refl
digit-byte (suc (suc (suc zero))) h = refl
digit-byte (suc (suc (suc (suc zero)))) h = refl
digit-byte (suc (suc (suc (suc (suc zero))))) h = refl
digit-byte (suc (suc (suc (suc (suc (suc zero)))))) h = refl
digit-byte (suc (suc (suc (suc (suc (suc (suc zero))))))) h = refl
digit-byte (suc (suc (suc (suc (suc (suc (suc (suc zero)))))))) h = refl
digit-byte (suc (suc (suc (suc (suc (suc (suc (suc (suc zero))))))))) h = refl
digit-byte (suc (suc (suc (suc (suc (suc (suc (suc (suc (suc n)))))))))) h = absurd (omega arith)

-- Only the byte 48 is a leading zero.
not-zero : (n : ℕ) → 1 ≤ n → n < 10 → is_class zero_digit (48 + n) ≡ false
unfolding is_class class_of class_in ranges
not-zero zero l h = absurd (omega arith)
not-zero (suc zero) l h = refl
not-zero (suc (suc zero)) l h = refl
not-zero (suc (suc (suc zero))) l h = refl
not-zero (suc (suc (suc (suc zero)))) l h = refl
not-zero (suc (suc (suc (suc (suc zero))))) l h = refl
not-zero (suc (suc (suc (suc (suc (suc zero)))))) l h = refl
not-zero (suc (suc (suc (suc (suc (suc (suc zero))))))) l h = refl
not-zero (suc (suc (suc (suc (suc (suc (suc (suc zero)))))))) l h = refl
not-zero (suc (suc (suc (suc (suc (suc (suc (suc (suc zero))))))))) l h = refl
not-zero (suc (suc (suc (suc (suc (suc (suc (suc (suc (suc n)))))))))) l h = absurd (omega arith)

abbrev Digit : ℕ → Type 0
Digit b = digit_byte b ≡ true

digits-all : (f n : ℕ) (xs : List ℕ) → All Digit xs → All Digit (digits f n xs)
digits-all =
    by_digits (λ f n xs. All Digit xs → All Digit (digits f n xs))
    (λ n xs a. unfold digits in a)
    (λ f n xs h a. subst (All Digit) (sym (one-digit n f xs h)) (digit-byte n h, a))
    (λ f n xs h r a. subst (All Digit) (sym (more-digits n f xs h)) (r (digit-byte (n % 10) (omega arith), a)))

-- At most four of them below 10,000.
abbrev tens : ℕ → ℕ
tens zero = 1
tens (suc k) = 10 * tens k

digits-few : (f n : ℕ) (xs : List ℕ) → (k : ℕ) → n < tens (suc k) → length (digits f n xs) ≤ suc k + length xs
digits-few =
    by_digits (λ f n xs. (k : ℕ) → n < tens (suc k) → length (digits f n xs) ≤ suc k + length xs)
    (λ n xs k h. unfold digits in omega arith)
    (λ f n xs l k h. omega (arith, ap length (one-digit n f xs l)))
    (λ f n xs l r. λ k. elim k as (λ j. n < tens (suc j) → length (digits (suc f) n xs) ≤ suc j + length xs) [ zero ↦ λ h. absurd (omega arith) | suc k ↦ λ h. omega (arith, ap length (more-digits n f xs l), r k (omega arith)) ])

-- The longest front of bytes that pass a test.
longest-front : (such : ℕ → Bool) (xs rest : List ℕ) → All (λ b. such b ≡ true) xs → longest such rest ≡ [] → longest such (xs ++ rest) ≡ xs
unfolding longest
longest-front such [] rest a e = e
longest-front such (x ∷ xs) rest a e = rw (a.0, longest) (ap {B = List ℕ} (x ∷◌) (longest-front such xs rest a.1 e))

or-true : (a b : Bool) → b ≡ true → (a || b) ≡ true
or-true true b e = refl
or-true false b e = e

pub decimal-word : (n : ℕ) (rest : List ℕ) → n < 4096 → longest word_byte rest ≡ [] → take 15 (longest word_byte (decimal n rest)) ≡ decimal n []
unfolding decimal word_byte
decimal-word n rest h e =
    ap (λ x. take 15 (longest word_byte x)) (decimal-append n rest)
    ∙ ap (take 15)
    (longest-front word_byte (decimal n []) rest (all-weaken Digit (λ b. word_byte b ≡ true) (λ b d. or-true (is_class letter b) (digit_byte b) d) (decimal n []) (digits-all (suc n) n [] tt)) e)
    ∙ take_all 15 (decimal n []) (omega (arith, digits-few (suc n) n [] 3 (omega arith)))

-- The number in front.
numeral-digits : (f n : ℕ) (xs : List ℕ) → 1 ≤ n → n < f → numeral (digits f n xs) ≡ digits f n (longest digit_byte xs)
unfolding numeral longest
numeral-digits =
    by_digits (λ f n xs. 1 ≤ n → n < f → numeral (digits f n xs) ≡ digits f n (longest digit_byte xs))
    (λ n xs l h. absurd (omega arith))
    (λ f n xs h l m. rw (one-digit n f xs h, one-digit n f (longest digit_byte xs) h) (rw (not-zero n l h, numeral) (rw (digit-byte n h, longest))))
    (λ f n xs h r l m.
    ap numeral (more-digits n f xs h)
    ∙ r (omega arith) (omega arith)
    ∙ ap (digits f (n / 10)) (rw (digit-byte (n % 10) (omega arith), longest))
    ∙ sym (more-digits n f (longest digit_byte xs) h))

pub numeral-decimal : (n : ℕ) (rest : List ℕ) → longest digit_byte rest ≡ [] → numeral (decimal n rest) ≡ decimal n []
unfolding decimal digits numeral is_class class_of class_in ranges
numeral-decimal zero rest e = refl
numeral-decimal (suc n) rest e = numeral-digits (suc (suc n)) (suc n) rest (omega arith) (omega arith) ∙ ap (digits (suc (suc n)) (suc n)) e

-- There is a first one.
digits-first : (f n : ℕ) (xs : List ℕ) → 1 ≤ f + length xs → (b : ℕ) × (bs : List ℕ) × (digits f n xs ≡ b ∷ bs)
digits-first =
    by_digits (λ f n xs. 1 ≤ f + length xs → (b : ℕ) × (bs : List ℕ) × (digits f n xs ≡ b ∷ bs))
    (λ n xs. elim xs as (λ ys. 1 ≤ 0 + length ys → (b : ℕ) × (bs : List ℕ) × (digits 0 n ys ≡ b ∷ bs)) [ [] ↦ λ h. absurd (omega arith) | x ∷ xs ↦ λ h. (x, xs, (unfold digits in refl)) ])
    (λ f n xs l h. (48 + n, xs, one-digit n f xs l))
    (λ f n xs l r h. let s = r (omega arith) in (s.0, s.1, more-digits n f xs l ∙ s.2))

-- The bytes of a token are passed over.
skip-tokens : (xs rest : List ℕ) → tokens (length xs) (xs ++ rest) ≡ tokens 0 rest
unfolding tokens
skip-tokens [] rest = refl
skip-tokens (x ∷ xs) rest = skip-tokens xs rest

skip-after : (b : ℕ) (xs rest : List ℕ) → tokens (length (b ∷ xs) - 1) (xs ++ rest) ≡ tokens 0 rest
skip-after b xs rest = ap (λ k. tokens k (xs ++ rest)) (omega arith) ∙ skip-tokens xs rest

-- Written tokens.
abbrev pub name_token : ℕ → List ℕ → Token
name_token n rest = token name (name_text n []) (length (name_text n rest))

abbrev pub var_token : ℕ → List ℕ → Token
var_token v rest = token variable (95 ∷ decimal v []) (length (95 ∷ decimal v rest))

pub scan-name : (n : ℕ) (rest : List ℕ) → n < 4096 → longest word_byte rest ≡ [] → tokens 0 (name_text n rest) ≡ name_token n rest ∷ tokens 0 rest
unfolding tokens token_from name_text is_class class_of class_in ranges
scan-name n rest h e =
    let left = length (115 ∷ decimal n rest) in
    ap (λ x. token name (115 ∷ x) left ∷ tokens (length (115 ∷ x) - 1) (decimal n rest)) (decimal-word n rest h e)
    ∙ ap {B = List Token} (token name (115 ∷ decimal n []) left ∷◌) (ap (tokens (length (115 ∷ decimal n []) - 1)) (decimal-append n rest) ∙ skip-after 115 (decimal n []) rest)

variable-token : (v : ℕ) (left : ℕ) → v ≤ 1023 → variable_token 95 (decimal v []) left ≡ token variable (95 ∷ decimal v []) left
unfolding variable_token at_most decimal
variable-token v left h =
    let f = digits-first (suc v) v [] (omega arith) in
    let e : value 0 (f.0 ∷ f.1) ≡ v = ap (value 0) (sym f.2) ∙ value-decimal v in
    rw f.2 (rw (e, at_most) (rw (le-leb v 1023 h, at_most)))

pub scan-variable : (v : ℕ) (rest : List ℕ) → v ≤ 1023 → longest digit_byte rest ≡ [] → tokens 0 (95 ∷ decimal v rest) ≡ var_token v rest ∷ tokens 0 rest
unfolding tokens token_from is_class class_of class_in ranges
scan-variable v rest h e =
    let left = length (95 ∷ decimal v rest) in
    ap (λ (t : Token). t ∷ tokens (length t.bytes - 1) (decimal v rest)) (ap (λ x. variable_token 95 x left) (numeral-decimal v rest e) ∙ variable-token v left h)
    ∙ ap {B = List Token} (var_token v rest ∷◌) (ap (tokens (length (95 ∷ decimal v []) - 1)) (decimal-append v rest) ∙ skip-after 95 (decimal v []) rest)

-- A token from a digit on is a number.
digit-scanned :
    (n : ℕ) → n < 10 → (bs : List ℕ)
    → (is_class space (48 + n) ≡ false) × (eqb (48 + n) 45 ≡ false) × (token_from (class_of (48 + n)) (48 + n) bs ≡ number_token (numeral ((48 + n) ∷ bs)) (length ((48 + n) ∷ bs)))
unfolding token_from is_class class_of class_in ranges
digit-scanned zero h bs = (refl, refl, refl)
digit-scanned (suc zero) h bs = (refl, refl, refl)
digit-scanned (suc (suc zero)) h bs = (refl, refl, refl)
digit-scanned (suc (suc (suc zero))) h bs = (refl, refl, refl)
digit-scanned (suc (suc (suc (suc zero)))) h bs = (refl, refl, refl)
digit-scanned (suc (suc (suc (suc (suc zero))))) h bs = (refl, refl, refl)
digit-scanned (suc (suc (suc (suc (suc (suc zero)))))) h bs = (refl, refl, refl)
digit-scanned (suc (suc (suc (suc (suc (suc (suc zero))))))) h bs = (refl, refl, refl)
digit-scanned (suc (suc (suc (suc (suc (suc (suc (suc zero)))))))) h bs = (refl, refl, refl)
digit-scanned (suc (suc (suc (suc (suc (suc (suc (suc (suc zero))))))))) h bs = (refl, refl, refl)
digit-scanned (suc (suc (suc (suc (suc (suc (suc (suc (suc (suc n)))))))))) h bs = absurd (omega arith)

-- A decimal number begins with one.
abbrev DigitFirst : List ℕ → Type 0
DigitFirst [] = ⊥
DigitFirst (b ∷ bs) = (d : ℕ) × (d < 10) × (b ≡ 48 + d)

digits-begin : (f n : ℕ) (xs : List ℕ) → (f ≡ 0 → DigitFirst xs) → DigitFirst (digits f n xs)
digits-begin =
    by_digits (λ f n xs. (f ≡ 0 → DigitFirst xs) → DigitFirst (digits f n xs))
    (λ n xs h. unfold digits in h refl)
    (λ f n xs l h. subst DigitFirst (sym (one-digit n f xs l)) (n, l, refl))
    (λ f n xs l r h. subst DigitFirst (sym (more-digits n f xs l)) (r (λ e. (n % 10, omega arith, refl))))

decimal-first : (n : ℕ) → (d : ℕ) × (zs : List ℕ) × (d < 10) × (decimal n [] ≡ (48 + d) ∷ zs)
unfolding decimal
decimal-first n = go (decimal n []) refl (digits-begin (suc n) n [] (λ e. absurd (omega (arith, e))))
  where
    go : (xs : List ℕ) → decimal n [] ≡ xs → DigitFirst xs → (d : ℕ) × (zs : List ℕ) × (d < 10) × (decimal n [] ≡ (48 + d) ∷ zs)
    go [] e h = absurd h
    go (b ∷ bs) e h = (h.0, bs, h.1, e ∙ ap {B = List ℕ} (◌∷ bs) h.2)

scan-step : (b : ℕ) (bs : List ℕ) (t : Token) → is_class space b ≡ false → token_from (class_of b) b bs ≡ t → tokens 0 (b ∷ bs) ≡ t ∷ tokens (length t.bytes - 1) bs
unfolding tokens
scan-step b bs t s e = rw (s, tokens) (ap (λ (u : Token). u ∷ tokens (length u.bytes - 1) bs) e)

number-token : (n left : ℕ) → number_token (decimal n []) left ≡ token (number_kind n) (decimal n []) left
unfolding number_token
number-token n left = ap (λ k. token (number_kind k) (decimal n []) left) (value-decimal n)

-- A number, whatever its value.
pub scan-number :
    (n : ℕ) (rest : List ℕ) → longest digit_byte rest ≡ []
    → tokens 0 (decimal n rest) ≡ token (number_kind n) (decimal n []) (length (decimal n rest)) ∷ tokens 0 rest
scan-number n rest e =
    let f = decimal-first n in
    let b = 48 + f.0 in
    let bs = f.1 ++ rest in
    let whole : decimal n rest ≡ b ∷ bs = decimal-append n rest ∙ ap (◌++ rest) f.3 in
    let s = digit-scanned f.0 f.2 bs in
    let t = token (number_kind n) (decimal n []) (length (decimal n rest)) in
    let q : token_from (class_of b) b bs ≡ t =
    s.2 ∙ ap (λ xs. number_token (numeral xs) (length xs)) (sym whole) ∙ ap (λ ds. number_token ds (length (decimal n rest))) (numeral-decimal n rest e)
    ∙ number-token n (length (decimal n rest)) in
    ap (tokens 0) whole ∙ scan-step b bs t s.0 q ∙ ap {B = List Token} (t ∷◌) (ap (λ xs. tokens (length xs - 1) bs) f.3 ∙ skip-after b f.1 rest)

-- An arity.
pub arity-kind : (k : ℕ) → k ≤ 15 → number_kind k ≡ number
unfolding number_kind
arity-kind k h = rw (le-leb k 15 h, number_kind) refl

pub scan-arity :
    (k : ℕ) (rest : List ℕ) → k ≤ 15
    → tokens 0 (decimal k (46 ∷ rest)) ≡ token number (decimal k []) (length (decimal k (46 ∷ rest))) ∷ tokens 0 (46 ∷ rest)
unfolding longest digit_byte is_class class_of class_in ranges
scan-arity k rest h =
    scan-number k (46 ∷ rest) refl
    ∙ ap {B = List Token} (λ x. token x (decimal k []) (length (decimal k (46 ∷ rest))) ∷ tokens 0 (46 ∷ rest)) (arity-kind k h)

-- A value, by its word.
unfoldable pub value_kind : ℕ → Kind
value_kind w = elim (ltb w 32768) [ true ↦ number_kind w | false ↦ negative_kind (65536 - w) ]

abbrev pub value_token : ℕ → List ℕ → Token
value_token w rest = token (value_kind w) (value_text w []) (length (value_text w rest))

-- What is said of numbers from 0 on, and of negative ones, is said of all.
small-kind : (w : ℕ) → ltb w 32768 ≡ true → value_kind w ≡ number_kind w
unfolding value_kind
small-kind w q = rw (q, value_kind) refl

small-text : (w : ℕ) (rest : List ℕ) → ltb w 32768 ≡ true → value_text w rest ≡ decimal w rest
unfolding value_text
small-text w rest q = rw (q, value_text) refl

negative-is : (w : ℕ) → ltb w 32768 ≡ false → value_kind w ≡ negative_kind (65536 - w)
unfolding value_kind
negative-is w q = rw (q, value_kind) refl

negative-text : (w : ℕ) (rest : List ℕ) → ltb w 32768 ≡ false → value_text w rest ≡ 45 ∷ decimal (65536 - w) rest
unfolding value_text
negative-text w rest q = rw (q, value_text) refl

negative-token : (m left : ℕ) → negative_token 45 (decimal m []) left ≡ token (negative_kind m) (45 ∷ decimal m []) left
unfolding negative_token decimal
negative-token m left =
    let f = digits-first (suc m) m [] (omega arith) in
    let e : value 0 (f.0 ∷ f.1) ≡ m = ap (value 0) (sym f.2) ∙ value-decimal m in
    rw f.2 (ap (λ k. token (negative_kind k) (45 ∷ f.0 ∷ f.1) left) e)

scan-negative :
    (m : ℕ) (rest : List ℕ) → longest digit_byte rest ≡ []
    → tokens 0 (45 ∷ decimal m rest) ≡ token (negative_kind m) (45 ∷ decimal m []) (length (45 ∷ decimal m rest)) ∷ tokens 0 rest
unfolding tokens token_from is_class class_of class_in ranges
scan-negative m rest e =
    let left = length (45 ∷ decimal m rest) in
    ap (λ (t : Token). t ∷ tokens (length t.bytes - 1) (decimal m rest)) (ap (λ x. negative_token 45 x left) (numeral-decimal m rest e) ∙ negative-token m left)
    ∙ ap {B = List Token} (token (negative_kind m) (45 ∷ decimal m []) left ∷◌) (ap (tokens (length (45 ∷ decimal m []) - 1)) (decimal-append m rest) ∙ skip-after 45 (decimal m []) rest)

pub scan-value : (w : ℕ) (rest : List ℕ) → longest digit_byte rest ≡ [] → tokens 0 (value_text w rest) ≡ value_token w rest ∷ tokens 0 rest
scan-value w rest e = go (ltb w 32768) refl
  where
    Scans : Kind → List ℕ → List ℕ → Type 0
    Scans k bs all = tokens 0 all ≡ token k bs (length all) ∷ tokens 0 rest

    go : (b : Bool) → ltb w 32768 ≡ b → tokens 0 (value_text w rest) ≡ value_token w rest ∷ tokens 0 rest
    go true q =
        subst (λ k. Scans k (value_text w []) (value_text w rest)) (sym (small-kind w q))
        (subst (λ bs. Scans (number_kind w) bs (value_text w rest)) (sym (small-text w [] q))
        (subst (Scans (number_kind w) (decimal w [])) (sym (small-text w rest q)) (scan-number w rest e)))
    go false q =
        let m = 65536 - w in
        subst (λ k. Scans k (value_text w []) (value_text w rest)) (sym (negative-is w q))
        (subst (λ bs. Scans (negative_kind m) bs (value_text w rest)) (sym (negative-text w [] q))
        (subst (Scans (negative_kind m) (45 ∷ decimal m [])) (sym (negative-text w rest q)) (scan-negative m rest e)))

abbrev IsValue : Kind → Type 0
IsValue k = (bs : List ℕ) (left : ℕ) → is_value (token k bs left) ≡ true

number-value : IsValue number
unfolding is_value
number-value bs left = refl

amount-value : IsValue amount
unfolding is_value
amount-value bs left = refl

at-most-value : (most n : ℕ) → n ≤ most → IsValue (at_most most amount n)
unfolding at_most
at-most-value most n h = subst IsValue (sym (rw (le-leb n most h, at_most) refl)) amount-value

number-or-amount : (w : ℕ) → w ≤ 32767 → IsValue (number_kind w)
unfolding number_kind
number-or-amount w h = go (leb w 15) refl
  where
    go : (b : Bool) → leb w 15 ≡ b → IsValue (number_kind w)
    go true q = subst IsValue (sym (rw (q, number_kind) refl)) number-value
    go false q = subst IsValue (sym (rw (q, number_kind) refl)) (at-most-value 32767 w h)

negative-amount : (m : ℕ) → 1 ≤ m → m ≤ 32768 → IsValue (negative_kind m)
unfolding negative_kind
negative-amount m l h = subst IsValue (sym (rw (le-leb 1 m l, negative_kind) refl)) (at-most-value 32768 m h)

pub value-stands : (w : ℕ) (rest : List ℕ) → w < 65536 → is_value (value_token w rest) ≡ true
value-stands w rest h = go (ltb w 32768) refl (value_text w []) (length (value_text w rest))
  where
    go : (b : Bool) → ltb w 32768 ≡ b → IsValue (value_kind w)
    go true q = subst IsValue (sym (small-kind w q)) (number-or-amount w (omega (arith, ltb-true w 32768 q)))
    go false q = subst IsValue (sym (negative-is w q)) (negative-amount (65536 - w) (omega arith) (omega (arith, ltb-false w 32768 q)))

word-of : (b : ℕ) (bs : List ℕ) → eqb b 45 ≡ false → value_word (b ∷ bs) ≡ value 0 (b ∷ bs)
unfolding value_word
word-of b bs e = rw (e, value_word) refl

pub value-read : (w : ℕ) → w < 65536 → value_word (value_text w []) ≡ w
unfolding value_word
value-read w h = go (ltb w 32768) refl
  where
    go : (b : Bool) → ltb w 32768 ≡ b → value_word (value_text w []) ≡ w
    go true q =
        let f = decimal-first w in
        let s = digit-scanned f.0 f.2 [] in
        ap value_word (small-text w [] q ∙ f.3) ∙ word-of (48 + f.0) f.1 s.1 ∙ ap (value 0) (sym f.3) ∙ value-decimal w
    go false q = ap value_word (negative-text w [] q) ∙ ap (65536 -◌) (value-decimal (65536 - w)) ∙ omega (arith, ltb-false w 32768 q)

-- Names are told apart.
same_refl : (xs : List ℕ) → same_bytes xs xs ≡ true
unfolding same_bytes
same_refl [] = refl
same_refl (x ∷ xs) = (and-eq-true_iff (eqb x x) (same_bytes xs xs)).1 (eq-eqb x x refl, same_refl xs)

pub same_bytes_lem : (xs ys : List ℕ) → same_bytes xs ys ≡ true → xs ≡ ys
unfolding same_bytes
same_bytes_lem [] [] e = refl
same_bytes_lem [] (y ∷ ys) e = cc
same_bytes_lem (x ∷ xs) [] e = cc
same_bytes_lem (x ∷ xs) (y ∷ ys) e =
    let b = (and-eq-true_iff (eqb x y) (same_bytes xs ys)).0 e in
    ap₂ ◌∷◌ (eqb-true x y b.0) (same_bytes_lem xs ys b.1)

pub same_name : (n : ℕ) → same_bytes (name_text n []) (name_text n []) ≡ true
same_name n = same_refl (name_text n [])

pub other_name : (n m : ℕ) → (n ≡ m → ⊥) → same_bytes (name_text n []) (name_text m []) ≡ false
unfolding name_text
other_name n m h = go (same_bytes (name_text n []) (name_text m [])) refl
  where
    go : (b : Bool) → same_bytes (name_text n []) (name_text m []) ≡ b → same_bytes (name_text n []) (name_text m []) ≡ false
    go false e = e
    go true e =
        let q : name_text n [] ≡ name_text m [] = same_bytes_lem (name_text n []) (name_text m []) e in
        absurd (h (sym (value-decimal n) ∙ ap (λ x. value 0 (drop 1 x)) q ∙ value-decimal m))
