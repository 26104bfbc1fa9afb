-- Brackets and commas by bytes and by tokens.
use Prim.Native.Nat.{ℕ, zero, suc, ◌+◌, ◌-◌, ◌≤◌, ◌<◌}
use mathlib.Core.Path.{◌≡◌, refl, ap, ap₂, sym, ◌∙◌, subst}
use mathlib.Core.Bool.{Bool, true, false, not, ◌&&◌, ◌||◌, and-eq-true_iff}
use mathlib.Core.List.{List, [], ◌∷◌}
use native.Mathlib.Omega.{arith}
use native.Mathlib.Decide.{dec_lt}
use lib.ListN.{length, take, drop, get_or, drop_of_length-le}
use lib.Seq.{drop-cons}
use native.Mathlib.Numerals.{add-one}
use lib.Dec.{leb, eqb}
use borrow.Author.Tests.{eq-eqb, ne_eqb, eqb-true, le-leb, lt-leb}
use Rattle.text_rules.specs.TextTokens.{Kind, name, number, amount, variable, implies, invalid, opening, closing, comma, kind_number, Class, no_class, space, letter, zero_digit, digit, underscore, colon, minus, mark, class_number, class_in, Range, range, ranges, class_of, is_class, digit_byte, word_byte, longest, numeral, value, Token, token, at_most, number_kind, negative_kind, number_token, negative_token, variable_token, implies_token, token_from, end_token, tokens}
use Rattle.text_rules.specs.TextGrammar.{is}
use Rattle.text_rules.specs.TextWords.{commas}
use Rattle.uses.specs.Pairs.{mark_of, in_brackets}
use Rattle.uses.proofs.CommaLaws.{same_as, commas-other, brackets-other}

abbrev pub mark_token : ℕ → Token
mark_token b = token (mark_of b) [] 0

abbrev pub marks : List ℕ → List Token
marks [] = end_token ∷ []
marks (b ∷ bs) = mark_token b ∷ marks bs

-- From one byte to the next, and at the end.
pub marks-next : (bs : List ℕ) (i : ℕ) → i < length bs → marks (drop i bs) ≡ mark_token (get_or bs i 0) ∷ marks (drop (i + 1) bs)
marks-next bs i h = ap marks (drop-cons bs i 0 h) ∙ ap (λ k. mark_token (get_or bs i 0) ∷ marks (drop k bs)) (sym (add-one i))

pub marks-end : (bs : List ℕ) (i : ℕ) → length bs ≤ i → marks (drop i bs) ≡ end_token ∷ []
marks-end bs i h = ap marks (drop_of_length-le bs h)

-- Two kinds are alike where both are none of the three, or the same.
record Alike (k l : Kind) : Type 0 where
  opens : eqb 8 (kind_number k) ≡ eqb 8 (kind_number l)
  closes : eqb 9 (kind_number k) ≡ eqb 9 (kind_number l)
  parts : eqb 10 (kind_number k) ≡ eqb 10 (kind_number l)

-- A byte of another class is no mark.
abbrev Other : ℕ → Type 0
Other b = mark_of b ≡ invalid

class-bracket : (b n c : ℕ) → class_number (class_of n) ≡ c → (class_number (class_of b) ≡ c → ⊥) → eqb b n ≡ false
class-bracket b n c e f = ne_eqb b n (λ q. f (ap (λ x. class_number (class_of x)) q ∙ e))

other_byte : (b : ℕ) → (class_number (class_of b) ≡ 24 → ⊥) → (class_number (class_of b) ≡ 25 → ⊥) → (class_number (class_of b) ≡ 26 → ⊥) → Other b
unfolding class_of class_in ranges
other_byte b f g h = rw (class-bracket b 40 24 refl f, class-bracket b 41 25 refl g, class-bracket b 44 26 refl h, mark_of)

-- Bytes above 127 belong to no class.
abbrev Below : ℕ → List Range → Type 0
Below b [] = Unit {0}
Below b (range first last c ∷ rs) = (last < b) × Below b rs

no-class : (b : ℕ) (rs : List Range) → Below b rs → class_in rs b ≡ no_class
unfolding class_in
no-class b [] h = refl
no-class b (range first last c ∷ rs) h = rw (lt-leb b last h.0, and-false (leb first b), class_in) (no-class b rs h.1)
  where
    and-false : (a : Bool) → (a && false) ≡ false
    and-false true = refl
    and-false false = refl

not-in-table : (b : ℕ) → 128 ≤ b → class_number (class_of b) ≡ 0
unfolding class_of ranges
not-in-table b h = ap class_number (no-class b ranges (omega arith))

-- A test that passes at each number below n.
abbrev every : (ℕ → Bool) → ℕ → Bool
every f zero = true
every f (suc n) = f n && every f n

at_each : (f : ℕ → Bool) (n : ℕ) → every f n ≡ true → (k : ℕ) → k < n → f k ≡ true
at_each f zero e k h = absurd (omega arith)
at_each f (suc n) e k h = go (dec_lt k n) (at_each f n ((and-eq-true_iff (f n) (every f n)).0 e).1 k)
  where
    go : Dec (k < n) → (k < n → f k ≡ true) → f k ≡ true
    go (yes l) r = r l
    go (no l) r = let q : k ≡ n = omega arith in rw q ((and-eq-true_iff (f n) (every f n)).0 e).0

-- A mark's kind is that of its byte.
abbrev same : Bool → Bool → Bool
same true b = b
same false b = not b

same-is : (a b : Bool) → same a b ≡ true → a ≡ b
same-is true true e = refl
same-is true false e = cc
same-is false true e = cc
same-is false false e = refl

abbrev rule : ℕ → Bool
rule b =
    let k = class_number (class_of b) - 16 in
    let m = kind_number (mark_of b) in
    not (leb 16 (class_number (class_of b))) || (same (eqb 8 k) (eqb 8 m) && (same (eqb 9 k) (eqb 9 m) && same (eqb 10 k) (eqb 10 m)))

rule-holds : every rule 128 ≡ true
unfolding class_of class_in ranges
rule-holds = refl

or_right : (a b : Bool) → (not a || b) ≡ true → a ≡ true → b ≡ true
or_right true b e f = e
or_right false b e f = cc

mark-alike : (b : ℕ) (k : Kind) → class_of b ≡ mark k → Alike (mark_of b) k
mark-alike b k e = go (dec_lt b 128)
  where
    class : class_number (class_of b) ≡ 16 + kind_number k
    class = ap class_number e

    kind : class_number (class_of b) - 16 ≡ kind_number k
    kind = omega (arith, class)

    go : Dec (b < 128) → Alike (mark_of b) k
    go (no f) = absurd (omega (arith, class, not-in-table b (omega arith)))
    go (yes l) =
        let r = or_right (leb 16 (class_number (class_of b))) _ (at_each rule 128 rule-holds b l) (le-leb 16 (class_number (class_of b)) (omega (arith, class))) in
        let p = (and-eq-true_iff _ _).0 r in
        let q = (and-eq-true_iff _ _).0 p.1 in
        record {
          opens = sym (ap (eqb 8) (sym kind) ∙ same-is _ _ p.0);
          closes = sym (ap (eqb 9) (sym kind) ∙ same-is _ _ q.0);
          parts = sym (ap (eqb 10) (sym kind) ∙ same-is _ _ q.1);
        }

-- Kinds that are no brackets and no commas.
abbrev NoMark : Kind → Type 0
NoMark k = (kind_number k ≡ 8 → ⊥) × (kind_number k ≡ 9 → ⊥) × (kind_number k ≡ 10 → ⊥)

small-alike : (k l : Kind) → NoMark k → NoMark l → Alike k l
small-alike k l p q =
    record {
      opens = ne_eqb 8 (kind_number k) (λ e. p.0 (sym e)) ∙ sym (ne_eqb 8 (kind_number l) (λ e. q.0 (sym e)));
      closes = ne_eqb 9 (kind_number k) (λ e. p.1 (sym e)) ∙ sym (ne_eqb 9 (kind_number l) (λ e. q.1 (sym e)));
      parts = ne_eqb 10 (kind_number k) (λ e. p.2 (sym e)) ∙ sym (ne_eqb 10 (kind_number l) (λ e. q.2 (sym e)));
    }

no-mark : (k : Kind) → kind_number k < 8 → NoMark k
no-mark k h = (λ e. omega arith, λ e. omega arith, λ e. omega arith)

-- Bytes inside a token are no marks.
abbrev Plain : ℕ → List ℕ → Type 0
Plain zero bs = Unit {0}
Plain (suc n) [] = Unit {0}
Plain (suc n) (b ∷ bs) = Other b × Plain n bs

low-class : (b : ℕ) (c : Class) → class_of b ≡ c → class_number c < 16 → Other b
low-class b c e l = other_byte b (λ q. omega (arith, ap class_number e)) (λ q. omega (arith, ap class_number e)) (λ q. omega (arith, ap class_number e))

digit-other : (b : ℕ) → digit_byte b ≡ true → Other b
unfolding digit_byte is_class
digit-other b e = other_byte b (λ q. no 24 q refl) (λ q. no 25 q refl) (λ q. no 26 q refl)
  where
    no : (n : ℕ) → class_number (class_of b) ≡ n → (eqb n 3 || eqb n 4) ≡ false → ⊥
    no n q f = let g = subst (λ c. (eqb c 3 || eqb c 4) ≡ true) q e in cc

word-other : (b : ℕ) → word_byte b ≡ true → Other b
unfolding word_byte digit_byte is_class
word-other b e = other_byte b (λ q. no 24 q refl) (λ q. no 25 q refl) (λ q. no 26 q refl)
  where
    no : (n : ℕ) → class_number (class_of b) ≡ n → (eqb n 2 || (eqb n 3 || eqb n 4)) ≡ false → ⊥
    no n q f = let g = subst (λ c. (eqb c 2 || (eqb c 3 || eqb c 4)) ≡ true) q e in cc

space-other : (b : ℕ) → is_class space b ≡ true → Other b
unfolding is_class
space-other b e =
    let c : class_number (class_of b) ≡ 1 = eqb-true (class_number (class_of b)) 1 e in
    other_byte b (λ q. omega arith) (λ q. omega arith) (λ q. omega arith)

plain-longest : (such : ℕ → Bool) → ((b : ℕ) → such b ≡ true → Other b) → (n : ℕ) (bs : List ℕ) → Plain (length (take n (longest such bs))) bs
unfolding longest
plain-longest such h zero bs = tt
plain-longest such h (suc n) [] = tt
plain-longest such h (suc n) (b ∷ bs) = go (such b) refl (plain-longest such h n bs)
  where
    go : (x : Bool) → such b ≡ x → Plain (length (take n (longest such bs))) bs → Plain (length (take (suc n) (longest such (b ∷ bs)))) (b ∷ bs)
    go true q r = rw (q, longest) (h b q, r)
    go false q r = rw (q, longest) tt

plain-digits : (bs : List ℕ) → Plain (length (longest digit_byte bs)) bs
unfolding longest
plain-digits [] = tt
plain-digits (b ∷ bs) = go (digit_byte b) refl (plain-digits bs)
  where
    go : (x : Bool) → digit_byte b ≡ x → Plain (length (longest digit_byte bs)) bs → Plain (length (longest digit_byte (b ∷ bs))) (b ∷ bs)
    go true q r = rw (q, longest) (digit-other b q, r)
    go false q r = rw (q, longest) tt

plain-numeral : (bs : List ℕ) → Plain (length (numeral bs)) bs
unfolding numeral is_class
plain-numeral [] = tt
plain-numeral (b ∷ bs) = go (is_class zero_digit b) refl
  where
    go : (x : Bool) → is_class zero_digit b ≡ x → Plain (length (numeral (b ∷ bs))) (b ∷ bs)
    go true q =
        let c : class_number (class_of b) ≡ 3 = eqb-true (class_number (class_of b)) 3 q in
        rw (q, numeral) (other_byte b (λ e. omega arith) (λ e. omega arith) (λ e. omega arith), tt)
    go false q = rw (q, numeral) (plain-digits (b ∷ bs))

after_first : (n : ℕ) (b : ℕ) (bs : List ℕ) → Plain n (b ∷ bs) → Plain (n - 1) bs
after_first zero b bs p = tt
after_first (suc n) b bs p = let z : suc n - 1 ≡ n = omega arith in rw z p.1

-- The token that begins with a byte.
record TokenLike (b : ℕ) (bs : List ℕ) (t : Token) : Type 0 where
  alike : Alike (mark_of b) t.kind
  plain : Plain (length t.bytes - 1) bs

one_byte : (b : ℕ) (bs : List ℕ) (k : Kind) (left : ℕ) → Alike (mark_of b) k → TokenLike b bs (token k (b ∷ []) left)
one_byte b bs k left a = record { alike = a; plain = tt }

at-most : (most : ℕ) (k : Kind) (n : ℕ) → NoMark k → NoMark (at_most most k n)
unfolding at_most
at-most most k n h = go (leb n most) refl
  where
    go : (x : Bool) → leb n most ≡ x → NoMark (at_most most k n)
    go true q = rw (q, at_most) h
    go false q = rw (q, at_most) (no-mark invalid (omega arith))

number-no-mark : (n : ℕ) → NoMark (number_kind n)
unfolding number_kind
number-no-mark n = go (leb n 15) refl
  where
    go : (x : Bool) → leb n 15 ≡ x → NoMark (number_kind n)
    go true q = let e : number_kind n ≡ number = rw (q, number_kind) refl in subst NoMark (sym e) (no-mark number (omega arith))
    go false q = let e : number_kind n ≡ at_most 32767 amount n = rw (q, number_kind) refl in subst NoMark (sym e) (at-most 32767 amount n (λ e. omega arith, λ e. omega arith, λ e. omega arith))

negative-no-mark : (n : ℕ) → NoMark (negative_kind n)
unfolding negative_kind
negative-no-mark n = go (leb 1 n) refl
  where
    go : (x : Bool) → leb 1 n ≡ x → NoMark (negative_kind n)
    go true q = let e : negative_kind n ≡ at_most 32768 amount n = rw (q, negative_kind) refl in subst NoMark (sym e) (at-most 32768 amount n (λ e. omega arith, λ e. omega arith, λ e. omega arith))
    go false q = let e : negative_kind n ≡ invalid = rw (q, negative_kind) refl in subst NoMark (sym e) (no-mark invalid (omega arith))

module _ (b : ℕ) (bs : List ℕ) (o : Other b) where
  low : (k : Kind) → NoMark k → Alike (mark_of b) k
  low k h = small-alike (mark_of b) k (no-mark (mark_of b) (omega (arith, ap kind_number o))) h

  number-like : TokenLike b bs (number_token (numeral (b ∷ bs)) (length (b ∷ bs)))
  unfolding number_token
  number-like =
      record {
        alike = low (number_kind (value 0 (numeral (b ∷ bs)))) (number-no-mark (value 0 (numeral (b ∷ bs))));
        plain = after_first (length (numeral (b ∷ bs))) b bs (plain-numeral (b ∷ bs));
      }

  -- The first byte and digits after it.
  signed-like : (k : Kind) (d : ℕ) (ds : List ℕ) → NoMark k → Plain (length (d ∷ ds)) bs → TokenLike b bs (token k (b ∷ d ∷ ds) (length (b ∷ bs)))
  signed-like k d ds h p = let z : length (b ∷ d ∷ ds) - 1 ≡ length (d ∷ ds) = omega arith in record { alike = low k h; plain = subst (λ n. Plain n bs) (sym z) p }

  variable-like : (ds : List ℕ) → Plain (length ds) bs → TokenLike b bs (variable_token b ds (length (b ∷ bs)))
  unfolding variable_token
  variable-like [] p = one_byte b bs invalid (length (b ∷ bs)) (low invalid (no-mark invalid (omega arith)))
  variable-like (d ∷ ds) p = signed-like (at_most 1023 variable (value 0 (d ∷ ds))) d ds (at-most 1023 variable (value 0 (d ∷ ds)) (no-mark variable (omega arith))) p

  negative-like : (ds : List ℕ) → Plain (length ds) bs → TokenLike b bs (negative_token b ds (length (b ∷ bs)))
  unfolding negative_token
  negative-like [] p = one_byte b bs invalid (length (b ∷ bs)) (low invalid (no-mark invalid (omega arith)))
  negative-like (d ∷ ds) p = signed-like (negative_kind (value 0 (d ∷ ds))) d ds (negative-no-mark (value 0 (d ∷ ds))) p

implies-like : (b : ℕ) (bs : List ℕ) → Other b → TokenLike b bs (implies_token b bs (length (b ∷ bs)))
unfolding implies_token is_class
implies-like b [] o = one_byte b [] invalid (length (b ∷ [])) (low b [] o invalid (no-mark invalid (omega arith)))
implies-like b (c ∷ bs) o = go (is_class minus c) refl
  where
    go : (x : Bool) → is_class minus c ≡ x → TokenLike b (c ∷ bs) (implies_token b (c ∷ bs) (length (b ∷ c ∷ bs)))
    go true q =
        let m : class_number (class_of c) ≡ 7 = eqb-true (class_number (class_of c)) 7 q in
        rw (q, implies_token)
        (record { alike = low b (c ∷ bs) o implies (no-mark implies (omega arith)); plain = (other_byte c (λ e. omega arith) (λ e. omega arith) (λ e. omega arith), tt) })
    go false q = rw (q, implies_token) (one_byte b (c ∷ bs) invalid (length (b ∷ c ∷ bs)) (low b (c ∷ bs) o invalid (no-mark invalid (omega arith))))

token-like : (b : ℕ) (bs : List ℕ) (c : Class) → class_of b ≡ c → TokenLike b bs (token_from c b bs)
unfolding token_from
token-like b bs letter e =
    let z : length (b ∷ take 15 (longest word_byte bs)) - 1 ≡ length (take 15 (longest word_byte bs)) = omega arith in
    record { alike = low b bs (low-class b letter e (omega arith)) name (no-mark name (omega arith)); plain = subst (λ n. Plain n bs) (sym z) (plain-longest word_byte word-other 15 bs) }
token-like b bs zero_digit e = number-like b bs (low-class b zero_digit e (omega arith))
token-like b bs digit e = number-like b bs (low-class b digit e (omega arith))
token-like b bs underscore e = variable-like b bs (low-class b underscore e (omega arith)) (numeral bs) (plain-numeral bs)
token-like b bs colon e = implies-like b bs (low-class b colon e (omega arith))
token-like b bs (mark k) e = one_byte b bs k (length (b ∷ bs)) (mark-alike b k e)
token-like b bs minus e = negative-like b bs (low-class b minus e (omega arith)) (numeral bs) (plain-numeral bs)
token-like b bs space e = one_byte b bs invalid (length (b ∷ bs)) (low b bs (low-class b space e (omega arith)) invalid (no-mark invalid (omega arith)))
token-like b bs no_class e = one_byte b bs invalid (length (b ∷ bs)) (low b bs (low-class b no_class e (omega arith)) invalid (no-mark invalid (omega arith)))

-- What is counted by bytes and by tokens.
record Agree (ts us : List Token) : Type 0 where
  numbers : in_brackets ts ≡ in_brackets us
  parts : (d : ℕ) → commas d ts ≡ commas d us

module _ (t u : Token) (ts us : List Token) (a : Alike t.kind u.kind) (g : Agree ts us) where
  commas-alike : (d : ℕ) → commas d (t ∷ ts) ≡ commas d (u ∷ us)
  unfolding commas
  commas-alike zero = go (eqb 8 (kind_number u.kind)) refl (eqb 9 (kind_number u.kind)) refl (eqb 10 (kind_number u.kind)) refl
    where
      go :
          (x : Bool) → eqb 8 (kind_number u.kind) ≡ x → (y : Bool) → eqb 9 (kind_number u.kind) ≡ y → (z : Bool) → eqb 10 (kind_number u.kind) ≡ z
          → commas 0 (t ∷ ts) ≡ commas 0 (u ∷ us)
      go true p y q z r = let p' = a.opens ∙ p in rw (p, p', commas) (g.parts 1)
      go false p true q z r = let p' = a.opens ∙ p in let q' = a.closes ∙ q in rw (p, p', q, q', commas) refl
      go false p false q true r =
          let p' = a.opens ∙ p in let q' = a.closes ∙ q in let r' = a.parts ∙ r in rw (p, p', q, q', r, r', commas) (ap suc (g.parts 0))
      go false p false q false r = let p' = a.opens ∙ p in let q' = a.closes ∙ q in let r' = a.parts ∙ r in rw (p, p', q, q', r, r', commas) (g.parts 0)
  commas-alike (suc d) = go (eqb 8 (kind_number u.kind)) refl (eqb 9 (kind_number u.kind)) refl
    where
      go : (x : Bool) → eqb 8 (kind_number u.kind) ≡ x → (y : Bool) → eqb 9 (kind_number u.kind) ≡ y → commas (suc d) (t ∷ ts) ≡ commas (suc d) (u ∷ us)
      go true p y q = let p' = a.opens ∙ p in rw (p, p', commas) (g.parts (suc (suc d)))
      go false p true q = let p' = a.opens ∙ p in let q' = a.closes ∙ q in rw (p, p', q, q', commas) (g.parts d)
      go false p false q = let p' = a.opens ∙ p in let q' = a.closes ∙ q in rw (p, p', q, q', commas) (g.parts (suc d))

  agree-more : Agree (t ∷ ts) (u ∷ us)
  unfolding in_brackets
  agree-more = record { numbers = go (eqb 8 (kind_number u.kind)) refl; parts = commas-alike }
    where
      go : (x : Bool) → eqb 8 (kind_number u.kind) ≡ x → in_brackets (t ∷ ts) ≡ in_brackets (u ∷ us)
      go true p = let p' = a.opens ∙ p in rw (p, p', in_brackets) (ap₂ (λ k (l : List ℕ). suc k ∷ l) (g.parts 0) g.numbers)
      go false p = let p' = a.opens ∙ p in rw (p, p', in_brackets) g.numbers

-- A byte that is no mark counts nothing.
module _ (b : ℕ) (o : Other b) (ts us : List Token) (g : Agree ts us) where
  agree-pass : Agree (mark_token b ∷ ts) us
  agree-pass =
      let n : is opening (mark_token b) ≡ false = same_as (mark_token b) invalid o opening in
      record { numbers = brackets-other (mark_token b) ts n ∙ g.numbers; parts = λ d. commas-other (mark_token b) ts o d ∙ g.parts d }

agree : (skip : ℕ) (bs : List ℕ) → Plain skip bs → Agree (marks bs) (tokens skip bs)
unfolding tokens
agree zero [] p = record { numbers = refl; parts = λ d. refl }
agree (suc skip) [] p = record { numbers = refl; parts = λ d. refl }
agree (suc skip) (b ∷ bs) p = agree-pass b p.0 (marks bs) (tokens skip bs) (agree skip bs p.1)
agree zero (b ∷ bs) p = go (is_class space b) refl (agree 0 bs tt) (agree (length (token_from (class_of b) b bs).bytes - 1) bs (token-like b bs (class_of b) refl).plain)
  where
    go :
        (x : Bool) → is_class space b ≡ x → Agree (marks bs) (tokens 0 bs) → Agree (marks bs) (tokens (length (token_from (class_of b) b bs).bytes - 1) bs)
        → Agree (marks (b ∷ bs)) (tokens 0 (b ∷ bs))
    go true q r s = rw (q, tokens) (agree-pass b (space-other b q) (marks bs) (tokens 0 bs) r)
    go false q r s =
        rw (q, tokens) (agree-more (mark_token b) (token_from (class_of b) b bs) (marks bs) (tokens (length (token_from (class_of b) b bs).bytes - 1) bs) (token-like b bs (class_of b) refl).alike s)

pub marks-numbers : (bs : List ℕ) → in_brackets (marks bs) ≡ in_brackets (tokens 0 bs)
marks-numbers bs = (agree 0 bs tt).numbers

-- The kind of a byte.
module _ (b : ℕ) where
  pub mark-opening : b ≡ 40 → mark_of b ≡ opening
  mark-opening e = rw (eq-eqb b 40 e, mark_of) refl

  pub mark-closing : b ≡ 41 → mark_of b ≡ closing
  mark-closing e = let f = ne_eqb b 40 (λ q. omega arith) in rw (f, eq-eqb b 41 e, mark_of) refl

  pub mark-comma : b ≡ 44 → mark_of b ≡ comma
  mark-comma e = let f = ne_eqb b 40 (λ q. omega arith) in let g = ne_eqb b 41 (λ q. omega arith) in rw (f, g, eq-eqb b 44 e, mark_of) refl

  pub mark-none : (b ≡ 40 → ⊥) → (b ≡ 41 → ⊥) → (b ≡ 44 → ⊥) → mark_of b ≡ invalid
  mark-none f g h = rw (ne_eqb b 40 f, ne_eqb b 41 g, ne_eqb b 44 h, mark_of) refl
