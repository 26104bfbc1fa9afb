-- The arities of a readable text are at most 15.
use Rattle.std.proofs.Common.{◌≡◌, ℕ, zero, suc, ◌-◌, ◌≤◌, ◌%◌, ◌⊎◌, inl, inr, Bool, true, false, ◌||◌, List, [], ◌∷◌, length, drop, leb, refl, ap, sym, ◌∙◌, subst, arith}
use mathlib.Core.Bool.{and-eq-true_iff, false≢true}
use Rattle.std.proofs.Math.Option.{none, some, none-ne-some, some-injective}
use Rattle.std.proofs.Math.ListN.{get_elem?}
use borrow.Author.Tests.{eqb-true, leb-true}
use Rattle.rules.specs.Syntax.{Symbol, functor, predicate}
use Rattle.text_rules.specs.TextTokens.{Kind, name, number, amount, kind_number, Class, no_class, space, letter, zero_digit, digit, underscore, colon, minus, mark, class_of, is_class, numeral, value, Token, at_most, number_kind, number_token, negative_kind, negative_token, variable_token, implies_token, token_from, end_token, tokens}
use Rattle.text_rules.specs.TextGrammar.{same_kind, is, is_key, is_number_key, same_bytes, fn_text, item, unread}
use Rattle.text_rules.specs.TextWords.{symbol_from, token_at, begins_v2, items, declares, symbol_declaration, number_declaration, declaration, tokens_after, declarations, Declaration, arity}
use Rattle.text.proofs.TokenLaws.{mark-kinds}
use Rattle.rules.specs.Decks.{write_symbol}
use Rattle.text_rules.specs.Text.{numbers_in, text_items, text_declarations, text_unread}
use Rattle.naming.proofs.FiveLaws.{declared-first, declared-none, five-third, five-readable, four-readable}

-- A number's token.
module _ (b : ℕ) (bs : List ℕ) where
  no-amount : (most n : ℕ) → same_kind number (at_most most amount n) ≡ true → ⊥
  unfolding at_most
  no-amount most n e = go (leb n most) refl
    where
      go : (f : Bool) → leb n most ≡ f → ⊥
      go true q = let z : ◌≡◌ {A = Bool} false true = rw (q, at_most) at e in absurd (false≢true z)
      go false q = let z : ◌≡◌ {A = Bool} false true = rw (q, at_most) at e in absurd (false≢true z)

  small-number : (ds : List ℕ) (l : ℕ) → is number (number_token ds l) ≡ true → value 0 (number_token ds l).bytes ≤ 15
  unfolding number_token number_kind
  small-number ds l e = go (leb (value 0 ds) 15) refl
    where
      go : (f : Bool) → leb (value 0 ds) 15 ≡ f → value 0 ds ≤ 15
      go true q = leb-true (value 0 ds) 15 q
      go false q = absurd (no-amount 32767 (value 0 ds) (rw (q, number_kind) at e))

  no-negative : (ds : List ℕ) (l : ℕ) → is number (negative_token b ds l) ≡ true → ⊥
  unfolding negative_token negative_kind
  no-negative [] l e = false≢true e
  no-negative (d ∷ ds) l e = go (leb 1 (value 0 (d ∷ ds))) refl
    where
      go : (f : Bool) → leb 1 (value 0 (d ∷ ds)) ≡ f → ⊥
      go true q = no-amount 32768 (value 0 (d ∷ ds)) (rw (q, negative_kind) at e)
      go false q = let z : ◌≡◌ {A = Bool} false true = rw (q, negative_kind) at e in absurd (false≢true z)

  no-variable : (ds : List ℕ) (l : ℕ) → is number (variable_token b ds l) ≡ true → ⊥
  unfolding variable_token at_most
  no-variable [] l e = false≢true e
  no-variable (d ∷ ds) l e = go (leb (value 0 (d ∷ ds)) 1023) refl
    where
      go : (f : Bool) → leb (value 0 (d ∷ ds)) 1023 ≡ f → ⊥
      go true q = let z : ◌≡◌ {A = Bool} false true = rw (q, at_most) at e in absurd (false≢true z)
      go false q = let z : ◌≡◌ {A = Bool} false true = rw (q, at_most) at e in absurd (false≢true z)

  no-implies : (cs : List ℕ) (l : ℕ) → is number (implies_token b cs l) ≡ true → ⊥
  unfolding implies_token
  no-implies [] l e = false≢true e
  no-implies (c ∷ cs) l e = go (is_class minus c) refl
    where
      go : (f : Bool) → is_class minus c ≡ f → ⊥
      go true q = let z : ◌≡◌ {A = Bool} false true = rw (q, implies_token) at e in absurd (false≢true z)
      go false q = let z : ◌≡◌ {A = Bool} false true = rw (q, implies_token) at e in absurd (false≢true z)

  small-from : (c : Class) → ((k : Kind) → c ≡ mark k → 6 ≤ kind_number k) → is number (token_from c b bs) ≡ true → value 0 (token_from c b bs).bytes ≤ 15
  unfolding token_from
  small-from no_class m e = absurd (false≢true e)
  small-from space m e = absurd (false≢true e)
  small-from letter m e = absurd (false≢true e)
  small-from zero_digit m e = small-number (numeral (b ∷ bs)) (length (b ∷ bs)) e
  small-from digit m e = small-number (numeral (b ∷ bs)) (length (b ∷ bs)) e
  small-from underscore m e = absurd (no-variable (numeral bs) (length (b ∷ bs)) e)
  small-from colon m e = absurd (no-implies bs (length (b ∷ bs)) e)
  small-from minus m e = absurd (no-negative (numeral bs) (length (b ∷ bs)) e)
  small-from (mark k) m e = let q = eqb-true 3 (kind_number k) e in absurd (omega (arith, m k refl))

pub number_small : (xs : List ℕ) (t : Token) (ts : List Token) → tokens 0 xs ≡ t ∷ ts → is number t ≡ true → value 0 t.bytes ≤ 15
unfolding tokens
number_small [] t ts e q = let f : end_token ≡ t = ap (λ l. token_at l 0) e in let z : ◌≡◌ {A = Bool} false true = ap (is number) f ∙ q in absurd (false≢true z)
number_small (b ∷ bs) t ts e q = go (is_class space b) refl (number_small bs t ts)
  where
    go : (f : Bool) → is_class space b ≡ f → (tokens 0 bs ≡ t ∷ ts → is number t ≡ true → value 0 t.bytes ≤ 15) → value 0 t.bytes ≤ 15
    go true f r = r (rw (f, tokens) at e) q
    go false f r =
        let g : token_from (class_of b) b bs ∷ tokens (length (token_from (class_of b) b bs).bytes - 1) bs ≡ t ∷ ts = rw (f, tokens) at e in
        let h : token_from (class_of b) b bs ≡ t = ap (λ l. token_at l 0) g in
        subst (λ x. value 0 x.bytes ≤ 15) h (small-from b bs (class_of b) (λ k e. (mark-kinds b k e).0) (ap (is number) h ∙ q))

-- All numbers of a text, and all arities of its declarations.
abbrev Small : List Token → Type 0
Small [] = Unit {0}
Small (t ∷ ts) = (is number t ≡ true → value 0 t.bytes ≤ 15) × Small ts

all_small : (skip : ℕ) (xs : List ℕ) → Small (tokens skip xs)
unfolding tokens
all_small skip [] = (λ e. number_small [] end_token [] refl e, tt)
all_small (suc skip) (b ∷ bs) = all_small skip bs
all_small zero (b ∷ bs) = go (is_class space b) refl (λ k. all_small k bs)
  where
    go : (f : Bool) → is_class space b ≡ f → ((k : ℕ) → Small (tokens k bs)) → Small (tokens 0 (b ∷ bs))
    go true f r = rw (f, tokens) (r 0)
    go false f r =
        let t = token_from (class_of b) b bs in
        let e : tokens 0 (b ∷ bs) ≡ t ∷ tokens (length t.bytes - 1) bs = rw (f, tokens) refl in
        subst Small (sym e) (number_small (b ∷ bs) t (tokens (length t.bytes - 1) bs) e, r (length t.bytes - 1))

abbrev Few : List Declaration → Type 0
Few ds = (j : ℕ) (d : Declaration) → get_elem? ds j ≡ some d → arity d.symbol ≤ 15

few-none : Few []
few-none j d e = absurd (none-ne-some d e)

symbol-arity : (key : List ℕ) (k : ℕ) → arity (symbol_from key k) ≡ k
unfolding symbol_from
symbol-arity key k = go (same_bytes key fn_text) refl
  where
    go : (b : Bool) → same_bytes key fn_text ≡ b → arity (symbol_from key k) ≡ k
    go true e = rw (e, symbol_from) refl
    go false e = rw (e, symbol_from) refl

third-small : (m : Bool) (k : Token) (ts : List Token) → is_key k ≡ true → is name (token_at ts 0) ≡ true → Small ts → unread (item m) (k ∷ ts) ≡ none → value 0 (token_at ts 2).bytes ≤ 15
unfolding value
third-small m k [] q y z e = omega arith
third-small m k (n ∷ []) q y z e = omega arith
third-small m k (n ∷ s ∷ []) q y z e = omega arith
third-small m k (n ∷ s ∷ a ∷ ts) q y z e = z.1.1.0 (five-third m k n s a ts e q y)

-- What declares begins with a key, and a name is next.
keys : (k : Token) (ts : List Token) → declares k ts ≡ true → ((is_key k ≡ true) ⊎ ((is_key k ≡ false) × (is_number_key k ≡ true))) × (is name (token_at ts 0) ≡ true)
unfolding declares
keys k ts e = let b = (and-eq-true_iff (is_key k || is_number_key k) (is name (token_at ts 0))).0 e in (go (is_key k) refl b.0, b.1)
  where
    go : (f : Bool) → is_key k ≡ f → (is_key k || is_number_key k) ≡ true → (is_key k ≡ true) ⊎ ((is_key k ≡ false) × (is_number_key k ≡ true))
    go true q h = inl q
    go false q h = inr (q, rw q at h)

declaration-small : (m : Bool) (k : Token) (ts : List Token) → declares k ts ≡ true → Small ts → unread (item m) (k ∷ ts) ≡ none → arity (declaration k ts).symbol ≤ 15
unfolding declaration symbol_declaration number_declaration
declaration-small m k ts f z e = let w = keys k ts f in go w.0 w.1
  where
    go : (is_key k ≡ true) ⊎ ((is_key k ≡ false) × (is_number_key k ≡ true)) → is name (token_at ts 0) ≡ true → arity (declaration k ts).symbol ≤ 15
    go (inl q) y = rw (q, declaration) (omega (arith, symbol-arity k.bytes (value 0 (token_at ts 2).bytes), third-small m k ts q y z e))
    go (inr q) y = rw (q.0, declaration) (omega arith)

few-more :
    (m : Bool) (k : Token) (ts : List Token) → Small ts → unread (item m) (k ∷ ts) ≡ none → (declares k ts ≡ true → Few (declarations (tokens_after k) ts))
    → Few (declarations 0 (k ∷ ts))
few-more m k ts z e r j d q = go (declares k ts) refl j q
  where
    go : (b : Bool) → declares k ts ≡ b → (j : ℕ) → get_elem? (declarations 0 (k ∷ ts)) j ≡ some d → arity d.symbol ≤ 15
    go true f zero q =
        let s : declaration k ts ≡ d = some-injective (declaration k ts) d (ap (λ l. get_elem? l 0) (sym (declared-first k ts f)) ∙ q) in
        subst (λ x. arity x.symbol ≤ 15) s (declaration-small m k ts f z e)
    go true f (suc j) q = r f j d (ap (λ l. get_elem? l (suc j)) (sym (declared-first k ts f)) ∙ q)
    go false f j q = few-none j d (ap (λ l. get_elem? l j) (sym (declared-none k ts f)) ∙ q)

few-after :
    (m : Bool) (k : Token) (ts : List Token) → Small ts → unread (item m) (k ∷ ts) ≡ none → (is_key k ≡ true → is name (token_at ts 0) ≡ true → Few (declarations 4 ts))
    → (is_key k ≡ false → is_number_key k ≡ true → is name (token_at ts 0) ≡ true → Few (declarations 3 ts)) → Few (declarations 0 (k ∷ ts))
unfolding tokens_after
few-after m k ts z e f g = few-more m k ts z e (λ q. let w = keys k ts q in go w.0 w.1)
  where
    go : (is_key k ≡ true) ⊎ ((is_key k ≡ false) × (is_number_key k ≡ true)) → is name (token_at ts 0) ≡ true → Few (declarations (tokens_after k) ts)
    go (inl q) y = subst (λ n. Few (declarations n ts)) (sym (rw (q, tokens_after) refl)) (f q y)
    go (inr q) y = subst (λ n. Few (declarations n ts)) (sym (rw (q.0, tokens_after) refl)) (g q.0 q.1 y)

few-arguments : (m : Bool) (ts : List Token) → Small ts → unread (item m) ts ≡ none → Few (declarations 0 ts)
unfolding declarations
few-arguments m [] z e = few-none
few-arguments m (k ∷ []) z e = few-after m k [] z.1 e (λ q y. few-none) (λ q r y. few-none)
few-arguments m (k ∷ n ∷ []) z e = few-after m k (n ∷ []) z.1 e (λ q y. few-none) (λ q r y. few-none)
few-arguments m (k ∷ n ∷ s ∷ []) z e = few-after m k (n ∷ s ∷ []) z.1 e (λ q y. few-none) (λ q r y. few-none)
few-arguments m (k ∷ n ∷ s ∷ a ∷ []) z e = few-after m k (n ∷ s ∷ a ∷ []) z.1 e (λ q y. few-none) (λ q r y. few-none)
few-arguments m (k ∷ n ∷ s ∷ a ∷ d ∷ ts) z e =
    few-after m k (n ∷ s ∷ a ∷ d ∷ ts) z.1 e
    (λ q y. few-arguments m ts z.1.1.1.1.1 (five-readable k n s a d ts q y m e).3)
    (λ q r y. few-arguments m (d ∷ ts) z.1.1.1.1 (four-readable k n s a (d ∷ ts) q r y m e).2)

small-items : (ts : List Token) → Small ts → Small (items ts)
unfolding items
small-items ts z = go (begins_v2 ts) refl
  where
    behind : (ts : List Token) → Small ts → Small (drop 2 ts)
    behind [] z = tt
    behind (t ∷ []) z = tt
    behind (t ∷ u ∷ ts) z = z.1.1

    go : (b : Bool) → begins_v2 ts ≡ b → Small (items ts)
    go true q = subst Small (sym (rw (q, items) refl)) (behind ts z)
    go false q = subst Small (sym (rw (q, items) refl)) z

pub arity-small : (text : List ℕ) → text_unread text ≡ none → (j : ℕ) (d : Declaration) → get_elem? (text_declarations text) j ≡ some d → arity d.symbol ≤ 15
unfolding text_declarations text_unread text_items
arity-small text e = few-arguments (numbers_in text) (items (tokens 0 text)) (small-items (tokens 0 text) (all_small 0 text)) e

pub word-arity : (s : Symbol) → arity s ≤ 15 → write_symbol s % 256 ≡ arity s
unfolding write_symbol
word-arity (functor k) l = omega arith
word-arity (predicate k) l = omega arith
