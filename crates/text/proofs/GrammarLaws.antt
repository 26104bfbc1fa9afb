-- Whether a token is a key, and reading a text token by token.
use Rattle.std.proofs.Common.{◌≡◌, ℕ, zero, suc, ◌≤◌, Bool, true, false, ◌&&◌, ◌||◌, List, [], ◌∷◌, refl, ap, ap₂, sym, ◌∙◌, subst, arith}
use Rattle.std.proofs.Math.Option.{none, some, none-ne-some, some-injective}
use lib.Dec.{eqb}
use lib.Pointwise.{pointwise}
use Rattle.text_rules.specs.TextTokens.{name, Token}
use Rattle.text_rules.specs.TextGrammar.{is_key, is_number_key, same_bytes, fn_text, pr_text, nu_text, head, body, State, item, keyed, declared, slashed, counted, number_keyed, number_declared, clause, literal, negated, finished, term, named, after, Part, Follow, ◌⇒◌, after_term, after_name, follows, next, unread}
use Rattle.text.specs.declared.tokens.Kind.{Kind}
use Rattle.text.specs.declared.tokens.Kind.TheVariants.{Name}
use Rattle.text.specs.Kinds.{kind_of}
use Rattle.std.specs.Prelude.{Some, None}
use Rattle.text.specs.declared.grammar.Key.TheVariants.{Function, Predicate, Number}
use Rattle.text.specs.Steps.{depth_of, IsKey}

-- The rules' test of two lists of bytes is the one of slices.
pub same_pointwise : (xs ys : List ℕ) → same_bytes xs ys ≡ pointwise eqb xs ys
unfolding same_bytes
same_pointwise [] [] = refl
same_pointwise [] (y ∷ ys) = refl
same_pointwise (x ∷ xs) [] = refl
same_pointwise (x ∷ xs) (y ∷ ys) = ap (eqb x y &&◌) (same_pointwise xs ys)

module _ (u : Token) (bs : List ℕ) (k : u.kind ≡ name) (b : u.bytes ≡ bs) where
  key-tests : is_key u ≡ (pointwise eqb bs (102 ∷ 110 ∷ []) || pointwise eqb bs (112 ∷ 114 ∷ []))
  unfolding is_key fn_text pr_text
  key-tests = rw (k, b) (ap₂ ◌||◌ (same_pointwise bs (102 ∷ 110 ∷ [])) (same_pointwise bs (112 ∷ 114 ∷ [])))

  number-tests : is_number_key u ≡ pointwise eqb bs (110 ∷ 117 ∷ [])
  unfolding is_number_key nu_text
  number-tests = rw (k, b) (same_pointwise bs (110 ∷ 117 ∷ []))

  is-fn : same_bytes u.bytes fn_text ≡ pointwise eqb bs (102 ∷ 110 ∷ [])
  unfolding fn_text
  is-fn = rw b (same_pointwise bs (102 ∷ 110 ∷ []))

  pub first-key : pointwise eqb bs (102 ∷ 110 ∷ []) ≡ true → IsKey u (Some Function)
  first-key e = (key-tests ∙ rw e refl, is-fn ∙ e)

  second-tested : pointwise eqb bs (102 ∷ 110 ∷ []) ≡ false → is_key u ≡ pointwise eqb bs (112 ∷ 114 ∷ [])
  second-tested e = key-tests ∙ rw e refl

  pub second-key : pointwise eqb bs (102 ∷ 110 ∷ []) ≡ false → pointwise eqb bs (112 ∷ 114 ∷ []) ≡ true → IsKey u (Some Predicate)
  second-key e f = (second-tested e ∙ f, is-fn ∙ e)

  pub third-key :
      pointwise eqb bs (102 ∷ 110 ∷ []) ≡ false → pointwise eqb bs (112 ∷ 114 ∷ []) ≡ false → pointwise eqb bs (110 ∷ 117 ∷ []) ≡ true
      → IsKey u (Some Number)
  third-key e f g = (second-tested e ∙ f, number-tests ∙ g)

  pub other-name :
      pointwise eqb bs (102 ∷ 110 ∷ []) ≡ false → pointwise eqb bs (112 ∷ 114 ∷ []) ≡ false → pointwise eqb bs (110 ∷ 117 ∷ []) ≡ false → IsKey u None
  other-name e f g = (second-tested e ∙ f, number-tests ∙ g)

pub no-key : (k : Kind) (u : Token) → (k ≡ Name → ⊥) → u.kind ≡ kind_of k → IsKey u None
unfolding is_key is_number_key
no-key k u f e = grind (arith, f)

-- Brackets open at most one at a time.
abbrev Bounded : ℕ → List Follow → Type 0
Bounded n [] = Unit {0}
Bounded n ((f ⇒ s) ∷ fs) = (depth_of s ≤ n) × Bounded n fs

next-bounded : (n : ℕ) (fs : List Follow) (t : Token) (s : State) → Bounded n fs → next fs t ≡ some s → depth_of s ≤ n
unfolding next
next-bounded n [] t s b e = absurd (none-ne-some s e)
next-bounded n ((f ⇒ u) ∷ fs) t s b e = go (f t) refl (next-bounded n fs t s b.1)
  where
    go : (x : Bool) → f t ≡ x → (next fs t ≡ some s → depth_of s ≤ n) → depth_of s ≤ n
    go true q r = let p : next ((f ⇒ u) ∷ fs) t ≡ some u = rw (q, next) refl in subst (λ x. depth_of x ≤ n) (some-injective u s (sym p ∙ e)) b.0
    go false q r = let p : next ((f ⇒ u) ∷ fs) t ≡ next fs t = rw (q, next) refl in r (sym p ∙ e)

term-bounded : (p : Part) (d : ℕ) → Bounded (suc d) (after_term p d)
unfolding after_term
term-bounded head zero = (omega arith, (omega arith, tt))
term-bounded body zero = (omega arith, (omega arith, tt))
term-bounded p (suc d) = (omega arith, (omega arith, tt))

follows-bounded : (s : State) → Bounded (suc (depth_of s)) (follows s)
unfolding follows after_name
follows-bounded (item false) = (omega arith, (omega arith, (omega arith, tt)))
follows-bounded (item true) = (omega arith, (omega arith, (omega arith, (omega arith, tt))))
follows-bounded (keyed m) = (omega arith, (omega arith, term-bounded head 0))
follows-bounded (declared m) = (omega arith, tt)
follows-bounded (slashed m) = (omega arith, tt)
follows-bounded (counted m) = (omega arith, tt)
follows-bounded number_keyed = (omega arith, (omega arith, term-bounded head 0))
follows-bounded number_declared = (omega arith, tt)
follows-bounded clause = (omega arith, (omega arith, tt))
follows-bounded literal = (omega arith, (omega arith, tt))
follows-bounded negated = (omega arith, tt)
follows-bounded finished = tt
follows-bounded (term p d) = (omega arith, (omega arith, tt))
follows-bounded (named p d) = (omega arith, term-bounded p d)
follows-bounded (after p d) = term-bounded p d

pub one_deeper : (s u : State) (t : Token) → next (follows s) t ≡ some u → depth_of u ≤ suc (depth_of s)
one_deeper s u t e = next-bounded (suc (depth_of s)) (follows s) t u (follows-bounded s) e

-- Token by token.
pub unread-goes : (s u : State) (t : Token) (ts : List Token) → next (follows s) t ≡ some u → unread s (t ∷ ts) ≡ unread u ts
unfolding unread
unread-goes s u t ts e = rw (e, unread)

pub unread-stops : (s : State) (t : Token) (ts : List Token) → next (follows s) t ≡ none → unread s (t ∷ ts) ≡ some t.left
unfolding unread
unread-stops s t ts e = rw (e, unread)

pub unread-ends : (s : State) → unread s [] ≡ none
unfolding unread
unread-ends s = refl
