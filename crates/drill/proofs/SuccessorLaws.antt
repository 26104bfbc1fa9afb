-- The steps of the successor on cells: the first cell and the rest, the least filling, the next one.
use Prim.Native.Nat.{ℕ, zero, suc, ◌+◌, ◌-◌, ◌≤◌, ◌<◌}
use mathlib.Core.Path.{◌≡◌, refl, ap, ap₂, sym, ◌∙◌, subst, subst₂}
use mathlib.Core.Bool.{true, true≢false}
use mathlib.Core.Option.{some}
use mathlib.Core.List.{List, [], ◌∷◌, ◌++◌, append-nil}
use native.Mathlib.Numerals.{add-one}
use native.Mathlib.Omega.{arith}
use borrow.Rule.Slice.PartMut.{put_mid}
use lib.ListN.{length, get_or, take, drop, set, length-set, get_elem?}
use lib.Seq.{get_or-set_same, take-length, drop-length}
use Rattle.std.specs.Prelude as answer
use Rattle.std.specs.Prelude.{is_some}
use Rattle.rules.specs.Syntax.{Symbol, functor}
use Rattle.rules.specs.Drill.{fillings}
use Rattle.rules.proofs.CellLaws.{elem_below}
use Rattle.drill.specs.Successors.{arity_at, fills, later, followers, Heads, nonempty, Found, Sought, Advanced}
use Rattle.drill.proofs.FillLaws.{nonempty-few, nonempty-places, sought-nonempty, heads-none, heads-block, heads-least, fills_first, fills-few, advanced-inside, advanced-first}

-- The first cell, and the cells after it as they are lent.
abbrev pub rest : List ℕ → List ℕ
rest l = take (length l - 1) (drop 1 l)

pub first_rest : (l : List ℕ) → 1 ≤ length l → l ≡ get_or l 0 0 ∷ rest l
first_rest [] h = absurd (omega arith)
first_rest (c ∷ cs) h = let n : suc (length cs) - 1 ≡ length cs = omega arith in ap {B = List ℕ} (c ∷◌) (sym (ap (λ j. take j cs) n ∙ take-length cs))

pub rest-length : (l : List ℕ) → 1 ≤ length l → length (rest l) ≡ length l - 1
rest-length l h = let e = ap length (first_rest l h) in omega arith

pub put_rest : (l ys : List ℕ) → 1 ≤ length l → put_mid 1 (length l - 1) l ys ≡ get_or l 0 0 ∷ ys
put_rest [] ys h = absurd (omega arith)
put_rest (c ∷ cs) ys h =
    let n : suc (length cs) - 1 ≡ length cs = omega arith in
    ap {B = List ℕ} (λ j. c ∷ (ys ++ j)) (ap (λ j. drop j cs) n ∙ drop-length cs) ∙ ap {B = List ℕ} (c ∷◌) (append-nil ys)

-- The same once the first cell is written.
pub first-length : (cells : List ℕ) (f : ℕ) → 1 ≤ length cells → length (rest (set cells 0 f)) ≡ length cells - 1
first-length cells f h = rest-length (set cells 0 f) (omega (arith, length-set cells 0 f)) ∙ ap (λ j. j - 1) (length-set cells 0 f)

pub put_first : (cells ys : List ℕ) (f : ℕ) → 1 ≤ length cells → put_mid 1 (length (set cells 0 f) - 1) (set cells 0 f) ys ≡ f ∷ ys
put_first cells ys f h = put_rest (set cells 0 f) ys (omega (arith, length-set cells 0 f)) ∙ ap {B = List ℕ} (◌∷ ys) (get_or-set_same cells 0 f 0 h)

pub least-none : (S : List Symbol) (l : List ℕ) (k : ℕ) → length l ≡ 0 → nonempty (fillings S (length l) k) ≡ true → Heads S k (fillings S (length l) k) l
least-none S [] k z e = heads-none S k e
least-none S (c ∷ cs) k z e = absurd (omega arith)

-- The least filling of k places by n cells.
module _ (S : List Symbol) (n k : ℕ) (cells : 1 ≤ n) (e : nonempty (fillings S n k) ≡ true) where
  pub least-places : 1 ≤ k
  least-places = nonempty-places S n k e cells

  pub least-few : k ≤ n
  least-few = nonempty-few S n k e

  size : suc (n - 1) ≡ n
  size = omega arith

  places : suc (k - 1) ≡ k
  places = omega (arith, least-places)

  pub least-some : (r : answer.Option ℕ) → Sought S (n - 1) (k - 1) 0 r → is_some r ≡ true
  least-some r w = sought-nonempty S (n - 1) (k - 1) r w ∙ ap₂ (λ x y. nonempty (fillings S x y)) size places ∙ e

  pub least-small : (f : ℕ) → Found S (n - 1) (k - 1) 0 f → arity_at S f + (k - 1) ≤ n - 1
  least-small f w = nonempty-few S (n - 1) (arity_at S f + (k - 1)) w.fillable

  pub least-heads :
      (f : ℕ) (ys : List ℕ) → Found S (n - 1) (k - 1) 0 f → length ys ≡ n - 1 → Heads S (arity_at S f + (k - 1)) (fillings S (n - 1) (arity_at S f + (k - 1))) ys
      → Heads S k (fillings S n k) (f ∷ ys)
  least-heads f ys w l h =
      subst₂ (λ x y. Heads S y (fillings S x y) (f ∷ ys)) size places (heads-least S (n - 1) (k - 1) f ys w l h)

some-places : (S : List Symbol) (l : List ℕ) (k : ℕ) → 1 ≤ length l → fills S k l ≡ true → 1 ≤ k
unfolding fills
some-places S [] k h e = absurd (omega arith)
some-places S (c ∷ cs) zero h e = absurd (true≢false (sym e))
some-places S (c ∷ cs) (suc k) h e = omega arith

-- The next filling after the cells l.
pub next-none : (S : List Symbol) (k : ℕ) (l : List ℕ) → length l ≡ 0 → followers S k l ≡ []
unfolding followers
next-none S k [] z = refl
next-none S k (c ∷ cs) z = absurd (omega arith)

module _ (S : List Symbol) (k : ℕ) (l : List ℕ) (cells : 1 ≤ length l) (e : fills S k l ≡ true) where
  pub next-places : 1 ≤ k
  next-places = some-places S l k cells e

  pub next-few : k ≤ length l
  next-few = fills-few S l k e

  many : k ≡ suc (k - 1)
  many = omega (arith, next-places)

  -- f is the first cell, and a its arity.
  module _ (f : ℕ) (q : f ≡ get_or l 0 0) where
    split : l ≡ f ∷ rest l
    split = first_rest l cells ∙ ap {B = List ℕ} (◌∷ rest l) (sym q)

    lead : (get_elem? S f ≡ some (functor (arity_at S f))) × (fills S (arity_at S f + (k - 1)) (rest l) ≡ true)
    lead = fills_first S (k - 1) f (rest l) (sym (ap₂ (fills S) many split) ∙ e)

    pub next-inside : f < length S
    next-inside = elem_below S f (functor (arity_at S f)) lead.0

    module _ (a : ℕ) (p : a ≡ arity_at S f) where
      pub next-rest : fills S (a + (k - 1)) (rest l) ≡ true
      next-rest = rw p lead.1

      pub next_small : a + (k - 1) ≤ length l - 1
      next_small = omega (arith, fills-few S (rest l) (a + (k - 1)) next-rest, rest-length l cells)

      pub next-deeper : (ys : List ℕ) → length ys ≡ length (rest l) → Advanced S (a + (k - 1)) (rest l) true ys → Heads S k (followers S k l) (put_mid 1 (length l - 1) l ys)
      next-deeper ys n h =
          rw (put_rest l ys cells)
          (rw (← q)
          (subst₂ (λ x y. Heads S x (followers S x y) (f ∷ ys)) (sym many) (sym split)
          (advanced-inside S (k - 1) f (rest l) ys lead.0 n (subst (λ b. Heads S (b + (k - 1)) (followers S (b + (k - 1)) (rest l)) ys) p h))))

      -- The cells after the first were the last filling.
      module _ (last : followers S (a + (k - 1)) (rest l) ≡ []) where
        here : followers S k l ≡ later S (length l - 1) (k - 1) (f + 1)
        here =
            ap₂ (followers S) many split
            ∙ advanced-first S (k - 1) f (rest l) (subst (λ b. followers S (b + (k - 1)) (rest l) ≡ []) p last)
            ∙ ap₂ (λ n i. later S n (k - 1) i) (rest-length l cells) (sym (add-one f))

        pub next-end : later S (length l - 1) (k - 1) (f + 1) ≡ [] → followers S k l ≡ []
        next-end z = here ∙ z

        pub next-heads :
            (g b : ℕ) (zs : List ℕ) → Found S (length l - 1) (k - 1) (f + 1) g → b ≡ arity_at S g → length zs ≡ length l - 1
            → Heads S (b + (k - 1)) (fillings S (length l - 1) (b + (k - 1))) zs → Heads S k (followers S k l) (g ∷ zs)
        next-heads g b zs w r n h =
            subst₂ (λ x y. Heads S x y (g ∷ zs)) (sym many) (sym here)
            (heads-block S (length l - 1) (k - 1) (f + 1) g zs w n (subst (λ c. Heads S (c + (k - 1)) (fillings S (length l - 1) (c + (k - 1))) zs) r h))

pub found_inside : (S : List Symbol) (m k from f : ℕ) → Found S m k from f → f < length S
found_inside S m k from f w = elem_below S f (functor (arity_at S f)) w.symbol

pub found_fillable : (S : List Symbol) (m k from g b : ℕ) → Found S m k from g → b ≡ arity_at S g → nonempty (fillings S m (b + k)) ≡ true
found_fillable S m k from g b w r = rw r w.fillable

pub put-length : (l ys : List ℕ) → 1 ≤ length l → length ys ≡ length (rest l) → length (put_mid 1 (length l - 1) l ys) ≡ length l
put-length l ys h n = omega (arith, ap length (put_rest l ys h), rest-length l h)
