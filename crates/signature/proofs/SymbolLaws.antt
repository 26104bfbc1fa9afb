-- Symbols that are read from symbol words: their number and their arities are those that the words say.
use Prim.Native.Nat.{ℕ, zero, suc, ◌-◌, ◌%◌, ◌≤◌, ◌<◌}
use mathlib.Core.Path.{◌≡◌, refl, ◌∙◌, ap}
use mathlib.Core.Bool.{Bool, true, false, ◌&&◌, and-eq-true_iff}
use mathlib.Core.Option.{Option, none, some, none-ne-some, some-injective}
use mathlib.Core.List.{List, [], ◌∷◌}
use native.Mathlib.Omega.{arith}
use lib.Dec.{leb}
use lib.ListN.{get_elem?}
use borrow.Author.Tests.{leb-true}
use Rattle.rules.specs.Syntax.{Symbol, functor, predicate}
use Rattle.rules.specs.Decks.{read_symbol, read_next, read_all}
use Rattle.signature.specs.Symbols.{symbol_count, arity_at}

abbrev pub arity : Symbol → ℕ
arity (functor k) = k
arity (predicate k) = k

-- A symbol word that is read has the arity in its low byte.
symbol-word : (w : ℕ) (s : Symbol) → read_symbol w ≡ some s → w % 256 ≡ arity s
unfolding read_symbol
symbol-word w s e = go (leb w 15) refl
  where
    second : (b : Bool) → leb w 15 ≡ false → (leb 256 w && leb w 271) ≡ b → w % 256 ≡ arity s
    second true p q =
        let t = (and-eq-true_iff (leb 256 w) (leb w 271)).0 q in
        let l : 256 ≤ w = leb-true 256 w t.0 in
        let m : w ≤ 271 = leb-true w 271 t.1 in
        let z : predicate (w - 256) ≡ s = some-injective (predicate (w - 256)) s (rw (p, q, read_symbol) at e) in
        omega (arith, ap arity z)
    second false p q = absurd (none-ne-some s (rw (p, q, read_symbol) at e))

    go : (b : Bool) → leb w 15 ≡ b → w % 256 ≡ arity s
    go true p =
        let l : w ≤ 15 = leb-true w 15 p in
        let z : functor w ≡ s = some-injective (functor w) s (rw (p, read_symbol) at e) in
        omega (arith, ap arity z)
    go false p = second (leb 256 w && leb w 271) p refl

-- Symbol f has a word, and the arity is k.
abbrev pub Word : List ℕ → ℕ → ℕ → Type 0
Word ar f k = (f < symbol_count ar) × (arity_at ar f ≡ k)

pub symbol-known : (ar : List ℕ) (S : List Symbol) → read_all read_symbol ar ≡ some S → (f : ℕ) (s : Symbol) → get_elem? S f ≡ some s → Word ar f (arity s)
unfolding read_all read_next
symbol-known [] S e f s h = absurd (none-ne-some s (ap (λ (T : List Symbol). get_elem? T f) (some-injective [] S e) ∙ h))
symbol-known (w ∷ ws) S e f s h = first (read_symbol w) refl e (λ T b g k. symbol-known ws T b g s k)
  where
    More : Type 0
    More = (T : List Symbol) → read_all read_symbol ws ≡ some T → (g : ℕ) → get_elem? T g ≡ some s → Word ws g (arity s)

    at : (s₀ : Symbol) → read_symbol w ≡ some s₀ → (T : List Symbol) → read_all read_symbol ws ≡ some T → More → (g : ℕ) → get_elem? (s₀ ∷ T) g ≡ some s → Word (w ∷ ws) g (arity s)
    at s₀ a T b more zero k = (omega arith, symbol-word w s (a ∙ k))
    at s₀ a T b more (suc g) k = let r = more T b g k in (omega arith, r.1)

    others : (s₀ : Symbol) → read_symbol w ≡ some s₀ → (o : Option (List Symbol)) → read_all read_symbol ws ≡ o → read_next (some s₀) o ≡ some S → More → Word (w ∷ ws) f (arity s)
    others s₀ a none b q more = absurd (none-ne-some S q)
    others s₀ a (some T) b q more = at s₀ a T b more f (ap (λ (U : List Symbol). get_elem? U f) (some-injective (s₀ ∷ T) S q) ∙ h)

    first : (o : Option Symbol) → read_symbol w ≡ o → read_next o (read_all read_symbol ws) ≡ some S → More → Word (w ∷ ws) f (arity s)
    first none a q more = absurd (none-ne-some S q)
    first (some s₀) a q more = others s₀ a (read_all read_symbol ws) refl q more
