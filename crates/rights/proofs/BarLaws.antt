-- A member's list word by word. Assumes nothing.
use Prim.Native.Nat.{ℕ, suc, ◌+◌, ◌%◌, ◌≤◌, ◌<◌}
use mathlib.Core.Path.{◌≡◌, refl, ap, sym, ◌∙◌}
use mathlib.Core.Bool.{Bool, true, false, ◌&&◌, and-false}
use mathlib.Core.List.{List, [], ◌∷◌}
use native.Mathlib.Omega.{arith}
use native.Mathlib.Numerals.{add-one}
use lib.ListN.{length, get_or, drop, drop_of_length-le, length-map}
use lib.Seq.{drop-cons}
use lib.Dec.{leb}
use borrow.Author.Tests.{lt-leb, ne_eqb}
use Rattle.rules.specs.Syntax.{Symbol, functor, predicate}
use Rattle.rules.proofs.NextLaws.{either}
use Rattle.deck.specs.Kinds.{symbol_of, symbols_of}
use Rattle.rules.specs.Rights.{bar_fits, bars_fit}

-- ONE WORD
pub bar-0 : (s b : ℕ) → b ≡ 0 → true ≡ bar_fits (symbol_of s) b
unfolding symbol_of bar_fits
bar-0 s b e = rw e (either (λ x. true ≡ bar_fits x 0) (leb 256 s) (predicate (s % 256)) (functor (s % 256)) (λ q. refl) (λ q. refl))

pub bar-1 : (s b : ℕ) → b ≡ 1 → leb 256 s ≡ bar_fits (symbol_of s) b
unfolding symbol_of bar_fits
bar-1 s b e = rw e (either (λ x. leb 256 s ≡ bar_fits x 1) (leb 256 s) (predicate (s % 256)) (functor (s % 256)) (λ q. q) (λ q. q))

pub bar-other : (s b : ℕ) → (b ≡ 0 → ⊥) → (b ≡ 1 → ⊥) → false ≡ bar_fits (symbol_of s) b
unfolding symbol_of bar_fits
bar-other s b h k =
    either (λ x. false ≡ bar_fits x b) (leb 256 s) (predicate (s % 256)) (functor (s % 256)) (λ q. sym (lt-leb b 1 (omega (arith, h, k)))) (λ q. sym (ne_eqb b 0 h))

-- WORD BY WORD
pub symbols-many : (words : List ℕ) → length (symbols_of words) ≡ length words
unfolding symbols_of
symbols-many words = length-map words symbol_of

lengths-differ : (S : List Symbol) (bars : List ℕ) → (length S ≡ length bars → ⊥) → bars_fit S bars ≡ false
unfolding bars_fit
lengths-differ [] [] h = absurd (h refl)
lengths-differ [] (w ∷ bars) h = refl
lengths-differ (s ∷ S) [] h = refl
lengths-differ (s ∷ S) (w ∷ bars) h = rw (lengths-differ S bars (λ e. h (ap suc e)), and-false)

module _ (symbols bars : List ℕ) where
  pub bars-short : (length symbols ≡ length bars → ⊥) → false ≡ bars_fit (symbols_of symbols) bars
  bars-short h = sym (lengths-differ (symbols_of symbols) bars (λ e. h (sym (symbols-many symbols) ∙ e)))

  abbrev pub fit_from : ℕ → Bool
  fit_from i = bars_fit (symbols_of (drop i symbols)) (drop i bars)

  pub bars-next : (i : ℕ) → i < length symbols → i < length bars → fit_from i ≡ bar_fits (symbol_of (get_or symbols i 0)) (get_or bars i 0) && fit_from (i + 1)
  unfolding symbols_of bars_fit
  bars-next i h k = rw (add-one i, drop-cons symbols i 0 h, drop-cons bars i 0 k)

  pub bars-end : (i : ℕ) → length symbols ≤ i → length bars ≤ i → fit_from i ≡ true
  unfolding symbols_of bars_fit
  bars-end i h k = rw (drop_of_length-le symbols h, drop_of_length-le bars k)
