-- The sum of a column, word by word.
use Prim.Native.Nat.{ℕ, ◌+◌, ◌*◌, ◌^◌, ◌≤◌, ◌<◌}
use mathlib.Core.Path.{◌≡◌, refl, ◌∙◌, ap}
use mathlib.Core.Bool.{Bool, true, false}
use mathlib.Core.Option.{Option, none, some}
use mathlib.Core.List.{List, [], ◌∷◌}
use native.Mathlib.Omega.{arith}
use lib.ListN.{length}
use lib.Dec.{ltb}
use lib.IntN.{ℤ, pos, negsuc, ◌+ℤ◌}
use lib.Signed.{◌≤ℤ◌}
use mir.Syntax.{w64}
use Rattle.std.specs.Int.RustNames.{FitsSigned, unsigned_abs}
use borrow.Author.Tests.{ltb-true, ltb-false}
use Rattle.std.proofs.lemmas.Int.{ints, fits_signed_from_abs}
use Rattle.std.specs.Prelude as std
use Rattle.rules.specs.Syntax.{Format, Goal}
use Rattle.rules.specs.Decks.{read_next, read_all}
use Rattle.rules.specs.Column.{entry_word, column_words, value_of, total}
use Rattle.deck.specs.Pairs.{known_word}
use Rattle.column.specs.Entries.{Summed}

-- A sum with the words that are still to come.
pub add_to : ℤ → Option (List ℕ) → Option ℤ
add_to z none = none
add_to z (some ws) = some (z +ℤ total ws)

add-word : (z : ℤ) (w : ℕ) (o : Option (List ℕ)) → add_to z (read_next (some w) o) ≡ add_to (z +ℤ value_of w) o
unfolding read_next total add_to
add-word z w none = refl
add-word z w (some ws) = ap {B = Option ℤ} some (omega (arith, ints))

module _ (F : Format) (place : ℕ) where
  pub sum-next : (z : ℤ) (g : Goal) (gs : List Goal) (w : ℕ) → entry_word F place g.answer_terms ≡ some w
      → add_to z (column_words F place (g ∷ gs)) ≡ add_to (z +ℤ value_of w) (column_words F place gs)
  unfolding column_words read_all
  sum-next z g gs w e = ap (λ o. add_to z (read_next o (column_words F place gs))) e ∙ add-word z w (column_words F place gs)

  pub sum-none : (g : Goal) (gs : List Goal) → entry_word F place g.answer_terms ≡ none → (z : ℤ) → add_to z (column_words F place (g ∷ gs)) ≡ none
  unfolding column_words read_all read_next add_to
  sum-none g gs e z = ap (λ o. add_to z (read_next o (column_words F place gs))) e

  sum-end : (z : ℤ) → add_to z (column_words F place []) ≡ some z
  unfolding column_words read_all total add_to
  sum-end z = ap {B = Option ℤ} some (omega (arith, ints))

  pub sum-over : (gs : List Goal) → length gs ≡ 0 → (z : ℤ) → add_to z (column_words F place gs) ≡ some z
  sum-over [] e z = sum-end z
  sum-over (g ∷ gs) e z = absurd (omega (arith, e))

-- The result of the walk.
pub summed-none : (o : Option (List ℕ)) → add_to (pos 0) o ≡ none → Summed o std.None
unfolding add_to
summed-none none e = refl
summed-none (some ws) e = absurd (let z : ◌≡◌ {A = ℕ} 0 1 = cc in omega arith)

pub summed-some : (o : Option (List ℕ)) (z : ℤ) → add_to (pos 0) o ≡ some z → Summed o (std.Some z)
unfolding add_to
summed-some none z e = absurd (let k : ◌≡◌ {A = ℕ} 0 1 = cc in omega arith)
summed-some (some ws) z e = let same : pos 0 +ℤ total ws ≡ z = cc in ap std.Some (omega (arith, ints, same))

-- How large it can be.
pub record Within (z : ℤ) (n : ℕ) : Type 0 where
  pub above : z ≤ℤ pos (32767 * n)
  pub below : pos 0 ≤ℤ (z +ℤ pos (32768 * n))

value-within : (w : ℕ) → w < 65536 → Within (value_of w) 1
unfolding value_of
value-within w h = go (ltb w 32768) refl
  where
    go : (b : Bool) → ltb w 32768 ≡ b → Within (value_of w) 1
    go true e = let l = ltb-true w 32768 e in rw (e, value_of) (record { above = omega (arith, ints); below = omega (arith, ints) })
    go false e = let l = ltb-false w 32768 e in rw (e, value_of) (record { above = omega (arith, ints); below = omega (arith, ints) })

pub within-more : (z : ℤ) (n w : ℕ) → w < 65536 → Within z n → Within (z +ℤ value_of w) (n + 1)
within-more z n w h k =
    let v = value-within w h in
    let a = k.above in
    let b = k.below in
    let c = v.above in
    let d = v.below in
    record { above = omega (arith, ints); below = omega (arith, ints) }

-- In 64 bits.
pub within-fits : (z : ℤ) (n : ℕ) → n ≤ 65536 → Within z n → FitsSigned w64 z
within-fits z n h k = fits_signed_from_abs w64 z (go z k)
  where
    go : (y : ℤ) → Within y n → unsigned_abs y < 2 ^ 63
    go (pos m) w = let a = w.above in omega (arith, ints)
    go (negsuc m) w = let b = w.below in omega (arith, ints)

-- And in 32 bits without its sign.
pub within-short : (z : ℤ) (n : ℕ) → n ≤ 65536 → Within z n → unsigned_abs z < 4294967296
within-short (pos m) n h k = let a = k.above in omega (arith, ints)
within-short (negsuc m) n h k = let b = k.below in omega (arith, ints)

-- The word that an entry has.
pub known-some : (o : Option ℕ) (w : ℕ) → std.Some w ≡ known_word o → o ≡ some w
known-some none w e = absurd (let z : ◌≡◌ {A = ℕ} 0 1 = cc in omega arith)
known-some (some v) w e = let same : v ≡ w = cc in ap some same

pub known-none : (o : Option ℕ) → std.None ≡ known_word o → o ≡ none
known-none none e = refl
known-none (some v) e = absurd (let z : ◌≡◌ {A = ℕ} 0 1 = cc in omega arith)
