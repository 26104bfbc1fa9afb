-- The rules' mean and values as the library's Euclidean division and casts.
use Prim.Native.Nat.{ℕ, ◌<◌}
use mathlib.Core.Path.{◌≡◌, refl}
use mathlib.Core.Bool.{Bool, true, false}
use native.Mathlib.Omega.{arith}
use lib.Dec.{ltb}
use lib.IntN.{ℤ, pos, negsuc}
use mir.Syntax.{w16}
use mir.Val.{to_z}
use borrow.Author.Tests.{ltb-true, ltb-false}
use Rattle.std.specs.Int.{int_div_euclid, int_rem_euclid}
use Rattle.std.specs.Int.RustNames.{unsigned_abs}
use Rattle.std.proofs.lemmas.Int.{ints}
use Rattle.rules.specs.Column.{value_of, whole_part, remainder}

pub whole-is : (z : ℤ) (n : ℕ) → int_div_euclid z (pos n) ≡ whole_part z n
unfolding whole_part
whole-is (pos s) n = refl
whole-is (negsuc m) n = refl

pub remainder-is : (z : ℤ) (n : ℕ) → unsigned_abs (int_rem_euclid z (pos n)) ≡ remainder z n
unfolding remainder
remainder-is (pos s) n = refl
remainder-is (negsuc m) n = omega arith

pub value-is : (w : ℕ) → w < 65536 → to_z w16 w ≡ value_of w
unfolding value_of
value-is w h = go (ltb w 32768) refl
  where
    go : (b : Bool) → ltb w 32768 ≡ b → to_z w16 w ≡ value_of w
    go true e = let l = ltb-true w 32768 e in rw (e, value_of) (omega (arith, ints))
    go false e = let l = ltb-false w 32768 e in rw (e, value_of) (omega (arith, ints))
