-- One bit set in a word.
use Prim.Native.Nat.{ℕ, ◌*◌, ◌%◌, ◌^◌, ◌<◌}
use mathlib.Core.Path.{◌≡◌, refl, ◌∙◌}
use native.Mathlib.Omega.{arith}
use native.Mathlib.Nat.{max-zero}
use Rattle.std.specs.Int.{bit_at}
use Rattle.std.specs.Int.Bits.{bit_or}
use Rattle.std.proofs.lemmas.Nat.{pow_below}
use Rattle.std.proofs.lemmas.Nat.Bits.{bit_at_or, bit_at-pow_same, bit_at-pow_other}

pub set-here : (n j : ℕ) → bit_at n j ≡ 0 → bit_at (bit_or n (2 ^ j)) j ≡ 1
set-here n j z = bit_at_or n (2 ^ j) j ∙ rw (z, bit_at-pow_same j) refl

pub set-other : (n j i : ℕ) → (i ≡ j → ⊥) → bit_at (bit_or n (2 ^ j)) i ≡ bit_at n i
set-other n j i d = bit_at_or n (2 ^ j) i ∙ rw (bit_at-pow_other j i d) (max-zero (bit_at n i))

pub shifted-one : (j : ℕ) → j < 64 → 1 * 2 ^ j % 18446744073709551616 ≡ 2 ^ j
shifted-one j h = omega (arith, pow_below j 64 h)
