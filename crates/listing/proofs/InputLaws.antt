-- Words from bytes, pair by pair.
use Prim.Native.Nat.{ℕ, zero, suc, ◌+◌, ◌*◌, ◌/◌, ◌≤◌, ◌<◌}
use mathlib.Core.Path.{◌≡◌, refl}
use mathlib.Core.List.{List, [], ◌∷◌}
use native.Mathlib.Omega.{arith}
use lib.ListN.{length, get_or}
use Rattle.std.specs.Simd.{first_chunks}
use Rattle.rules.specs.Program.{words_from}

pub words-length : (bytes : List ℕ) → length (words_from bytes) ≡ length bytes / 2
unfolding words_from
words-length [] = refl
words-length (low ∷ []) = refl
words-length (low ∷ high ∷ bytes) = omega (arith, words-length bytes)

-- The word of a pair.
abbrev pub word_of : List ℕ → ℕ
word_of pair = get_or pair 0 0 + get_or pair 1 0 * 256

pub words-at :
    (k : ℕ) (bytes : List ℕ) (i : ℕ) → 2 * k ≤ length bytes → i < k
    → get_or (words_from bytes) i 0 ≡ word_of (get_or (first_chunks 2 k bytes) i [])
unfolding words_from
words-at zero bytes i h l = absurd (omega arith)
words-at (suc k) [] i h l = absurd (omega arith)
words-at (suc k) (low ∷ []) i h l = absurd (omega arith)
words-at (suc k) (low ∷ high ∷ bytes) zero h l = omega arith
words-at (suc k) (low ∷ high ∷ bytes) (suc i) h l = words-at k bytes i (omega arith) (omega arith)
