-- The bytes of words, word by word.
use Prim.Native.Nat.{ℕ, ◌+◌, ◌*◌, ◌/◌, ◌%◌, ◌≤◌, ◌<◌}
use mathlib.Core.Path.{◌≡◌, refl}
use mathlib.Core.List.{List, [], ◌∷◌, ◌++◌}
use native.Mathlib.Omega.{arith}
use native.Mathlib.Numerals.{add-one}
use lib.ListN.{length, get_or, drop, length-drop}
use lib.Seq.{drop-cons}
use Rattle.rules.specs.Program.{bytes_from}

pub bytes_next :
    (words : List ℕ) (i : ℕ) → i < length words
    → bytes_from (drop i words) ≡ (get_or words i 0 % 256 ∷ get_or words i 0 / 256 ∷ []) ++ bytes_from (drop (i + 1) words)
unfolding bytes_from
bytes_next words i h = rw (add-one, drop-cons words i 0 h)

no_bytes : (words : List ℕ) → length words ≡ 0 → bytes_from words ≡ []
unfolding bytes_from
no_bytes [] h = refl
no_bytes (w ∷ ws) h = absurd (omega arith)

pub bytes-end : (words : List ℕ) (i : ℕ) → length words ≤ i → bytes_from (drop i words) ≡ []
bytes-end words i h = no_bytes (drop i words) (omega (arith, length-drop i words))

pub bytes-length : (words : List ℕ) → length (bytes_from words) ≡ 2 * length words
unfolding bytes_from
bytes-length [] = refl
bytes-length (w ∷ ws) = omega (arith, bytes-length ws)
