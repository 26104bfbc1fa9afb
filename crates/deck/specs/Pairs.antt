-- The words of symbols in format 2, two at a time: whether they fit, by the values that were seen before them (document 02, U10).
use Rattle.std.specs.Prelude.{ℕ, ◌/◌, ◌%◌, ◌≡◌, Bool, true, false, ◌&&◌, ◌||◌, List, [], ◌∷◌, get_or, eqb, Option, Some, None}
use Rattle.std.specs.Int.{bit_at}
use Rattle.std.proofs.Math.Option as rules

-- `go` tells whether the words after them fit.
unfoldable pub pair_fits : (ℕ → Bool) → ℕ → ℕ → ((ℕ → Bool) → Bool) → Bool
pair_fits seen w v go =
    elim (eqb w 512) [
      | true ↦ elim (seen v) [ true ↦ false | false ↦ go (λ x. eqb x v || seen x) ]
      | false ↦ eqb v 0 && go seen
    ]

unfoldable pub values_fit : (ℕ → Bool) → List ℕ → Bool
values_fit seen [] = true
values_fit seen (w ∷ []) = false
values_fit seen (w ∷ v ∷ ws) = pair_fits seen w v (λ s. values_fit s ws)

-- The values whose bits are set in words of 64 bits.
abbrev pub marked : List ℕ → ℕ → Bool
marked words x = eqb (bit_at (get_or words (x / 64) 0) (x % 64)) 1

-- What looking at one symbol leaves: the answer, and the bits with which the words after it are looked at.
abbrev pub Turned : List ℕ → ℕ → ℕ → Bool → List ℕ → Type 0
Turned before w v r after = (go : (ℕ → Bool) → Bool) → pair_fits (marked before) w v go ≡ (r && go (marked after))

-- A word that there is, or none.
abbrev pub known_word : rules.Option ℕ → Option ℕ
known_word rules.none = None
known_word (rules.some w) = Some w
