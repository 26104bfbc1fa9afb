-- Decimal digits by weights.
use Rattle.std.specs.Prelude.{ℕ, zero, suc, ◌+◌, ◌*◌, ◌/◌, ◌%◌, Bool, true, false, ◌||◌, List, [], ◌∷◌, ◌++◌, leb, eqb}

-- A byte, or nothing.
abbrev pub shown_if : Bool → ℕ → List ℕ
shown_if true b = b ∷ []
shown_if false b = []

-- The digit of n at a weight. A leading zero is left out, but not at the weight 1.
abbrev pub digit : ℕ → ℕ → List ℕ
digit weight n = shown_if (leb weight n || eqb weight 1) (48 + n / weight % 10)

abbrev pub digits_at : List ℕ → ℕ → List ℕ
digits_at [] n = []
digits_at (weight ∷ ws) n = digit weight n ++ digits_at ws n

-- The weight of a place, which is ten times that of the next. Places are counted from the last, which is 0.
abbrev pub weight_at : ℕ → ℕ
weight_at zero = 1
weight_at (suc place) = 10 * weight_at place

-- The weights of so many places, the greatest first, and those of the five that are written at once.
abbrev pub weights_of : ℕ → List ℕ
weights_of zero = []
weights_of (suc k) = weight_at k ∷ weights_of k

abbrev pub weights : List ℕ
weights = weights_of 5
