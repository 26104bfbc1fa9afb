-- Names by their hash.
use Rattle.std.specs.Prelude.{ℕ, zero, suc, ◌+◌, ◌*◌, ◌%◌, Bool, true, false, List, [], ◌∷◌, Option, Some, None, eqb}
use Rattle.text_rules.specs.TextGrammar.{same_bytes}

abbrev pub hash_of : ℕ → List ℕ → ℕ
hash_of h [] = h
hash_of h (b ∷ bs) = hash_of ((31 * h + b) % 1021) bs

-- One more than the last number below n whose name passes a test; 0 where there is none.
abbrev pub last_with : (List ℕ → Bool) → (ℕ → List ℕ) → ℕ → ℕ
last_with test name zero = 0
last_with test name (suc n) = elim (test (name n)) [ true ↦ suc n | false ↦ last_with test name n ]

abbrev pub found_at : ℕ → Option ℕ
found_at zero = None
found_at (suc k) = Some k

abbrev pub in_bucket : ℕ → List ℕ → Bool
in_bucket h n = eqb (hash_of 0 n) h

abbrev pub is_name : List ℕ → List ℕ → Bool
is_name n m = same_bytes m n
