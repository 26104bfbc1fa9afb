-- The parts of the line of refusal 10.
use Prim.Native.Nat.{ℕ, ◌≤◌, ◌<◌}
use mathlib.Core.Path.{◌≡◌, refl, ap, ◌∙◌}
use mathlib.Core.List.{List, [], ◌∷◌, ◌++◌}
use native.Mathlib.Omega.{arith}
use lib.ListN.{length, length-append}
use Rattle.rules.specs.Listing.{refused_text, digits, decimal}
use Rattle.text_rules.specs.TextProgram.{place_line}
use Rattle.listing.proofs.DigitLaws.{decimal-append, decimal-length}

-- The line of refusal 10.
pub ten : (rest : List ℕ) → decimal 10 rest ≡ 49 ∷ 48 ∷ rest
unfolding decimal digits
ten rest = refl

pub line-parts : (place : ℕ) → place_line place ≡ 114 ∷ 101 ∷ 102 ∷ 117 ∷ 115 ∷ 101 ∷ 100 ∷ 32 ∷ 49 ∷ 48 ∷ 32 ∷ (decimal place [] ++ (10 ∷ []))
unfolding place_line refused_text
line-parts place = ap (refused_text ++◌) (ten (32 ∷ decimal place (10 ∷ [])) ∙ ap {B = List ℕ} (λ xs. 49 ∷ 48 ∷ 32 ∷ xs) (decimal-append place [] (10 ∷ [])))

pub line-length : (place : ℕ) → place < 4294967296 → length (place_line place) ≤ 22
line-length place h =
    omega (arith, ap length (line-parts place), length-append (decimal place []) (10 ∷ []), decimal-length 9 place (omega arith))
