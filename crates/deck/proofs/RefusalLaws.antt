-- The refusals by their numbers. `listed` is the one law that goes through them.
use Prim.Native.Nat.{ℕ, ◌≤◌}
use mathlib.Core.Path.{◌≡◌, refl, ap, sym, ◌∙◌}
use mathlib.Core.Bool.{true, false}
use mathlib.Core.List.{List, [], ◌∷◌}
use native.Mathlib.Omega.{arith}
use lib.Dec.{eqb}
use Rattle.rules.specs.Refusals.{Refusal, bad_header, bad_symbol, bad_starts, long_clause, bad_clause, long_query, bad_query, bad_store, bad_scratch, bad_text, no_room, bad_goals, loose_clause, loose_query, bad_bars, barred_reached, bad_answers, not_number, bad_drill, refusal_number, Checked, refused, accepted, checked_number}
use Rattle.deck.specs.declared.Refusal.{Refusal as Why}
use Rattle.std.specs.Prelude.{Err}
use Rattle.deck.specs.Answers.{number_of, refusal_for}

abbrev refusals : List Refusal
refusals =
    bad_header ∷ bad_symbol ∷ bad_starts ∷ long_clause ∷ bad_clause ∷ long_query ∷ bad_query ∷ bad_store ∷ bad_scratch
    ∷ bad_text ∷ no_room ∷ bad_goals ∷ loose_clause ∷ loose_query ∷ bad_bars ∷ barred_reached ∷ bad_answers ∷ not_number ∷ bad_drill ∷ []

-- The one of them that has a number.
abbrev numbered_in : ℕ → List Refusal → Refusal
numbered_in n [] = bad_header
numbered_in n (r ∷ rs) = elim (eqb (refusal_number r) n) [ true ↦ r | false ↦ numbered_in n rs ]

abbrev numbered : ℕ → Refusal
numbered n = numbered_in n refusals

listed : (r : Refusal) → (1 ≤ refusal_number r) × (refusal_number r ≤ 99) × (numbered (refusal_number r) ≡ r)
listed bad_header = (omega arith, omega arith, refl)
listed bad_symbol = (omega arith, omega arith, refl)
listed bad_starts = (omega arith, omega arith, refl)
listed long_clause = (omega arith, omega arith, refl)
listed bad_clause = (omega arith, omega arith, refl)
listed long_query = (omega arith, omega arith, refl)
listed bad_query = (omega arith, omega arith, refl)
listed bad_store = (omega arith, omega arith, refl)
listed bad_scratch = (omega arith, omega arith, refl)
listed bad_text = (omega arith, omega arith, refl)
listed no_room = (omega arith, omega arith, refl)
listed bad_goals = (omega arith, omega arith, refl)
listed loose_clause = (omega arith, omega arith, refl)
listed loose_query = (omega arith, omega arith, refl)
listed bad_bars = (omega arith, omega arith, refl)
listed barred_reached = (omega arith, omega arith, refl)
listed bad_answers = (omega arith, omega arith, refl)
listed not_number = (omega arith, omega arith, refl)
listed bad_drill = (omega arith, omega arith, refl)

pub number-positive : (r : Refusal) → 1 ≤ refusal_number r
number-positive r = (listed r).0

pub number_small : (r : Refusal) → refusal_number r ≤ 99
number_small r = (listed r).1

-- The number decides the refusal.
pub number-injective : (r s : Refusal) → refusal_number r ≡ refusal_number s → r ≡ s
number-injective r s e = sym (listed r).2 ∙ ap numbered e ∙ (listed s).2

-- A refusal's number is not 0.
pub refused-number : (why : Why) → number_of (Err why) ≡ 0 → ⊥
refused-number why e = omega (arith, number-positive (refusal_for why))

-- What checks come to is decided by the number.
module _ {A : Type 0} where
  pub number-accepts : (c : Checked A) → 0 ≡ checked_number c → (a : A) × (c ≡ accepted a)
  number-accepts (refused n) e = absurd (omega (arith, number-positive n))
  number-accepts (accepted a) e = (a, refl)

  pub number-refuses : (why : Why) (c : Checked A) → number_of (Err why) ≡ checked_number c → c ≡ refused (refusal_for why)
  number-refuses why (refused n) e = ap refused (number-injective n (refusal_for why) (sym e))
  number-refuses why (accepted a) e = absurd (refused-number why e)
