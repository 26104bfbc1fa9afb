-- Budgets in digits, numbers in bytes, and the length of a file of goals.
use Prim.Native.Nat.{ℕ, ◌+◌, ◌-◌, ◌*◌, ◌≤◌, ◌<◌, min}
use mathlib.Core.Path.{◌≡◌, refl, ap, sym, ◌∙◌}
use mathlib.Core.Bool.{Bool, true, false, ◌&&◌}
use mathlib.Core.List.{List, [], ◌∷◌}
use native.Mathlib.Omega.{arith}
use native.Mathlib.Numerals.{add-one}
use Rattle.std.proofs.Common.{Bor, Option as Lent, Some, None, MatchOption, ◌⊎◌, inl, inr}
use Rattle.std.specs.Prelude.{IfOk}
use Rattle.std.specs.Bool.{then_some}
use Rattle.std.specs.Option.{ok_or}
use Rattle.deck.specs.declared.Refusal.TheVariants.{Goals}
use Rattle.listing.specs.Printed.{file_of}
use Rattle.program_parts.specs.Answers.{ComesTo}
use Rattle.program_parts.proofs.FilterLaws.{filter-none, filter-some}
use Rattle.program_parts.proofs.SizeLaws.{words-size}
use lib.ListN.{length, get_or, take, drop, length-drop}
use Rattle.std.specs.Int.{from_le_bytes}
use Rattle.std.proofs.Common.{slice_range, w64, zero, suc}
use lib.Seq.{drop-cons}
use lib.Dec.{leb}
use Rattle.rules.specs.Refusals.{bad_goals, Checked, refused, accepted, and_then, require, obtain}
use Rattle.rules.specs.Program.{even}
use Rattle.rules.specs.CarryProgram.{budget_after, number_from, goals_input}
use Rattle.std.proofs.Math.Option.{Option, none, some}

-- BUDGETS, byte by byte
budget_after-none : (n : ℕ) (bytes : List ℕ) → length bytes ≡ 0 → budget_after n bytes ≡ n
unfolding budget_after
budget_after-none n [] h = refl
budget_after-none n (byte ∷ bytes) h = absurd (omega arith)

module _ (n : ℕ) (text : List ℕ) (i : ℕ) where
  pub budget_after-end : length text ≤ i → budget_after n (drop i text) ≡ n
  budget_after-end h = budget_after-none n (drop i text) (omega (arith, length-drop i text))

  module _ (h : i < length text) where
    at_byte : drop i text ≡ get_or text i 0 ∷ drop (i + 1) text
    at_byte = drop-cons text i 0 h ∙ ap (λ (k : ℕ). get_or text i 0 ∷ drop k text) (sym (add-one i))

    pub budget_after-digit : (leb 48 (get_or text i 0) && leb (get_or text i 0) 57) ≡ true → budget_after n (drop i text) ≡ budget_after (min (10 * n + (get_or text i 0 - 48)) 4294967295) (drop (i + 1) text)
    unfolding budget_after
    budget_after-digit e = rw (at_byte, budget_after, e)

    pub budget_after-other : (leb 48 (get_or text i 0) && leb (get_or text i 0) 57) ≡ false → budget_after n (drop i text) ≡ n
    unfolding budget_after
    budget_after-other e = rw (at_byte, budget_after, e)

-- NUMBERS of eight bytes
number_from-take : (n : ℕ) (bytes : List ℕ) → number_from n (take n bytes) ≡ number_from n bytes
unfolding number_from
number_from-take zero bytes = refl
number_from-take (suc n) [] = refl
number_from-take (suc n) (byte ∷ bytes) = ap (λ (m : ℕ). byte + 256 * m) (number_from-take n bytes)

number_from-eight : (bytes : List ℕ) → number_from 8 bytes ≡ from_le_bytes w64 bytes
unfolding number_from
number_from-eight [] = omega arith
number_from-eight (a ∷ []) = omega arith
number_from-eight (a ∷ b ∷ []) = omega arith
number_from-eight (a ∷ b ∷ c ∷ []) = omega arith
number_from-eight (a ∷ b ∷ c ∷ d ∷ []) = omega arith
number_from-eight (a ∷ b ∷ c ∷ d ∷ e ∷ []) = omega arith
number_from-eight (a ∷ b ∷ c ∷ d ∷ e ∷ f ∷ []) = omega arith
number_from-eight (a ∷ b ∷ c ∷ d ∷ e ∷ f ∷ g ∷ []) = omega arith
number_from-eight (a ∷ b ∷ c ∷ d ∷ e ∷ f ∷ g ∷ h ∷ bytes) = omega arith

pub number_from-slice : (bytes : List ℕ) (at : ℕ) → from_le_bytes w64 (slice_range bytes at (at + 8)) ≡ number_from 8 (drop at bytes)
number_from-slice bytes at =
    let eight : (at + 8) - at ≡ 8 = omega arith in
    sym (number_from-eight _) ∙ ap (λ (n : ℕ). number_from 8 (take n (drop at bytes))) eight ∙ number_from-take 8 (drop at bytes)

-- FILES OF WORDS by their lengths: a whole one comes to its bytes, and no file or another to 12.
module _ (least most : ℕ) (input : Option (List ℕ) → Checked (List ℕ)) where
  abbrev pub file_size : List ℕ → Bool
  file_size bytes = even bytes && (leb least (length bytes) && leb (length bytes) most)

  pub record BySize : Type 0 where
    pub missing : input none ≡ refused bad_goals
    pub unfit : (bytes : List ℕ) → file_size bytes ≡ false → input (some bytes) ≡ refused bad_goals
    pub whole : (bytes : List ℕ) → file_size bytes ≡ true → input (some bytes) ≡ accepted bytes

  module _ (s : BySize) where
    file-unfit : (file : Lent (Bor (List ℕ))) → (file ≡ None) ⊎ ((bytes : Bor (List ℕ)) × (file ≡ Some bytes) × (file_size bytes.now ≡ false)) → input (file_of file) ≡ refused bad_goals
    file-unfit file (inl e) = rw e s.missing
    file-unfit file (inr (bytes, e, f)) = rw e (s.unfit bytes.now f)

    -- What the size's test keeps of a file.
    pub file-comes : {Gives : Bor (List ℕ) → Bool → Type 0} → ((x : Bor (List ℕ)) (b : Bool) → Gives x b → b ≡ file_size x.now) → (file kept : Lent (Bor (List ℕ)))
        → MatchOption file (kept ≡ None) (λ x. (b : Bool) × Gives x b × (kept ≡ then_some b x))
        → ComesTo (input (file_of file)) (ok_or kept Goals) × IfOk (ok_or kept Goals) (λ bytes. (least ≤ length bytes.now) × (length bytes.now ≤ most))
    file-comes says file None k = (file-unfit file (filter-none (λ (x : Bor (List ℕ)). file_size x.now) says file None k refl), tt)
    file-comes says file (Some bytes) k =
        let f = filter-some (λ (x : Bor (List ℕ)). file_size x.now) says file (Some bytes) k bytes refl in
        (rw f.0 (s.whole bytes.now f.1), words-size bytes.now least most f.1)

-- The file of goals.
pub goals-sized : BySize 24 32792 goals_input
unfolding goals_input and_then require obtain
goals-sized = record { missing = refl; unfit = λ bytes e. rw e refl; whole = λ bytes e. rw e refl }
