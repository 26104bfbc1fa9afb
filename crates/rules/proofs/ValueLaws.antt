-- What "lowest" and "highest" mean: in the order of values, the lowest of some values is below each of them and above whatever is below each,
-- and the highest is above each of them and below whatever is above each.
use mathlib.Core.Logic.{∥∥₁_elim}
use mathlib.Core.List.{List, Memᴰ}
use Rattle.rules.specs.Meaning.{Filling}
use Rattle.rules.specs.ThreeValues.{Value, ◌≼◌, lowest, highest, highest_over}
use Rattle.rules.proofs.ListLaws.{all_in, in_all, some_in, in_some}

module _ {A : Type 0} (v : A → Value) (xs : List A) where
  pub lowest-below : (x : A) → Memᴰ x xs → lowest v xs ≼ v x
  lowest-below x m = (λ t. in_all (λ y. (v y).is_true) xs t x m, λ f. ∣ in_some (λ y. (v y).is_false) xs x m f ∣₁)

  pub lowest-greatest : (w : Value) → IsProp w.is_false → ((x : A) → Memᴰ x xs → w ≼ v x) → w ≼ lowest v xs
  lowest-greatest w prop below = (
    λ t. all_in (λ y. (v y).is_true) xs (λ x m. (below x m).0 t),
    λ f. ∥∥₁_elim f prop (λ s. let k = some_in (λ y. (v y).is_false) xs s in (below k.0 k.1).1 k.2),
  )

  pub highest-above : (x : A) → Memᴰ x xs → v x ≼ highest v xs
  highest-above x m = (λ t. ∣ in_some (λ y. (v y).is_true) xs x m t ∣₁, λ f. in_all (λ y. (v y).is_false) xs f x m)

  pub highest-least : (w : Value) → IsProp w.is_true → ((x : A) → Memᴰ x xs → v x ≼ w) → highest v xs ≼ w
  highest-least w prop above = (
    λ t. ∥∥₁_elim t prop (λ s. let k = some_in (λ y. (v y).is_true) xs s in (above k.0 k.1).0 k.2),
    λ f. all_in (λ y. (v y).is_false) xs (λ x m. (above x m).1 f),
  )

-- The same over the fillings that match.
module _ (Matches : Filling → Type 0) (v : Filling → Value) where
  pub over-above : (ν : Filling) → Matches ν → v ν ≼ highest_over Matches v
  over-above ν m = (λ t. ∣ (ν, m, t) ∣₁, λ f. f ν m)

  pub over-least : (w : Value) → IsProp w.is_true → ((ν : Filling) → Matches ν → v ν ≼ w) → highest_over Matches v ≼ w
  over-least w prop above = (λ t. ∥∥₁_elim t prop (λ k. (above k.0 k.1).0 k.2), λ f ν m. (above ν m).1 f)
