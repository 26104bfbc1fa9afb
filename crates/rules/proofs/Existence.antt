-- "There is some": how it is read, and some element of a list.
use mathlib.Core.Logic.{◌↔◌, ◌⊎◌, inl, inr, ∥∥₁_elim, ∥∥₁_prop, ∥∥₁_map}
use mathlib.Core.HLevel.{⊥_prop}
use mathlib.Core.List.{List, [], ◌∷◌, ◌++◌}
use Rattle.rules.specs.Meaning.{Some}

-- How "there is some" is read. `Absurd` is what follows where there is nothing: ⊥, or else a proposition that is to be shown.
pub record Existence : Type 1 where
  pub M : Type 0 → Type 0
  pub unit : {A : Type 0} → A → M A
  pub bind : {A B : Type 0} → M A → (A → M B) → M B
  pub Absurd : Type 0
  pub never : M ⊥ → Absurd
  pub raise : {A : Type 0} → Absurd → M A

-- Mere existence, and one at hand.
abbrev pub merely : Existence
merely = record { M = λ A. ∥ A ∥₁; unit = λ a. ∣ a ∣₁; bind = λ a f. ∥∥₁_elim a ∥∥₁_prop f; Absurd = ⊥; never = λ a. ∥∥₁_elim a ⊥_prop (λ b. b); raise = λ b. absurd b }

abbrev pub at_hand : Existence
at_hand = record { M = λ A. A; unit = λ a. a; bind = λ a f. f a; Absurd = ⊥; never = λ b. b; raise = λ b. absurd b }

-- Mere existence, or else Z.
abbrev pub or_else : (Z : Type 0) → IsProp Z → Existence
or_else Z prop = record {
  M = λ A. ∥ A ⊎ Z ∥₁;
  unit = λ a. ∣ inl a ∣₁;
  bind = λ a f. ∥∥₁_elim a ∥∥₁_prop (λ s. elim s [ inl x ↦ f x | inr z ↦ ∣ inr z ∣₁ ]);
  Absurd = Z;
  never = λ a. ∥∥₁_elim a prop (λ s. elim s [ inl b ↦ absurd b | inr z ↦ z ]);
  raise = λ z. ∣ inr z ∣₁;
}

-- From a to b: where P holds before there is some P after, and where Q holds after it held before.
abbrev pub Into {ℓ} : Existence → {S : Type ℓ} → (S → Type 0) → (S → Type 0) → S → S → Type 0
Into X P Q a b = (P a → X.M (P b)) × (Q b → Q a)

module _ {ℓ} (X : Existence) {S : Type ℓ} (P Q : S → Type 0) where
  pub into-same : (a : S) → Into X P Q a a
  into-same a = (λ h. X.unit h, λ h. h)

  pub into-then : (a b c : S) → Into X P Q a b → Into X P Q b c → Into X P Q a c
  into-then a b c i j = (λ h. X.bind (i.0 h) j.0, λ h. i.1 (j.1 h))

-- Some element of two lists.
module _ {ℓ} {A : Type ℓ} (P : A → Type 0) where
  pub some_left : (xs ys : List A) → Some P xs → Some P (xs ++ ys)
  some_left [] ys h = absurd h
  some_left (x ∷ xs) ys (inl h) = inl h
  some_left (x ∷ xs) ys (inr h) = inr (some_left xs ys h)

  pub some_right : (xs ys : List A) → Some P ys → Some P (xs ++ ys)
  some_right [] ys h = h
  some_right (x ∷ xs) ys h = inr (some_right xs ys h)

  pub some-split : (xs ys : List A) → Some P (xs ++ ys) → Some P xs ⊎ Some P ys
  some-split [] ys h = inr h
  some-split (x ∷ xs) ys (inl h) = inl (inl h)
  some-split (x ∷ xs) ys (inr h) = elim (some-split xs ys h) [ inl a ↦ inl (inr a) | inr b ↦ inr b ]

pub some-map {ℓ} : {A : Type ℓ} (P Q : A → Type 0) → ((x : A) → P x → Q x) → (xs : List A) → Some P xs → Some Q xs
some-map P Q h [] k = k
some-map P Q h (x ∷ xs) (inl k) = inl (h x k)
some-map P Q h (x ∷ xs) (inr k) = inr (some-map P Q h xs k)

-- Mere existence of an element that merely has the property is mere existence of one that has it.
pub merely-some {ℓ} : {A : Type ℓ} (P : A → Type 0) (xs : List A) → ∥ Some (λ x. ∥ P x ∥₁) xs ∥₁ ↔ ∥ Some P xs ∥₁
merely-some {A = A} P xs = (λ h. ∥∥₁_elim h ∥∥₁_prop (gather xs), λ h. ∥∥₁_map h (spread xs))
  where
    gather : (ks : List A) → Some (λ x. ∥ P x ∥₁) ks → ∥ Some P ks ∥₁
    gather [] h = absurd h
    gather (k ∷ ks) (inl h) = ∥∥₁_map h inl
    gather (k ∷ ks) (inr h) = ∥∥₁_map (gather ks h) inr

    spread : (ks : List A) → Some P ks → Some (λ x. ∥ P x ∥₁) ks
    spread [] h = absurd h
    spread (k ∷ ks) (inl h) = inl ∣ h ∣₁
    spread (k ∷ ks) (inr h) = inr (spread ks h)

-- Where the second list is changed and the first stays.
pub into-behind {ℓ} :
    (X : Existence) {A : Type ℓ} (P Q : A → Type 0) (xs ys zs : List A) → Into X (Some P) (Some Q) ys zs → Into X (Some P) (Some Q) (xs ++ ys) (xs ++ zs)
into-behind X P Q xs ys zs i = (
  λ h. elim (some-split P xs ys h) [ inl k ↦ X.unit (some_left P xs zs k) | inr k ↦ X.bind (i.0 k) (λ m. X.unit (some_right P xs zs m)) ],
  λ h. elim (some-split Q xs zs h) [ inl k ↦ some_left Q xs ys k | inr k ↦ some_right Q xs ys (i.1 k) ],
)

pub some-behind {ℓ} : {A : Type ℓ} (P : A → Type 0) (xs ys zs : List A) → (∥ Some P ys ∥₁ → ∥ Some P zs ∥₁) → ∥ Some P (xs ++ ys) ∥₁ → ∥ Some P (xs ++ zs) ∥₁
some-behind P xs ys zs f h = ∥∥₁_elim h ∥∥₁_prop (λ k. elim (some-split P xs ys k) [ inl a ↦ ∣ some_left P xs zs a ∣₁ | inr b ↦ ∥∥₁_map (f ∣ b ∣₁) (some_right P xs zs) ])
