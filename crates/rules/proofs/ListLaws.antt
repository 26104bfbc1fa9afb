-- Lists all of whose elements have a property, and how many goals there are.
use mathlib.Core.Path.{◌≡◌, refl, sym, ap, subst}
use mathlib.Core.Logic.{inl, inr}
use mathlib.Core.List.Memᴰ
use mathlib.Core.List.{List, [], ◌∷◌, ◌++◌, map, Memᴰ}
use Prim.Native.Nat.{suc}
use lib.ListN.{length}
use Rattle.rules.specs.Syntax.{Goal}
use Rattle.rules.specs.Goals.{unmarked}
use Rattle.rules.specs.WellFormed.{All}
use Rattle.rules.specs.Meaning.{Some}

module _ {ℓ} {A : Type ℓ} (P : A → Type 0) where
  pub all_append : (xs ys : List A) → All P xs → All P ys → All P (xs ++ ys)
  all_append [] ys a b = b
  all_append (x ∷ xs) ys a b = (a.0, all_append xs ys a.1 b)

  pub all_split : (xs ys : List A) → All P (xs ++ ys) → All P xs × All P ys
  all_split [] ys a = (tt, a)
  all_split (x ∷ xs) ys a = let r = all_split xs ys a.1 in ((a.0, r.0), r.1)

  pub all_snoc : (xs : List A) (y : A) → All P xs → P y → All P (xs ++ (y ∷ []))
  all_snoc xs y a p = all_append xs (y ∷ []) a (p, tt)

  -- A property that holds of everything.
  pub all_of : ((x : A) → P x) → (xs : List A) → All P xs
  all_of h [] = tt
  all_of h (x ∷ xs) = (h x, all_of h xs)

-- A property that follows from another.
pub all-weaken {ℓ} : {A : Type ℓ} (P Q : A → Type 0) → ((x : A) → P x → Q x) → (xs : List A) → All P xs → All Q xs
all-weaken P Q h [] a = tt
all-weaken P Q h (x ∷ xs) a = (h x a.0, all-weaken P Q h xs a.1)

pub all_both {ℓ} : {A : Type ℓ} (P Q : A → Type 0) (xs : List A) → All P xs → All Q xs → All (λ x. P x × Q x) xs
all_both P Q [] a b = tt
all_both P Q (x ∷ xs) a b = ((a.0, b.0), all_both P Q xs a.1 b.1)

pub all_map {ℓ κ} : {A : Type ℓ} {B : Type κ} (P : B → Type 0) (f : A → B) (xs : List A) → All (λ x. P (f x)) xs → All P (map f xs)
all_map P f [] a = tt
all_map P f (x ∷ xs) a = (a.0, all_map P f xs a.1)

-- What holds of goals holds of them with mark 0.
pub unmarked-all : (P : Goal → Type 0) (gs : List Goal) → All P gs → All (λ m. P m.goal) (unmarked gs)
unmarked-all P [] w = tt
unmarked-all P (g ∷ gs) w = (w.0, unmarked-all P gs w.1)

pub length-unmarked : (gs : List Goal) → length (unmarked gs) ≡ length gs
length-unmarked [] = refl
length-unmarked (g ∷ gs) = ap suc (length-unmarked gs)

-- What holds of every element, or of some, by the elements that are in the list.
module _ {ℓ} {A : Type ℓ} (P : A → Type 0) where
  pub all_in : (xs : List A) → ((x : A) → Memᴰ x xs → P x) → All P xs
  all_in [] h = tt
  all_in (x ∷ xs) h = (h x (Memᴰ.head refl), all_in xs (λ y m. h y (Memᴰ.tail m)))

  pub in_all : (xs : List A) → All P xs → (x : A) → Memᴰ x xs → P x
  in_all [] a x m = absurd (Memᴰ.not-nil m)
  in_all (y ∷ ys) a x m = elim (Memᴰ.cases_cons m) [ inl e ↦ subst P (sym e) a.0 | inr k ↦ in_all ys a.1 x k ]

  pub some_in : (xs : List A) → Some P xs → (x : A) × Memᴰ x xs × P x
  some_in [] h = absurd h
  some_in (x ∷ xs) (inl h) = (x, Memᴰ.head refl, h)
  some_in (x ∷ xs) (inr h) = let r = some_in xs h in (r.0, Memᴰ.tail r.1, r.2)

  pub in_some : (xs : List A) (x : A) → Memᴰ x xs → P x → Some P xs
  in_some [] x m h = absurd (Memᴰ.not-nil m)
  in_some (y ∷ ys) x m h = elim (Memᴰ.cases_cons m) [ inl e ↦ inl (subst P e h) | inr k ↦ inr (in_some ys x k h) ]
