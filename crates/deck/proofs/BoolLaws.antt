-- Tests and whether something was found.
use Prim.Native.Nat.{ℕ}
use mathlib.Core.Path.{◌≡◌, refl, ◌∙◌}
use mathlib.Core.Bool.{Bool, true, false, ◌&&◌}
use mathlib.Core.Option.{Option, none, some}
use mathlib.Core.List.{List, [], ◌∷◌}
use native.Mathlib.Decide.{ℕ_discrete}
use lib.Dec.{eqb}
use borrow.Author.Tests.{eq-eqb, ne_eqb}
use Rattle.rules.specs.Decks.{read_next, read_all}
use Rattle.std.specs.List.{list_all}
use Rattle.deck.specs.Answers.{found}

pub and-swap : (a b c : Bool) → a && (b && c) ≡ b && (a && c)
and-swap true b c = refl
and-swap false true c = refl
and-swap false false c = refl

-- Two equations that hold together have the same test.
pub eqb_same : (a b c d : ℕ) → (a ≡ b → c ≡ d) → (c ≡ d → a ≡ b) → eqb a b ≡ eqb c d
eqb_same a b c d f g = go (ℕ_discrete a b)
  where
    go : Dec (a ≡ b) → eqb a b ≡ eqb c d
    go (yes e) = rw (eq-eqb a b e, eq-eqb c d (f e))
    go (no n) = rw (ne_eqb a b n, ne_eqb c d (λ e. n (g e)))

-- A list is read if each element is.
pub found-next : {A : Type 0} (o : Option A) (os : Option (List A)) → found (read_next o os) ≡ found o && found os
unfolding read_next found
found-next none os = refl
found-next (some a) none = refl
found-next (some a) (some as') = refl

pub found-cons : {A B : Type 0} (read : A → Option B) (x : A) (xs : List A) → found (read_all read (x ∷ xs)) ≡ found (read x) && found (read_all read xs)
unfolding read_all
found-cons read x xs = found-next (read x) (read_all read xs)

-- A list is read if all of its elements pass the test.
pub found_all : {A B : Type 0} (read : A → Option B) (xs : List A) → found (read_all read xs) ≡ list_all (λ x. found (read x)) xs
unfolding read_all found
found_all read [] = refl
found_all read (x ∷ xs) = found-cons read x xs ∙ rw (found_all read xs)
