-- The trail: the place of a variable in it, and taking its bindings back. Assumes nothing.
use mathlib.Core.Path.{◌≡◌, refl, sym, ◌∙◌}
use mathlib.Core.Logic.{◌≢◌}
use mathlib.Core.List.{List, [], ◌∷◌, ◌++◌}
use Prim.Native.Nat.{ℕ, zero, suc, ◌+◌, ◌≤◌, ◌<◌}
use native.Mathlib.Decide.{ℕ_discrete}
use native.Mathlib.Omega.{arith}
use lib.ListN.{length, get_or, take, set, length-set, length-append}
use lib.Seq.{take-suc, take-length, take-append_seam, get_or-set_same, get_or-set_other}
use Rattle.std.proofs.lemmas.List.{get_or_push, get_or-take, length-take-le}
use Rattle.rules.proofs.TermLaws.{ite-yes, ite-no}
use Rattle.std.specs.Prelude.{Option, Some, None}
use Rattle.matching.specs.Bindings.{Places, later, NoBindings, Trailed}

-- the place of a variable in the trail
pub later-here : (v x : ℕ) (xs : List ℕ) → v ≡ x → later v (x ∷ xs) ≡ suc (length xs)
unfolding later
later-here v x xs h = ite-yes (ℕ_discrete v x) _ _ h

pub later-there : (v x : ℕ) (xs : List ℕ) → v ≢ x → later v (x ∷ xs) ≡ later v xs
unfolding later
later-there v x xs h = ite-no (ℕ_discrete v x) _ _ h

pub later-none : (v : ℕ) → later v [] ≡ 0
unfolding later
later-none v = refl

-- a variable that is not in the trail is not its first
pub absent : (v x : ℕ) (xs : List ℕ) → later v (x ∷ xs) ≡ 0 → (v ≢ x) × (later v xs ≡ 0)
absent v x xs h = cases (ℕ_discrete v x)
  where
    cases : Dec (v ≡ x) → (v ≢ x) × (later v xs ≡ 0)
    cases (yes e) = absurd (omega (arith, later-here v x xs e))
    cases (no q) = (q, sym (later-there v x xs q) ∙ h)

pub later-in : (w y : ℕ) (xs : List ℕ) → 0 < later w xs → later w (xs ++ (y ∷ [])) ≡ later w xs + 1
later-in w y [] h = absurd (omega (arith, later-none w))
later-in w y (x ∷ xs) h = elim (ℕ_discrete w x) [
  | yes e ↦ omega (arith, later-here w x (xs ++ (y ∷ [])) e, later-here w x xs e, length-append xs (y ∷ []))
  | no q ↦ omega (arith, later-there w x (xs ++ (y ∷ [])) q, later-there w x xs q, later-in w y xs (omega (arith, later-there w x xs q)))
]

pub later-out : (w y : ℕ) (xs : List ℕ) → later w xs ≡ 0 → later w (xs ++ (y ∷ [])) ≡ later w (y ∷ [])
later-out w y [] h = refl
later-out w y (x ∷ xs) h = let a = absent w x xs h in later-there w x (xs ++ (y ∷ [])) a.0 ∙ later-out w y xs a.1

pub later-le : (w y : ℕ) (xs : List ℕ) → later w (xs ++ (y ∷ [])) ≤ later w xs + 1
later-le w y xs = cases (ℕ_discrete (later w xs) 0) (ℕ_discrete w y)
  where
    cases : Dec (later w xs ≡ 0) → Dec (w ≡ y) → later w (xs ++ (y ∷ [])) ≤ later w xs + 1
    cases (yes z) (yes e) = omega (arith, later-out w y xs z, later-here w y [] e)
    cases (yes z) (no q) = omega (arith, later-out w y xs z, later-there w y [] q, later-none w)
    cases (no z) d = omega (arith, later-in w y xs (omega arith))

-- without the last
later-left : (w y : ℕ) (xs : List ℕ) → 0 < later w (xs ++ (y ∷ [])) → w ≢ y → 0 < later w xs
later-left w y xs h q = cases (ℕ_discrete (later w xs) 0)
  where
    cases : Dec (later w xs ≡ 0) → 0 < later w xs
    cases (yes z) = absurd (omega (arith, later-out w y xs z, later-there w y [] q, later-none w))
    cases (no z) = omega arith

-- an option that holds nothing
pub is-none : (o : Option ℕ) → ((p : ℕ) → o ≡ Some p → ⊥) → o ≡ None
is-none None h = refl
is-none (Some p) h = absurd (h p refl)

-- the last variable is free and unstamped again
module _ {bs : Places} {trail stamps : List ℕ} (i : ℕ) (t : Trailed bs trail stamps (suc i)) where
  last : get_or trail i 0 < length bs
  last = t.listed i (omega arith)

  others : {w : ℕ} → w ≢ get_or trail i 0 → get_or (set bs (get_or trail i 0) None) w None ≡ get_or bs w None
  others {w} q = get_or-set_other bs (get_or trail i 0) w None None q

  taken' : (w p : ℕ) → get_or (set bs (get_or trail i 0) None) w None ≡ Some p → 0 < later w (take i trail)
  taken' w p h = cases (ℕ_discrete w (get_or trail i 0))
    where
      cases : Dec (w ≡ get_or trail i 0) → 0 < later w (take i trail)
      cases (yes e) = let z : get_or (set bs (get_or trail i 0) None) (get_or trail i 0) None ≡ None = get_or-set_same bs (get_or trail i 0) None None last in cc
      cases (no q) =
          let k : 0 < later w (take (suc i) trail) = t.taken w p (sym (others q) ∙ h) in
          later-left w (get_or trail i 0) (take i trail) (rw (take-suc trail i 0 t.within) at k) q

  bound' : (w : ℕ) → (get_or (set stamps (get_or trail i 0) 0) w 0 ≡ 0 → ⊥) → get_or (set bs (get_or trail i 0) None) w None ≡ None → ⊥
  bound' w h = cases (ℕ_discrete w (get_or trail i 0))
    where
      cases : Dec (w ≡ get_or trail i 0) → get_or (set bs (get_or trail i 0) None) w None ≡ None → ⊥
      cases (yes e) = absurd (h (rw e (get_or-set_same stamps (get_or trail i 0) 0 0 (omega (arith, last, t.wide)))))
      cases (no q) =
          λ z. t.bound w (λ y. h (get_or-set_other stamps (get_or trail i 0) w 0 0 q ∙ y)) (sym (others q) ∙ z)

  trailed-last : Trailed (set bs (get_or trail i 0) None) trail (set stamps (get_or trail i 0) 0) i
  trailed-last = record {
    within = omega (arith, t.within);
    wide = simp length-set t.wide;
    listed = λ k l. rw length-set (t.listed k (omega arith));
    taken = taken';
    bound = bound';
  }

module _ {bs : Places} {stamps : List ℕ} where
  -- no more of the trail than is bound
  pub trailed-taken : {trail : List ℕ} {n : ℕ} → Trailed bs trail stamps n → Trailed bs (take n trail) stamps (length (take n trail))
  trailed-taken {trail} {n} t =
      let e : length (take n trail) ≡ n = length-take-le n trail t.within in
      record {
        within = omega arith;
        wide = t.wide;
        listed = λ i l. rw (get_or-take n trail i 0 (omega (arith, e))) (t.listed i (omega (arith, e)));
        taken = λ v p h. rw take-length (t.taken v p h);
        bound = t.bound;
      }

module _ {bs : Places} {stamps : List ℕ} where
  -- without the last
  pub trailed-popped : (xs : List ℕ) (y : ℕ) → Trailed bs (xs ++ (y ∷ [])) stamps (length (xs ++ (y ∷ []))) → Trailed (set bs y None) xs (set stamps y 0) (length xs)
  trailed-popped xs y t =
      let e : length (xs ++ (y ∷ [])) ≡ suc (length xs) = omega (arith, length-append xs (y ∷ [])) in
      let last : Trailed (set bs (get_or (xs ++ (y ∷ [])) (length xs) 0) None) (xs ++ (y ∷ [])) (set stamps (get_or (xs ++ (y ∷ [])) (length xs) 0) 0) (length xs) = trailed-last (length xs) (rw e at t) in
      let popped : Trailed (set bs y None) (xs ++ (y ∷ [])) (set stamps y 0) (length xs) = rw (get_or_push xs y 0 (length xs) refl) at last in
      let front : Trailed (set bs y None) (take (length xs) (xs ++ (y ∷ []))) (set stamps y 0) (length (take (length xs) (xs ++ (y ∷ [])))) = trailed-taken popped in
      rw take-append_seam at front

  pub trailed-none : {trail : List ℕ} {left : ℕ} → Trailed bs trail stamps left → left ≡ 0 → NoBindings bs stamps
  trailed-none {left = suc i} t h = absurd (omega arith)
  trailed-none {left = zero} t h = record { free = free'; unstamped = unstamped' }
    where
      free' : (v : ℕ) → get_or bs v None ≡ None
      free' v = is-none (get_or bs v None) (λ p e. omega (arith, t.taken v p e, later-none v))

      unstamped' : (w : ℕ) → get_or stamps w 0 ≡ 0
      unstamped' w = elim (ℕ_discrete (get_or stamps w 0) 0) [ yes e ↦ e | no q ↦ absurd (t.bound w q (free' w)) ]
