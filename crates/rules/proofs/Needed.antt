-- The premise of `evaluate-values` is not idle: without one, every sequence of bits would be 0 throughout or have a 1 somewhere (the limited
-- principle of omniscience), which is not to be had without some of excluded middle.
use Prim.Native.Nat.{ℕ, zero, suc}
use mathlib.Core.Path.{◌≡◌, refl, ap, subst}
use mathlib.Core.Logic.{◌↔◌, ◌⊎◌, inl, inr, ∥∥₁_elim, ∥∥₁_prop, ∥∥₁_map}
use mathlib.Core.HLevel.{⊥_prop, Unit-prop, Π_prop}
use mathlib.Core.Bool.{Bool, true, false, Bool-set}
use mathlib.Core.List.{List, [], ◌∷◌, ◌++◌}
use native.Mathlib.Omega.{arith}
use Rattle.rules.specs.Terms.{var, nil, cons}
use Rattle.rules.specs.Syntax.{predicate, pos, format1, Deck, Goal}
use Rattle.rules.specs.Goals.{Marked, unmarked}
use Rattle.rules.specs.Evaluation.{evaluate}
use Rattle.rules.specs.All.{rules}
use Rattle.rules.specs.Meaning.{Ind, Inds, node, inil, icons, Filling, evals, individuals}
use Rattle.rules.specs.ThreeValues.{◌≈◌, Interpretation3, clause_value, highest, Satisfies3, goals_value}
use Rattle.rules.proofs.Cover.{remaining}

-- The functor of an individual.
abbrev root : Ind → ℕ
root (node f us) = f

-- p if r(x); r(x) if r(x); q if q. Their numbers are 0, 1, 2.
abbrev loops : Deck
loops = record {
  format = format1;
  symbols = predicate 0 ∷ predicate 1 ∷ predicate 0 ∷ [];
  clauses =
      record { predicate = 0; arguments = nil; body = pos 1 (cons (var 0) nil) ∷ [] }
      ∷ record { predicate = 1; arguments = cons (var 0) nil; body = pos 1 (cons (var 0) nil) ∷ [] }
      ∷ record { predicate = 2; arguments = nil; body = pos 2 nil ∷ [] }
      ∷ [];
}

-- The goal "p and q", and the goal derived from it, "q and r(x)".
abbrev both : Goal
both = record { answer_terms = nil; literals = pos 0 nil ∷ pos 2 nil ∷ [] }

abbrev derived : Goal
derived = record { answer_terms = nil; literals = pos 2 nil ∷ pos 1 (cons (var 0) nil) ∷ [] }

one-step : remaining (evaluate loops 0 1024 (both ∷ []) [] 1) ≡ unmarked (derived ∷ [])
unfolding rules
one-step = refl

module _ (R : Ind → Type 0) (R-prop : (u : Ind) → IsProp (R u)) (Q : Type 0) (Q-prop : IsProp Q) where
  -- Nothing is true, r(u) is false if R u, q if Q, and p if R u for all u.
  abbrev False : ℕ → Inds → Type 0
  False zero inil = (u : Ind) → R u
  False zero (icons u us) = Unit {0}
  False (suc zero) inil = Unit {0}
  False (suc zero) (icons u inil) = R u
  False (suc zero) (icons u (icons v vs)) = Unit {0}
  False (suc (suc zero)) inil = Q
  False (suc (suc zero)) (icons u us) = Unit {0}
  False (suc (suc (suc n))) us = Unit {0}

  False-prop : (p : ℕ) (us : Inds) → IsProp (False p us)
  False-prop zero inil = Π_prop R-prop
  False-prop zero (icons u us) = Unit-prop
  False-prop (suc zero) inil = Unit-prop
  False-prop (suc zero) (icons u inil) = R-prop u
  False-prop (suc zero) (icons u (icons v vs)) = Unit-prop
  False-prop (suc (suc zero)) inil = Q-prop
  False-prop (suc (suc zero)) (icons u us) = Unit-prop
  False-prop (suc (suc (suc n))) us = Unit-prop

  abbrev looping : Interpretation3
  looping = record {
    value = λ p us. record { is_true = ⊥; is_false = False p us };
    true_proposition = λ p us. ⊥_prop;
    false_proposition = False-prop;
    never_both = λ p us t f. t;
  }

  only : {A : Type 0} → IsProp A → ∥ A ⊎ ⊥ ∥₁ → A
  only prop h = ∥∥₁_elim h prop (λ s. elim s [ inl a ↦ a | inr b ↦ absurd b ])

  apart : {A : Type 0} (us vs : Inds) → ¬ (individuals us ≡ individuals vs) → us ≡ vs → A
  apart us vs n e = absurd (n (ap individuals e))

  false-given : (p : ℕ) (us : Inds) → False p us ↔ (highest (clause_value looping p us) loops.clauses).is_false
  false-given zero inil = (
    λ f. (λ ν e. ∣ inl (f (ν 0)) ∣₁, (λ ν e. absurd (omega (arith, e.0)), (λ ν e. absurd (omega (arith, e.0)), tt))),
    λ h u. only (R-prop u) (h.0 (λ v. u) (refl, refl)),
  )
  false-given zero (icons u us) = (
    λ f. (λ ν e. apart inil (icons u us) (λ z. omega arith) e.1, (λ ν e. absurd (omega (arith, e.0)), (λ ν e. absurd (omega (arith, e.0)), tt))),
    λ h. tt,
  )
  false-given (suc zero) inil = (
    λ f. (λ ν e. absurd (omega (arith, e.0)), (λ ν e. apart (icons (ν 0) inil) inil (λ z. omega arith) e.1, (λ ν e. absurd (omega (arith, e.0)), tt))),
    λ h. tt,
  )
  false-given (suc zero) (icons u inil) = (
    λ f. (λ ν e. absurd (omega (arith, e.0)), (λ ν e. ∣ inl (let s : u ≡ ν 0 = cc e.1 in subst R s f) ∣₁, (λ ν e. absurd (omega (arith, e.0)), tt))),
    λ h. only (R-prop u) (h.1.0 (λ v. u) (refl, refl)),
  )
  false-given (suc zero) (icons u (icons v vs)) = (
    λ f. (λ ν e. absurd (omega (arith, e.0)), (λ ν e. apart (icons (ν 0) inil) (icons u (icons v vs)) (λ z. omega arith) e.1, (λ ν e. absurd (omega (arith, e.0)), tt))),
    λ h. tt,
  )
  false-given (suc (suc zero)) inil = (
    λ f. (λ ν e. absurd (omega (arith, e.0)), (λ ν e. absurd (omega (arith, e.0)), (λ ν e. ∣ inl f ∣₁, tt))),
    λ h. only Q-prop (h.1.1.0 (λ v. node 0 inil) (refl, refl)),
  )
  false-given (suc (suc zero)) (icons u us) = (
    λ f. (λ ν e. absurd (omega (arith, e.0)), (λ ν e. absurd (omega (arith, e.0)), (λ ν e. apart inil (icons u us) (λ z. omega arith) e.1, tt))),
    λ h. tt,
  )
  false-given (suc (suc (suc n))) us = (
    λ f. (λ ν e. absurd (omega (arith, e.0)), (λ ν e. absurd (omega (arith, e.0)), (λ ν e. absurd (omega (arith, e.0)), tt))),
    λ h. tt,
  )

  never-given : (p : ℕ) (us : Inds) → ¬ (highest (clause_value looping p us) loops.clauses).is_true
  never-given p us h = ∥∥₁_elim h ⊥_prop (λ s. elim s [
    | inl a ↦ ∥∥₁_elim a ⊥_prop (λ k. k.2.0)
    | inr t ↦ elim t [
      | inl b ↦ ∥∥₁_elim b ⊥_prop (λ k. k.2.0)
      | inr w ↦ elim w [ inl c ↦ ∥∥₁_elim c ⊥_prop (λ k. k.2.0) | inr b ↦ b ]
    ]
  ])

  looping-satisfies : Satisfies3 looping loops
  unfolding Satisfies3
  looping-satisfies p us = ((λ b. absurd b, never-given p us), false-given p us)

  from_back :
      ((goals_value looping inil (remaining (evaluate loops 0 1024 (both ∷ []) [] 1))).is_false → (goals_value looping inil (unmarked (both ∷ []))).is_false)
      → ((u : Ind) → ∥ R u ⊎ Q ∥₁) → ∥ ((u : Ind) → R u) ⊎ Q ∥₁
  unfolding goals_value
  from_back back h = ∥∥₁_map ((back (rw one-step (after, tt))).0 (λ v. node 0 inil) refl) (λ s. elim s [ inl f ↦ inl f | inr t ↦ elim t [ inl q ↦ inr q | inr b ↦ absurd b ] ])
    where
      after : (ν : Filling) → evals ν nil ≡ inil → ∥ Q ⊎ (R (ν 0) ⊎ ⊥) ∥₁
      after ν e = ∥∥₁_map (h (ν 0)) (λ s. elim s [ inl r ↦ inr (inl r) | inr q ↦ inl q ])

-- THE PREMISE IS NEEDED
abbrev Unconditional : Type 1
Unconditional =
    (deck : Deck) (answer_room store_size : ℕ) (gs : List Goal) (ms : List Marked) (total : ℕ) (I : Interpretation3) → Satisfies3 I deck
    → (choice : Inds) → goals_value I choice (unmarked gs ++ ms) ≈ goals_value I choice (remaining (evaluate deck answer_room store_size gs ms total))

pub needed : Unconditional → (α : ℕ → Bool) → ∥ ((n : ℕ) → α n ≡ false) ⊎ ((n : ℕ) × (α n ≡ true)) ∥₁
needed same α = ∥∥₁_elim (from_back Off off-prop Some-on ∥∥₁_prop (same loops 0 1024 (both ∷ []) [] 1 (looping Off off-prop Some-on ∥∥₁_prop) (looping-satisfies Off off-prop Some-on ∥∥₁_prop) inil).1.1 either) ∥∥₁_prop
    (λ s. elim s [ inl f ↦ ∣ inl (λ n. f (node n inil)) ∣₁ | inr q ↦ ∥∥₁_map q inr ])
  where
    Off : Ind → Type 0
    Off u = α (root u) ≡ false

    off-prop : (u : Ind) → IsProp (Off u)
    off-prop u = Bool-set (α (root u)) false

    Some-on : Type 0
    Some-on = ∥ ((n : ℕ) × (α n ≡ true)) ∥₁

    decided : (b : Bool) (n : ℕ) → α n ≡ b → ∥ (α n ≡ false) ⊎ Some-on ∥₁
    decided true n e = ∣ inr ∣ (n, e) ∣₁ ∣₁
    decided false n e = ∣ inl e ∣₁

    either : (u : Ind) → ∥ Off u ⊎ Some-on ∥₁
    either u = decided (α (root u)) (root u) refl
