-- "p if not p": no interpretation satisfies the completed deck, and in three values p is unknown in each.
use mathlib.Core.Path.{refl}
use mathlib.Core.Logic.{inl, inr, ∥∥₁_elim}
use mathlib.Core.HLevel.{⊥_prop}
use mathlib.Core.List.{[], ◌∷◌}
use Rattle.rules.specs.Terms.{nil}
use Rattle.rules.specs.Syntax.{predicate, neg, format1, Deck}
use Rattle.rules.specs.Meaning.{node, inil, Interpretation, Satisfies}
use Rattle.rules.specs.ThreeValues.{Interpretation3, Satisfies3}

abbrev pub contradiction : Deck
contradiction = record { format = format1; symbols = predicate 0 ∷ []; clauses = record { predicate = 0; arguments = nil; body = neg 0 nil ∷ [] } ∷ [] }

pub contradiction-none : (I : Interpretation) → ¬ Satisfies I contradiction
unfolding Satisfies
contradiction-none I sat = absent ((sat 0 inil).1 ∣ inl ((λ v. node 0 inil), refl, refl, (absent, tt)) ∣₁)
  where
    absent : ¬ I.atoms 0 inil
    absent a = ∥∥₁_elim ((sat 0 inil).0 a) ⊥_prop (λ s. elim s [ inl g ↦ g.3.0 a | inr b ↦ b ])

pub contradiction-unknown : (I : Interpretation3) → Satisfies3 I contradiction → (¬ (I.value 0 inil).is_true) × (¬ (I.value 0 inil).is_false)
unfolding Satisfies3
contradiction-unknown I sat = (
  λ t. ∥∥₁_elim ((sat 0 inil).0.0 t) ⊥_prop (λ s. elim s [
    | inl g ↦ ∥∥₁_elim g ⊥_prop (λ k. I.never_both 0 inil t k.2.0)
    | inr b ↦ b
  ]),
  λ f. ∥∥₁_elim (((sat 0 inil).1.0 f).0 (λ v. node 0 inil) (refl, refl)) ⊥_prop (λ s. elim s [ inl t ↦ I.never_both 0 inil t f | inr b ↦ b ]),
)
