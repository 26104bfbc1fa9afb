-- Each deck has an interpretation in three values that satisfies its completed deck: Fitting's least one. Excluded middle is not used.
use Prim.Native.Nat.{ℕ}
use mathlib.Core.Path.{◌≡◌}
use mathlib.Core.Logic.{◌↔◌, ∥∥₁_elim, ∥∥₁_prop, ∥∥₁_map}
use mathlib.Core.HLevel.{⊥_prop, ¬_prop, Π_prop}
use mathlib.Core.List.{List, Memᴰ}
use Rattle.rules.specs.Syntax.{Literal, pos, neg, Clause, Deck}
use Rattle.rules.specs.Meaning.{Inds, Filling, evals}
use Rattle.rules.specs.ThreeValues.{Interpretation3, literal_value, clause_value, Satisfies3}
use Rattle.rules.proofs.ListLaws.{all_in, in_all, some_in, in_some}

-- What is shown from a deck: an atom is true, an atom is false, some literal of a list is false under a filling.
data Fact : Type 0 where
  true_atom false_atom : ℕ → Inds → Fact
  some_false : Filling → List Literal → Fact

abbrev true_literal : Filling → Literal → Fact
true_literal ν (pos p ts) = true_atom p (evals ν ts)
true_literal ν (neg p ts) = false_atom p (evals ν ts)

abbrev false_literal : Filling → Literal → Fact
false_literal ν (pos p ts) = false_atom p (evals ν ts)
false_literal ν (neg p ts) = true_atom p (evals ν ts)

-- An atom is true by a clause whose literals are all true; it is false if each clause that could give it has a false literal. The last
-- constructor makes each fact a proposition while it is being shown: which literal is false is forgotten for each filling, and no choice
-- is asked for over all of them.
data Shown (clauses : List Clause) : Fact → Type 0 where
  gives :
      (c : Clause) → Memᴰ c clauses → (ν : Filling) (p : ℕ) (us : Inds) → c.predicate ≡ p → evals ν c.arguments ≡ us
      → ((l : Literal) → Memᴰ l c.body → Shown clauses (true_literal ν l)) → Shown clauses (true_atom p us)
  denies :
      (p : ℕ) (us : Inds)
      → ((c : Clause) → Memᴰ c clauses → (ν : Filling) → c.predicate ≡ p → evals ν c.arguments ≡ us → Shown clauses (some_false ν c.body))
      → Shown clauses (false_atom p us)
  one : (ν : Filling) (ls : List Literal) (l : Literal) → Memᴰ l ls → Shown clauses (false_literal ν l) → Shown clauses (some_false ν ls)
  squash : (f : Fact) (x y : Shown clauses f) (i : 𝕀) → Shown clauses f [ i = 0 ↦ x | i = 1 ↦ y ]

module _ (clauses : List Clause) where
  shown-prop : (f : Fact) → IsProp (Shown clauses f)
  shown-prop f = λ x y i. squash f x y i

  -- What a fact that is shown comes from.
  abbrev From : Fact → Type 0
  From (true_atom p us) =
      ∥ ((c : Clause) × Memᴰ c clauses × (ν : Filling) × (c.predicate ≡ p) × (evals ν c.arguments ≡ us)
      × ((l : Literal) → Memᴰ l c.body → Shown clauses (true_literal ν l))) ∥₁
  From (false_atom p us) =
      (c : Clause) → Memᴰ c clauses → (ν : Filling) → c.predicate ≡ p → evals ν c.arguments ≡ us → Shown clauses (some_false ν c.body)
  From (some_false ν ls) = ∥ ((l : Literal) × Memᴰ l ls × Shown clauses (false_literal ν l)) ∥₁

  from-prop : (f : Fact) → IsProp (From f)
  from-prop (true_atom p us) = ∥∥₁_prop
  from-prop (false_atom p us) = Π_prop (λ c. Π_prop (λ m. Π_prop (λ ν. Π_prop (λ e. Π_prop (λ h. shown-prop (some_false ν c.body))))))
  from-prop (some_false ν ls) = ∥∥₁_prop

  from : (f : Fact) → Shown clauses f → From f
  from f s = elim s as (λ g t. From g) [
    | gives c m ν p us e h body ↦ ∣ (c, m, ν, e, h, body) ∣₁
    | denies p us h ↦ h
    | one ν ls l m h ↦ ∣ (l, m, h) ∣₁
    | squash g (x → from_x) (y → from_y) i ↦ from-prop g from_x from_y i
  ]

  -- NEVER BOTH. What a fact that is shown rules out.
  abbrev Against : Fact → Type 0
  Against (true_atom p us) = ¬ Shown clauses (false_atom p us)
  Against (false_atom p us) = ¬ Shown clauses (true_atom p us)
  Against (some_false ν ls) = ¬ ((l : Literal) → Memᴰ l ls → Shown clauses (true_literal ν l))

  against-prop : (f : Fact) → IsProp (Against f)
  against-prop (true_atom p us) = ¬_prop
  against-prop (false_atom p us) = ¬_prop
  against-prop (some_false ν ls) = ¬_prop

  true-against : (ν : Filling) (l : Literal) → Against (true_literal ν l) → ¬ Shown clauses (false_literal ν l)
  true-against ν (pos p ts) h = h
  true-against ν (neg p ts) h = h

  false-against : (ν : Filling) (l : Literal) → Against (false_literal ν l) → ¬ Shown clauses (true_literal ν l)
  false-against ν (pos p ts) h = h
  false-against ν (neg p ts) h = h

  against : (f : Fact) → Shown clauses f → Against f
  against f s = elim s as (λ g t. Against g) [
    | gives c m ν p us e h (body → against_body) ↦
        λ n. ∥∥₁_elim (from (some_false ν c.body) (from (false_atom p us) n c m ν e h)) ⊥_prop
        (λ s. true-against ν s.0 (against_body s.0 s.1) s.2)
    | denies p us (h → against_h) ↦ λ t. ∥∥₁_elim (from (true_atom p us) t) ⊥_prop (λ s. against_h s.0 s.1 s.2 s.3 s.4 s.5)
    | one ν ls l m (h → against_h) ↦ λ all. false-against ν l against_h (all l m)
    | squash g (x → against_x) (y → against_y) i ↦ against-prop g against_x against_y i
  ]

-- THE INTERPRETATION
pub fitting : Deck → Interpretation3
fitting deck = record {
  value = λ p us. record { is_true = Shown deck.clauses (true_atom p us); is_false = Shown deck.clauses (false_atom p us) };
  true_proposition = λ p us. shown-prop deck.clauses (true_atom p us);
  false_proposition = λ p us. shown-prop deck.clauses (false_atom p us);
  never_both = λ p us. against deck.clauses (true_atom p us);
}

module _ (deck : Deck) where
  literal-true : (ν : Filling) (l : Literal) → Shown deck.clauses (true_literal ν l) ↔ (literal_value (fitting deck) ν l).is_true
  unfolding fitting
  literal-true ν (pos p ts) = (λ h. h, λ h. h)
  literal-true ν (neg p ts) = (λ h. h, λ h. h)

  literal-false : (ν : Filling) (l : Literal) → Shown deck.clauses (false_literal ν l) ↔ (literal_value (fitting deck) ν l).is_false
  unfolding fitting
  literal-false ν (pos p ts) = (λ h. h, λ h. h)
  literal-false ν (neg p ts) = (λ h. h, λ h. h)

  -- It satisfies the completed deck.
  pub fitting-satisfies : Satisfies3 (fitting deck) deck
  unfolding Satisfies3 fitting
  fitting-satisfies p us = (
    (
      λ t. ∥∥₁_map (from deck.clauses (true_atom p us) t) (λ s.
          in_some (λ c. (clause_value (fitting deck) p us c).is_true) deck.clauses s.0 s.1
          ∣ (s.2, (s.3, s.4), all_in (λ l. (literal_value (fitting deck) s.2 l).is_true) s.0.body (λ l m. (literal-true s.2 l).0 (s.5 l m))) ∣₁),
      λ h. ∥∥₁_elim h (shown-prop deck.clauses (true_atom p us)) (λ k.
          let s = some_in (λ c. (clause_value (fitting deck) p us c).is_true) deck.clauses k in
          ∥∥₁_elim s.2 (shown-prop deck.clauses (true_atom p us)) (λ b.
          gives s.0 s.1 b.0 p us b.1.0 b.1.1 (λ l m. (literal-true b.0 l).1 (in_all (λ i. (literal_value (fitting deck) b.0 i).is_true) s.0.body b.2 l m)))),
    ),
    (
      λ n. all_in (λ c. (clause_value (fitting deck) p us c).is_false) deck.clauses (λ c m ν e.
          ∥∥₁_map (from deck.clauses (some_false ν c.body) (from deck.clauses (false_atom p us) n c m ν e.0 e.1)) (λ s.
          in_some (λ l. (literal_value (fitting deck) ν l).is_false) c.body s.0 s.1 ((literal-false ν s.0).0 s.2))),
      λ h. denies p us (λ c m ν e k.
          ∥∥₁_elim (in_all (λ i. (clause_value (fitting deck) p us i).is_false) deck.clauses h c m ν (e, k)) (shown-prop deck.clauses (some_false ν c.body)) (λ q.
          let s = some_in (λ l. (literal_value (fitting deck) ν l).is_false) c.body q in
          one ν c.body s.0 s.1 ((literal-false ν s.0).1 s.2))),
    ),
  )

-- EVERY DECK HAS ONE
pub every-deck : (deck : Deck) → (I : Interpretation3) × Satisfies3 I deck
every-deck deck = (fitting deck, fitting-satisfies deck)
