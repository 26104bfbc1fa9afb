-- The cover statement in three values: at any stop the goals give the value that they gave before, and the query's value at each choice is the
-- highest that an answer or an open goal gives there. What is true or false stays so without excluded middle; the way back takes it as a premise.
use Prim.Native.Nat.{ℕ}
use mathlib.Core.Path.{◌≡◌}
use mathlib.Core.Logic.Iff
use mathlib.Core.Logic.{◌↔◌, inl, inr, ∥∥₁_elim, ∥∥₁_prop, ∥∥₁_map}
use mathlib.Core.HLevel.{⊥_prop, Unit-prop, ×_prop}
use mathlib.Core.List.{List, [], ◌∷◌, ◌++◌}
use lib.ListN.{length}
use Rattle.rules.specs.Syntax.{Literal, pos, neg, Clause, Deck, Goal, vars_literals}
use Rattle.rules.specs.Goals.{Marked, unmarked, query_variables, first_goal}
use Rattle.rules.specs.Evaluation.{Outcome, evaluate}
use Rattle.rules.specs.WellFormed.{InOrder}
use Rattle.rules.specs.Meaning.{Inds, Filling, evals, Reading, Holds, Some, Gives, CoversBy, individual, individuals}
use Rattle.rules.specs.ThreeValues.{Value, ◌≈◌, ◌⊑◌, Interpretation3, literal_value, literals_value, clause_value, Satisfies3, query_value, goal_value, goals_value, ExcludedMiddle}
use Rattle.rules.proofs.ListLaws.{all_in, in_all, some_in, in_some}
use Rattle.rules.proofs.Existence.{Existence, merely, or_else, Into, some-map, merely-some}
use Rattle.rules.proofs.ResolventSound.{OneWay}
use Rattle.rules.proofs.LevelSound.{level}
use Rattle.rules.proofs.Cover.{remaining, SomeCoversBy, outcome-sound, first-covers}
use Rattle.rules.proofs.Continued.{Lent, continued, goals_of, continued-into}

-- THE TWO READINGS OF AN INTERPRETATION
module _ (I : Interpretation3) where
  -- Surely: positive literals are true and negated atoms false.
  abbrev Surely : Reading
  Surely = record { inside = λ p us. (I.value p us).is_true; outside = λ p us. (I.value p us).is_false }

  -- Possibly: that a literal is false is absurd, where Z stands for what is absurd.
  abbrev Possibly : Type 0 → Reading
  Possibly Z = record { inside = λ p us. (I.value p us).is_false → Z; outside = λ p us. (I.value p us).is_true → Z }

  literals-true : (ν : Filling) (ls : List Literal) → (literals_value I ν ls).is_true ↔ Holds Surely ν ls
  literals-true ν [] = (λ h. h, λ h. h)
  literals-true ν (pos p ts ∷ ls) = let r = literals-true ν ls in (λ h. (h.0, r.0 h.1), λ h. (h.0, r.1 h.1))
  literals-true ν (neg p ts ∷ ls) = let r = literals-true ν ls in (λ h. (h.0, r.0 h.1), λ h. (h.0, r.1 h.1))

  module _ (Z : Type 0) (prop : IsProp Z) (ν : Filling) where
    none-false : (ls : List Literal) → Holds (Possibly Z) ν ls ↔ (Some (λ l. (literal_value I ν l).is_false) ls → Z)
    none-false [] = (λ h k. absurd k, λ h. tt)
    none-false (pos p ts ∷ ls) =
        let r = none-false ls in
        (λ h k. elim k [ inl f ↦ h.0 f | inr m ↦ r.0 h.1 m ], λ h. (λ f. h (inl f), r.1 (λ m. h (inr m))))
    none-false (neg p ts ∷ ls) =
        let r = none-false ls in
        (λ h k. elim k [ inl f ↦ h.0 f | inr m ↦ r.0 h.1 m ], λ h. (λ f. h (inl f), r.1 (λ m. h (inr m))))

    literals-possible : (ls : List Literal) → Holds (Possibly Z) ν ls ↔ ((literals_value I ν ls).is_false → Z)
    literals-possible ls = (λ h f. ∥∥₁_elim f prop ((none-false ls).0 h), λ h. (none-false ls).1 (λ k. h ∣ k ∣₁))

  -- The value of goals, by what they cover.
  module _ (choice : Inds) (ms : List Marked) where
    goals-true : (goals_value I choice ms).is_true ↔ ∥ SomeCoversBy Surely choice ms ∥₁
    unfolding goals_value
    goals-true = (
      λ h. ∥∥₁_map ((merely-some TrueAt ms).0 h) (some-map TrueAt CoversAt (λ m k. (k.0, k.1, (literals-true k.0 m.goal.literals).0 k.2)) ms),
      λ h. (merely-some TrueAt ms).1 (∥∥₁_map h (some-map CoversAt TrueAt (λ m k. (k.0, k.1, (literals-true k.0 m.goal.literals).1 k.2)) ms)),
    )
      where
        TrueAt : Marked → Type 0
        TrueAt m = (ν : Filling) × (evals ν m.goal.answer_terms ≡ choice) × (literals_value I ν m.goal.literals).is_true

        CoversAt : Marked → Type 0
        CoversAt m = CoversBy Surely choice m.goal

    goals-false : (Z : Type 0) → IsProp Z → (goals_value I choice ms).is_false → SomeCoversBy (Possibly Z) choice ms → Z
    unfolding goals_value
    goals-false Z prop f h =
        let s = some_in (λ m. CoversBy (Possibly Z) choice m.goal) ms h in
        (literals-possible Z prop s.2.0 s.0.goal.literals).0 s.2.2 (in_all (λ m. (goal_value I choice m.goal).is_false) ms f s.0 s.1 s.2.0 s.2.1)

-- THE TWO WAYS
module _ (I : Interpretation3) (deck : Deck) (sat : Satisfies3 I deck) where
  -- An atom is true exactly if some clause gives it with a true body.
  true-given : (p : ℕ) (us : Inds) → (I.value p us).is_true ↔ ∥ Some (Gives (Surely I) p us) deck.clauses ∥₁
  unfolding Satisfies3
  true-given p us = (
    λ t. ∥∥₁_map ((merely-some Body deck.clauses).0 ((sat p us).0.0 t))
        (some-map Body (Gives (Surely I) p us) (λ c k. (k.0, k.1.0, k.1.1, (literals-true I k.0 c.body).0 k.2)) deck.clauses),
    λ h. (sat p us).0.1 ((merely-some Body deck.clauses).1 (∥∥₁_map h
        (some-map (Gives (Surely I) p us) Body (λ c k. (k.0, (k.1, k.2), (literals-true I k.0 c.body).1 k.3)) deck.clauses))),
  )
    where
      Body : Clause → Type 0
      Body c = (ν : Filling) × ((c.predicate ≡ p) × (evals ν c.arguments ≡ us)) × (literals_value I ν c.body).is_true

  -- What some clause possibly gives is possible.
  possibly-gives : (Z : Type 0) → IsProp Z → (p : ℕ) (us : Inds) → Some (Gives (Possibly I Z) p us) deck.clauses → (I.value p us).is_false → Z
  unfolding Satisfies3
  possibly-gives Z prop p us g f =
      let s = some_in (Gives (Possibly I Z) p us) deck.clauses g in
      let k = s.2 in
      (literals-possible I Z prop k.0 s.0.body).0 k.3 (in_all (λ c. (clause_value I p us c).is_false) deck.clauses ((sat p us).1.0 f) s.0 s.1 k.0 (k.1, k.2))

  -- On: what is surely so stays so, or else Z; and what is possible afterwards was possible.
  on : (Z : Type 0) (prop : IsProp Z) → OneWay (or_else Z prop) (Surely I) (Possibly I Z) deck.clauses
  on Z prop = record {
    given = λ p us t. ∥∥₁_map ((true-given p us).0 t) inl;
    gives = possibly-gives Z prop;
    apart = λ p us h f. h f;
    other = λ p us h. h;
  }

  -- Back, by excluded middle: what is possible stays so, and what is surely so afterwards was so.
  module _ (em : ExcludedMiddle) where
    possibly-given : (p : ℕ) (us : Inds) → ¬ (I.value p us).is_false → ∥ Some (Gives (Possibly I ⊥) p us) deck.clauses ∥₁
    unfolding Satisfies3
    possibly-given p us n = elim (em ∥ Some (Gives (Possibly I ⊥) p us) deck.clauses ∥₁ ∥∥₁_prop) [
      | inl h ↦ h
      | inr q ↦ absurd (n ((sat p us).1.1 (all_in (λ c. (clause_value I p us c).is_false) deck.clauses (λ c m ν e.
          elim (em (literals_value I ν c.body).is_false ∥∥₁_prop) [
            | inl f ↦ f
            | inr k ↦ absurd (q ∣ in_some (Gives (Possibly I ⊥) p us) deck.clauses c m (ν, e.0, e.1, (literals-possible I ⊥ ⊥_prop ν c.body).1 k) ∣₁)
          ]))))
    ]

    back : OneWay merely (Possibly I ⊥) (Surely I) deck.clauses
    back = record {
      given = possibly-given;
      gives = λ p us g. (true-given p us).1 ∣ g ∣₁;
      apart = λ p us t n. n t;
      other = λ p us n. elim (em (I.value p us).is_false (I.false_proposition p us)) [ inl f ↦ f | inr k ↦ absurd (n k) ];
    }

-- FROM GOALS TO GOALS. What the evaluation does with every two readings.
abbrev Goes : Deck → List Marked → List Marked → Type 1
Goes deck ms ns = (X : Existence) (A B : Reading) → OneWay X A B deck.clauses → (choice : Inds) → Into X (SomeCoversBy A choice) (SomeCoversBy B choice) ms ns

module _ (I : Interpretation3) (deck : Deck) (sat : Satisfies3 I deck) (ms ns : List Marked) (goes : Goes deck ms ns) (choice : Inds) where
  true-stays : (goals_value I choice ms).is_true → (goals_value I choice ns).is_true
  true-stays t = (goals-true I choice ns).1 (∥∥₁_elim ((goals-true I choice ms).0 t) ∥∥₁_prop (λ h.
      ∥∥₁_map ((goes (or_else ⊥ ⊥_prop) (Surely I) (Possibly I ⊥) (on I deck sat ⊥ ⊥_prop) choice).0 h) (λ s. elim s [ inl k ↦ k | inr b ↦ absurd b ])))

  -- The absurd is here what is to be shown: that the goal m is false under ν.
  false-stays : (goals_value I choice ms).is_false → (goals_value I choice ns).is_false
  unfolding goals_value
  false-stays f = all_in (λ m. (goal_value I choice m.goal).is_false) ns (λ m k ν e.
      let Z : Type 0 = (literals_value I ν m.goal.literals).is_false in
      goals-false I choice ms Z ∥∥₁_prop f ((goes (or_else Z ∥∥₁_prop) (Surely I) (Possibly I Z) (on I deck sat Z ∥∥₁_prop) choice).1
      (in_some (λ n. CoversBy (Possibly I Z) choice n.goal) ns m k (ν, e, (literals-possible I Z ∥∥₁_prop ν m.goal.literals).1 (λ z. z)))))

  -- Without excluded middle: where the goals before give true, or false, so do those after.
  value_stays : goals_value I choice ms ⊑ goals_value I choice ns
  value_stays = (true-stays, false-stays)

  -- With it: where the goals after give true, or false, so did those before.
  module _ (em : ExcludedMiddle) where
    true-was : (goals_value I choice ns).is_true → (goals_value I choice ms).is_true
    true-was t = (goals-true I choice ms).1 (∥∥₁_map ((goals-true I choice ns).0 t) (goes merely (Possibly I ⊥) (Surely I) (back I deck sat em) choice).1)

    false-was : (goals_value I choice ns).is_false → (goals_value I choice ms).is_false
    unfolding goals_value
    false-was f = all_in (λ m. (goal_value I choice m.goal).is_false) ms (λ m k ν e.
        elim (em (literals_value I ν m.goal.literals).is_false ∥∥₁_prop) [
          | inl z ↦ z
          | inr n ↦ absurd (∥∥₁_elim ((goes merely (Possibly I ⊥) (Surely I) (back I deck sat em) choice).0
              (in_some (λ i. CoversBy (Possibly I ⊥) choice i.goal) ms m k (ν, e, (literals-possible I ⊥ ⊥_prop ν m.goal.literals).1 n)))
              ⊥_prop (goals-false I choice ns ⊥ ⊥_prop f))
        ])

    value_same : goals_value I choice ms ≈ goals_value I choice ns
    value_same = ((true-stays, true-was), (false-stays, false-was))

same_then : (u v w : Value) → u ≈ v → v ≈ w → u ≈ w
same_then u v w a b = (Iff.trans a.0 b.0, Iff.trans a.1 b.1)

same-stays : (u v w : Value) → u ≈ v → v ⊑ w → u ⊑ w
same-stays u v w a b = (λ h. b.0 (a.0.0 h), λ h. b.1 (a.1.0 h))

-- THE EVALUATION, from any pending and parked goals, whatever the budget, the sizes and the stop.
module _ (deck : Deck) (answer_room store_size : ℕ) (gs : List Goal) (ms : List Marked) (total : ℕ) (I : Interpretation3) (sat : Satisfies3 I deck) (choice : Inds) where
  abbrev result : Outcome
  result = evaluate deck answer_room store_size gs ms total

  evaluate-goes : Goes deck (unmarked gs ++ ms) (remaining result)
  evaluate-goes X A B way = (outcome-sound X A B deck way answer_room store_size gs ms total).covers

  pub evaluate-stays : goals_value I choice (unmarked gs ++ ms) ⊑ goals_value I choice (remaining result)
  evaluate-stays = value_stays I deck sat _ _ evaluate-goes choice

  pub evaluate-values : ExcludedMiddle → goals_value I choice (unmarked gs ++ ms) ≈ goals_value I choice (remaining result)
  evaluate-values = value_same I deck sat _ _ evaluate-goes choice

-- Runs continued one from the other.
module _ (deck : Deck) (bs : List Lent) (gs : List Goal) (ms : List Marked) (I : Interpretation3) (sat : Satisfies3 I deck) (choice : Inds) where
  abbrev last : List Marked
  last = goals_of (continued deck bs (level gs ms []))

  continued-goes : Goes deck (unmarked gs ++ ms) last
  continued-goes X A B way choice = continued-into X A B deck way choice bs (level gs ms [])

  pub continued-stays : goals_value I choice (unmarked gs ++ ms) ⊑ goals_value I choice last
  continued-stays = value_stays I deck sat _ _ continued-goes choice

  pub continued-values : ExcludedMiddle → goals_value I choice (unmarked gs ++ ms) ≈ goals_value I choice last
  continued-values = value_same I deck sat _ _ continued-goes choice

-- THE QUERY. Its first goal, alone in a list, gives its value.
module _ (query : List Literal) (ordered : InOrder (vars_literals query)) (choice : Inds) (many : individuals choice ≡ length (query_variables query)) (I : Interpretation3) where
  surely-prop : (ν : Filling) (ls : List Literal) → IsProp (Holds (Surely I) ν ls)
  surely-prop ν [] = Unit-prop
  surely-prop ν (pos p ts ∷ ls) = ×_prop (I.true_proposition p (evals ν ts)) (surely-prop ν ls)
  surely-prop ν (neg p ts ∷ ls) = ×_prop (I.false_proposition p (evals ν ts)) (surely-prop ν ls)

  query-first : query_value I query choice ≈ goals_value I choice (unmarked (first_goal query ∷ []))
  unfolding query_value goals_value first_goal
  query-first = (
    (
      λ t. (goals-true I choice (unmarked (first_goal query ∷ []))).1 ∣ inl ((first (Surely I)).0 ((literals-true I (individual choice) query).0 t)) ∣₁,
      λ h. (literals-true I (individual choice) query).1 (∥∥₁_elim ((goals-true I choice (unmarked (first_goal query ∷ []))).0 h) (surely-prop (individual choice) query) (λ k.
          elim k [ inl c ↦ (first (Surely I)).1 c | inr b ↦ absurd b ])),
    ),
    (
      λ f. (
        λ ν e.
            let Z : Type 0 = (literals_value I ν query).is_false in
            let k : Holds (Possibly I Z) (individual choice) query = (first (Possibly I Z)).1 (ν, e, (literals-possible I Z ∥∥₁_prop ν query).1 (λ z. z)) in
            (literals-possible I Z ∥∥₁_prop (individual choice) query).0 k f,
        tt,
      ),
      λ h.
          let Z : Type 0 = (literals_value I (individual choice) query).is_false in
          let k : CoversBy (Possibly I Z) choice (first_goal query) = (first (Possibly I Z)).0 ((literals-possible I Z ∥∥₁_prop (individual choice) query).1 (λ z. z)) in
          (literals-possible I Z ∥∥₁_prop k.0 query).0 k.2 (h.0 k.0 k.1),
    ),
  )
    where
      first : (A : Reading) → Holds A (individual choice) query ↔ CoversBy A choice (first_goal query)
      first A = first-covers query ordered choice many A

  -- At any stop, the query's value at each choice equals the highest value that an answer or an open goal gives there.
  module _ (deck : Deck) (sat : Satisfies3 I deck) where
    module _ (answer_room store_size total : ℕ) where
      abbrev asked : Outcome
      asked = evaluate deck answer_room store_size (first_goal query ∷ []) [] total

      pub query-stays : query_value I query choice ⊑ goals_value I choice (remaining asked)
      query-stays = same-stays _ _ _ query-first (evaluate-stays deck answer_room store_size (first_goal query ∷ []) [] total I sat choice)

      pub query-values : ExcludedMiddle → query_value I query choice ≈ goals_value I choice (remaining asked)
      query-values em = same_then _ _ _ query-first (evaluate-values deck answer_room store_size (first_goal query ∷ []) [] total I sat choice em)

    -- After runs continued one from the other.
    module _ (bs : List Lent) where
      abbrev left : List Marked
      left = goals_of (continued deck bs (level (first_goal query ∷ []) [] []))

      pub query-continued-stays : query_value I query choice ⊑ goals_value I choice left
      query-continued-stays = same-stays _ _ _ query-first (continued-stays deck bs (first_goal query ∷ []) [] I sat choice)

      pub query-continued-values : ExcludedMiddle → query_value I query choice ≈ goals_value I choice left
      query-continued-values em = same_then _ _ _ query-first (continued-values deck bs (first_goal query ∷ []) [] I sat choice em)
