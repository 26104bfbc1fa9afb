-- Demand 3 about the written rules: whatever the lists, the budget, the sizes and the stop, in each interpretation that satisfies the completed
-- deck a choice is covered after the evaluation exactly if it was before; and a query holds for a choice exactly if something left covers it.
use Prim.Native.Nat.{ℕ, zero, suc, ◌<◌}
use mathlib.Core.Path.{◌≡◌, refl, sym, ◌∙◌, ap, ap₂, subst, transport}
use mathlib.Core.Logic.Iff
use mathlib.Core.Logic.{◌↔◌, inl, inr, ∥∥₁_elim, ∥∥₁_prop, ∥∥₁_map}
use mathlib.Core.HLevel.{Unit-prop, ×_prop, ¬_prop, ⊥_prop}
use mathlib.Core.List.Memᴰ
use mathlib.Core.List.{List, [], ◌∷◌, ◌++◌, append-nil}
use native.Mathlib.Omega.{arith}
use lib.ListN.{length, get_or}
use Rattle.rules.specs.Syntax.{Literal, pos, neg, Deck, Goal, vars_literals}
use Rattle.rules.specs.Goals.{Marked, unmarked, appearing, variables, query_variables, first_goal}
use Rattle.rules.specs.Evaluation.{finished, Level, zeroth, opening, Ended, ended, succeeded, stopped, evaluate_level, Outcome, stop_of, outcome, evaluate}
use Rattle.rules.specs.Meaning.{Inds, inil, icons, Filling, evals, Atoms, Interpretation, Reading, two_valued, Holds, Some, SatisfiesBy, Satisfies, individual, individuals, QueryHolds, CoversBy, Covers, SomeCovers}
use Rattle.rules.specs.WellFormed.{InOrder}
use Rattle.rules.proofs.Existence.{Existence, merely, at_hand, Into, some_left, some_right, some-split, merely-some}
use Rattle.rules.proofs.NumberingLaws.{up_to, above, in-up_to, position-up_to, at_position, numbered-appearing, numbered-count, appearing-finds}
use Rattle.rules.proofs.Values.{AgreeOn, holds_on}
use Rattle.rules.proofs.ResolventSound.{OneWay, two-valued-way}
use Rattle.rules.proofs.LevelSound.{Open, in_answers, in_pending, in_parked, level, EndedSound, level-sound}

-- The listed answers, then the goals left open.
abbrev pub remaining : Outcome → List Marked
remaining o = unmarked o.answers ++ (unmarked o.pending ++ o.parked)

-- Some goal of a list covers the choice, with the cover at hand.
abbrev pub SomeCoversBy : Reading → Inds → List Marked → Type 0
SomeCoversBy I choice ms = Some (λ m. CoversBy I choice m.goal) ms

module _ (I : Reading) (choice : Inds) where
  to-marked : (gs : List Goal) → Some (CoversBy I choice) gs → SomeCoversBy I choice (unmarked gs)
  to-marked [] h = h
  to-marked (g ∷ gs) (inl h) = inl h
  to-marked (g ∷ gs) (inr h) = inr (to-marked gs h)

  from-marked : (gs : List Goal) → SomeCoversBy I choice (unmarked gs) → Some (CoversBy I choice) gs
  from-marked [] h = h
  from-marked (g ∷ gs) (inl h) = inl h
  from-marked (g ∷ gs) (inr h) = inr (from-marked gs h)

  -- A level's goals as one list.
  module _ (l : Level) where
    abbrev Covering : Marked → Type 0
    Covering m = CoversBy I choice m.goal

    to-list : Open I choice l → SomeCoversBy I choice (unmarked l.answers ++ (unmarked l.pending ++ l.parked))
    to-list (in_answers h) = some_left Covering (unmarked l.answers) _ (to-marked l.answers h)
    to-list (in_pending h) = some_right Covering (unmarked l.answers) _ (some_left Covering (unmarked l.pending) l.parked (to-marked l.pending h))
    to-list (in_parked h) = some_right Covering (unmarked l.answers) _ (some_right Covering (unmarked l.pending) l.parked h)

    from_list : SomeCoversBy I choice (unmarked l.answers ++ (unmarked l.pending ++ l.parked)) → Open I choice l
    from_list h = elim (some-split Covering (unmarked l.answers) (unmarked l.pending ++ l.parked) h) [
      | inl a ↦ in_answers (from-marked l.answers a)
      | inr k ↦ elim (some-split Covering (unmarked l.pending) l.parked k) [ inl b ↦ in_pending (from-marked l.pending b) | inr c ↦ in_parked c ]
    ]

-- THE EVALUATION, however "there is some" is read: of the goals before it and what it comes to.
pub record OutcomeSound (X : Existence) (I J : Reading) (before : List Marked) (o : Outcome) : Type 0 where
  pub covers : (choice : Inds) → Into X (SomeCoversBy I choice) (SomeCoversBy J choice) before (remaining o)
  pub emptied : o.stop ≡ finished → o.pending ≡ []

pub outcome-sound :
    (X : Existence) (I J : Reading) (deck : Deck) → OneWay X I J deck.clauses → (answer_room store_size : ℕ) (gs : List Goal) (ms : List Marked) (total : ℕ)
    → OutcomeSound X I J (unmarked gs ++ ms) (evaluate deck answer_room store_size gs ms total)
unfolding evaluate outcome stop_of
outcome-sound X I J deck way answer_room store_size gs ms total =
    go (evaluate_level deck.clauses answer_room store_size 32 zeroth (level gs ms []) (opening total))
    (level-sound X I J deck.clauses way answer_room store_size 32 zeroth (level gs ms []) (opening total))
  where
    go : (e : Ended) → EndedSound X I J zeroth (level gs ms []) e → OutcomeSound X I J (unmarked gs ++ ms) (outcome total e)
    go (ended succeeded l left) h = absurd h
    go (ended (stopped s) l left) h = record {
      covers = λ choice. (
        λ k. X.bind ((h.0.0 choice).0 (from_list I choice (level gs ms []) k)) (λ o. X.unit (to-list I choice l o)),
        λ k. to-list J choice (level gs ms []) ((h.0.0 choice).1 (from_list J choice l k)),
      );
      emptied = h.1;
    }

-- With two values.
pub two-valued-sound :
    (X : Existence) → ¬ X.Absurd → (I : Atoms) (deck : Deck) → SatisfiesBy X.M (two_valued I) deck.clauses → (answer_room store_size : ℕ) (gs : List Goal) (ms : List Marked) (total : ℕ)
    → OutcomeSound X (two_valued I) (two_valued I) (unmarked gs ++ ms) (evaluate deck answer_room store_size gs ms total)
two-valued-sound X nothing I deck sat = outcome-sound X (two_valued I) (two_valued I) deck (two-valued-way X nothing I deck.clauses sat)

-- By mere existence.
some-merely : (I : Interpretation) (choice : Inds) (ms : List Marked) → SomeCovers I choice ms ↔ ∥ SomeCoversBy (two_valued I.atoms) choice ms ∥₁
unfolding SomeCovers Covers
some-merely I choice ms = merely-some (λ m. CoversBy (two_valued I.atoms) choice m.goal) ms

pub covers-merely :
    (I : Interpretation) (choice : Inds) (ms ns : List Marked) → Into merely (SomeCoversBy (two_valued I.atoms) choice) (SomeCoversBy (two_valued I.atoms) choice) ms ns
    → SomeCovers I choice ms ↔ SomeCovers I choice ns
covers-merely I choice ms ns i =
    let before = some-merely I choice ms in
    let after = some-merely I choice ns in
    (λ h. after.1 (∥∥₁_elim (before.0 h) ∥∥₁_prop i.0), λ h. before.1 (∥∥₁_map (after.0 h) i.1))

module _ (deck : Deck) (answer_room store_size : ℕ) (gs : List Goal) (ms : List Marked) (total : ℕ) where
  abbrev result : Outcome
  result = evaluate deck answer_room store_size gs ms total

  -- In each interpretation that satisfies the completed deck, and for each choice, some goal covered the choice before exactly if some
  -- answer or open goal covers it after.
  pub evaluate-covers : (I : Interpretation) → Satisfies I deck → (choice : Inds) → SomeCovers I choice (unmarked gs ++ ms) ↔ SomeCovers I choice (remaining result)
  unfolding Satisfies
  evaluate-covers I sat choice =
      covers-merely I choice (unmarked gs ++ ms) (remaining result) ((two-valued-sound merely (λ b. b) I.atoms deck sat answer_room store_size gs ms total).covers choice)

  -- With the cover at hand, in a set of atoms in the wide sense.
  pub evaluate-covers-by :
      (I : Atoms) → SatisfiesBy (λ A. A) (two_valued I) deck.clauses → (choice : Inds)
      → SomeCoversBy (two_valued I) choice (unmarked gs ++ ms) ↔ SomeCoversBy (two_valued I) choice (remaining result)
  evaluate-covers-by I sat choice = (two-valued-sound at_hand (λ b. b) I deck sat answer_room store_size gs ms total).covers choice

-- THE QUERY. Its first goal covers a choice exactly if it holds for it.
inds-same : (us vs : Inds) → individuals us ≡ individuals vs → ((i : ℕ) → i < individuals us → individual us i ≡ individual vs i) → us ≡ vs
inds-same inil inil c h = refl
inds-same inil (icons v vs) c h = absurd (omega arith)
inds-same (icons u us) inil c h = absurd (omega arith)
inds-same (icons u us) (icons v vs) c h = ap₂ icons (h 0 (omega arith)) (inds-same us vs (omega arith) (λ i l. h (suc i) (omega arith)))

module _ (ν : Filling) where
  variables-count : (vs : List ℕ) → individuals (evals ν (variables vs)) ≡ length vs
  unfolding variables
  variables-count [] = refl
  variables-count (v ∷ vs) = ap suc (variables-count vs)

  variables-at : (vs : List ℕ) (i : ℕ) → i < length vs → individual (evals ν (variables vs)) i ≡ ν (get_or vs i 0)
  unfolding variables
  variables-at [] i l = absurd (omega arith)
  variables-at (v ∷ vs) zero l = refl
  variables-at (v ∷ vs) (suc i) l = variables-at vs i (omega arith)

variables-same : (ν μ : Filling) (vs : List ℕ) → evals ν (variables vs) ≡ evals μ (variables vs) → AgreeOn ν μ vs
unfolding variables
variables-same ν μ [] e v h = absurd (Memᴰ.not-nil h)
variables-same ν μ (x ∷ xs) e v h = elim (Memᴰ.cases_cons h) [
  | inl q ↦ (let a : ν x ≡ μ x = cc in ap ν q ∙ a ∙ ap μ (sym q))
  | inr k ↦ variables-same ν μ xs (cc) v k
]

up_to-at : (i n : ℕ) → i < n → get_or (up_to n) i 0 ≡ i
up_to-at i n l = ap (λ j. get_or (up_to n) j 0) (sym (position-up_to i n l)) ∙ at_position i (in-up_to i n l)

holds_prop : (I : Interpretation) (ν : Filling) (ls : List Literal) → IsProp (Holds (two_valued I.atoms) ν ls)
holds_prop I ν [] = Unit-prop
holds_prop I ν (pos p ts ∷ ls) = ×_prop (I.proposition p (evals ν ts)) (holds_prop I ν ls)
holds_prop I ν (neg p ts ∷ ls) = ×_prop ¬_prop (holds_prop I ν ls)

module _ (query : List Literal) (ordered : InOrder (vars_literals query)) (choice : Inds) (many : individuals choice ≡ length (query_variables query)) where
  -- The individuals of the choice, in order, are what it gives to the query's variables.
  choice-listed : evals (individual choice) (variables (query_variables query)) ≡ choice
  unfolding query_variables
  choice-listed = inds-same _ choice (variables-count (individual choice) order ∙ sym many) (λ i l.
      let k : i < length order = omega (arith, variables-count (individual choice) order) in
      variables-at (individual choice) order i k ∙ ap (individual choice) (at i k))
    where
      order : List ℕ
      order = appearing [] (vars_literals query)

      at : (i : ℕ) → i < length order → get_or order i 0 ≡ i
      at i l = rw (numbered-appearing (vars_literals query) ordered) (up_to-at i (above (vars_literals query)) (omega (arith, numbered-count (vars_literals query) ordered)))

  pub first-covers : (I : Reading) → Holds I (individual choice) query ↔ CoversBy I choice (first_goal query)
  unfolding first_goal query_variables
  first-covers I = (
    λ h. (individual choice, choice-listed, h),
    λ k.
        let same : AgreeOn k.0 (individual choice) (query_variables query) = variables-same k.0 (individual choice) (query_variables query) (k.1 ∙ sym choice-listed) in
        transport (holds_on I k.0 (individual choice) query (λ v h. same v (appearing-finds v [] h))) k.2,
  )

  -- So the query holds for the choice exactly if the first goal, alone in a list, covers it.
  pub query-first : (I : Interpretation) → QueryHolds I query choice ↔ SomeCovers I choice (unmarked (first_goal query ∷ []))
  unfolding QueryHolds
  query-first I =
      let first = first-covers (two_valued I.atoms) in
      let alone = some-merely I choice (unmarked (first_goal query ∷ [])) in
      (λ h. alone.1 ∣ inl (first.0 h) ∣₁, λ h. ∥∥₁_elim (alone.0 h) (holds_prop I (individual choice) query) (λ k. elim k [ inl c ↦ first.1 c | inr b ↦ absurd b ]))

  module _ (deck : Deck) (answer_room store_size total : ℕ) where
    abbrev asked : Outcome
    asked = evaluate deck answer_room store_size (first_goal query ∷ []) [] total

    -- The query holds for the choice exactly if a listed answer or a goal left open covers it.
    pub query-covers : (I : Interpretation) → Satisfies I deck → QueryHolds I query choice ↔ SomeCovers I choice (remaining asked)
    query-covers I sat = Iff.trans (query-first I) (evaluate-covers deck answer_room store_size (first_goal query ∷ []) [] total I sat choice)

    pub query-covers-by :
        (I : Atoms) → SatisfiesBy (λ A. A) (two_valued I) deck.clauses
        → Holds (two_valued I) (individual choice) query ↔ SomeCoversBy (two_valued I) choice (remaining asked)
    query-covers-by I sat =
        let first = first-covers (two_valued I) in
        let i = evaluate-covers-by deck answer_room store_size (first_goal query ∷ []) [] total I sat choice in
        (λ h. i.0 (inl (first.0 h)), λ h. elim (i.1 h) [ inl c ↦ first.1 c | inr b ↦ absurd b ])

    module _ (I : Interpretation) (sat : Satisfies I deck) (all : asked.stop ≡ finished) (nothing-parked : asked.parked ≡ []) where
      -- Where a run finishes with nothing left open, the choices for which the query holds are those that a listed answer covers.
      pub finished-lists-all : QueryHolds I query choice ↔ SomeCovers I choice (unmarked asked.answers)
      unfolding Satisfies
      finished-lists-all =
          let e : asked.pending ≡ [] = (two-valued-sound merely (λ b. b) I.atoms deck sat answer_room store_size (first_goal query ∷ []) [] total).emptied all in
          let r : remaining asked ≡ unmarked asked.answers = rw (e, nothing-parked) (append-nil (unmarked asked.answers)) in
          subst (λ (ms : List Marked). QueryHolds I query choice ↔ SomeCovers I choice ms) r (query-covers I sat)

      -- Where it lists no answer either, the query holds for no choice.
      pub no-means-none : asked.answers ≡ [] → ¬ QueryHolds I query choice
      unfolding SomeCovers
      no-means-none e h =
          let k : SomeCovers I choice [] = rw e at (finished-lists-all.0 h) in
          ∥∥₁_elim k ⊥_prop (λ b. b)
