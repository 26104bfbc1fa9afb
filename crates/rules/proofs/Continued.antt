-- Runs on one deck, continued one from the other: what was covered before the first is covered by an answer of any of them or by a goal open
-- after the last, and nothing else is.
use Prim.Native.Nat.{ℕ}
use mathlib.Core.Path.{◌≡◌, sym, subst}
use mathlib.Core.Logic.Iff
use mathlib.Core.Logic.{◌↔◌}
use mathlib.Core.List.{List, [], ◌∷◌, ◌++◌, append_assoc}
use lib.ListN.{length}
use Rattle.rules.specs.Syntax.{Literal, Deck, Goal, vars_literals}
use Rattle.rules.specs.Goals.{Marked, unmarked, query_variables, first_goal}
use Rattle.rules.specs.Evaluation.{Level, evaluate}
use Rattle.rules.specs.Meaning.{Inds, Atoms, Interpretation, Reading, two_valued, SatisfiesBy, Satisfies, individuals, QueryHolds, CoversBy, SomeCovers}
use Rattle.rules.specs.WellFormed.{InOrder}
use Rattle.rules.proofs.Existence.{Existence, merely, at_hand, Into, into-same, into-then, into-behind}
use Rattle.rules.proofs.GoalLaws.{unmarked-append}
use Rattle.rules.proofs.ResolventSound.{OneWay, two-valued-way}
use Rattle.rules.proofs.LevelSound.{level}
use Rattle.rules.proofs.Cover.{remaining, SomeCoversBy, outcome-sound, covers-merely, query-first}

-- What a run is given: its budget, and the lengths of its answer list and its store.
pub record Lent : Type 0 where
  pub budget : ℕ
  pub answer_room : ℕ
  pub store_size : ℕ

-- The pending and parked goals after the last run, and the answers of all of them.
unfoldable pub continued : Deck → List Lent → Level → Level
continued deck [] l = l
continued deck (b ∷ bs) l =
    let o = evaluate deck b.answer_room b.store_size l.pending l.parked b.budget in
    continued deck bs (record { pending = o.pending; parked = o.parked; answers = l.answers ++ o.answers })

abbrev pub goals_of : Level → List Marked
goals_of l = unmarked l.answers ++ (unmarked l.pending ++ l.parked)

-- Of the goals before the first run and after the last.
pub continued-into :
    (X : Existence) (I J : Reading) (deck : Deck) → OneWay X I J deck.clauses → (choice : Inds) (bs : List Lent) (l : Level)
    → Into X (SomeCoversBy I choice) (SomeCoversBy J choice) (goals_of l) (goals_of (continued deck bs l))
unfolding continued
continued-into X I J deck way choice [] l = into-same X (SomeCoversBy I choice) (SomeCoversBy J choice) (goals_of l)
continued-into X I J deck way choice (b ∷ bs) l =
    let o = evaluate deck b.answer_room b.store_size l.pending l.parked b.budget in
    let l' : Level = record { pending = o.pending; parked = o.parked; answers = l.answers ++ o.answers } in
    let e : unmarked l.answers ++ remaining o ≡ goals_of l' = rw unmarked-append (sym (append_assoc (unmarked l.answers) (unmarked o.answers) (unmarked o.pending ++ o.parked))) in
    let one = into-behind X (λ m. CoversBy I choice m.goal) (λ m. CoversBy J choice m.goal) (unmarked l.answers) (unmarked l.pending ++ l.parked) (remaining o)
    ((outcome-sound X I J deck way b.answer_room b.store_size l.pending l.parked b.budget).covers choice) in
    into-then X (SomeCoversBy I choice) (SomeCoversBy J choice) (goals_of l) (goals_of l') (goals_of (continued deck bs l'))
    (subst (Into X (SomeCoversBy I choice) (SomeCoversBy J choice) (goals_of l)) e one) (continued-into X I J deck way choice bs l')

module _ (deck : Deck) (bs : List Lent) (gs : List Goal) (ms : List Marked) where
  -- From any pending and parked goals, and for every list of runs.
  pub continued-covers : (I : Interpretation) → Satisfies I deck → (choice : Inds) → SomeCovers I choice (unmarked gs ++ ms) ↔ SomeCovers I choice (goals_of (continued deck bs (level gs ms [])))
  unfolding Satisfies
  continued-covers I sat choice = covers-merely I choice _ _ (continued-into merely _ _ deck (two-valued-way merely (λ b. b) I.atoms deck.clauses sat) choice bs (level gs ms []))

  pub continued-covers-by :
      (I : Atoms) → SatisfiesBy (λ A. A) (two_valued I) deck.clauses → (choice : Inds)
      → SomeCoversBy (two_valued I) choice (unmarked gs ++ ms) ↔ SomeCoversBy (two_valued I) choice (goals_of (continued deck bs (level gs ms [])))
  continued-covers-by I sat choice = continued-into at_hand _ _ deck (two-valued-way at_hand (λ b. b) I deck.clauses sat) choice bs (level gs ms [])

-- From a query.
pub query-continued :
    (query : List Literal) → InOrder (vars_literals query) → (choice : Inds) → individuals choice ≡ length (query_variables query)
    → (deck : Deck) (bs : List Lent) (I : Interpretation) → Satisfies I deck
    → QueryHolds I query choice ↔ SomeCovers I choice (goals_of (continued deck bs (level (first_goal query ∷ []) [] [])))
query-continued query ordered choice many deck bs I sat = Iff.trans (query-first query ordered choice many I) (continued-covers deck bs (first_goal query ∷ []) [] I sat choice)
