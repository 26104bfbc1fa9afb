-- Presses one after another (document 02, U14), each with its own budget and lists: the goals are the evaluation's after the steps that were
-- not cut short, the display's counts are sums, and the cover statement holds between any two.
use Prim.Native.Nat.{ℕ, ◌+◌, ◌-◌, ◌≤◌}
use mathlib.Core.Path.{◌≡◌, refl, sym, ◌∙◌, ap, subst}
use mathlib.Core.Logic.{◌↔◌}
use mathlib.Core.List.{List, [], ◌∷◌, ◌++◌, append-nil}
use native.Mathlib.Nat.{zero-add, add-zero, add_assoc}
use native.Mathlib.Omega.{arith}
use lib.ListN.{length, length-append}
use Rattle.rules.specs.Syntax.{Literal, Deck, Goal, vars_literals}
use Rattle.rules.specs.Goals.{Marked, unmarked, words_of, query_variables, first_goal}
use Rattle.rules.specs.Evaluation.{Level, zeroth, Account, opening, Ended, evaluate_level, Outcome, outcome, evaluate}
use Rattle.rules.specs.Meaning.{Inds, Interpretation, Satisfies, individuals, QueryHolds, SomeCovers}
use Rattle.rules.specs.ThreeValues.{◌≈◌, ◌⊑◌, Interpretation3, Satisfies3, goals_value, ExcludedMiddle}
use Rattle.rules.specs.Press.{Pressed, pressed_of, counted, Display, capped, displayed}
use Rattle.rules.specs.WellFormed.{All, InOrder}
use Rattle.rules.proofs.GoalLaws.{words_of-append}
use Rattle.rules.proofs.LevelLaws.{runs, runs-level, level-empty, level-spent}
use Rattle.rules.proofs.EndLaws.{fit-keeps}
use Rattle.rules.proofs.LevelSound.{level}
use Rattle.rules.proofs.PressList.{press_on, after_press, press_all, steps_taken, cost_taken, summed, taken, taken_cost, rooms, displays, steps_of, cost_of_all}
use Rattle.rules.proofs.Continued.{Lent, continued, goals_of, continued-covers, query-continued}
use Rattle.rules.proofs.ThreeCover.{continued-stays, continued-values}
use Rattle.rules.proofs.PressLaws.{steps-runs, steps-spend, steps-keep, Presses, takes, cuts, pressed}
use Rattle.rules.proofs.Limits.{behind, steps-shift}

-- An account, by what is left and the steps taken.
abbrev account : ℕ → ℕ → Account
account left steps = record { left = left; steps = steps }

pub press-join : (deck : Deck) (bs cs : List Lent) (l : Level) → press_all deck (bs ++ cs) l ≡ press_all deck cs (press_all deck bs l)
unfolding press_all
press-join deck [] cs l = refl
press-join deck (b ∷ bs) cs l = press-join deck bs cs (after_press l (press_on deck b l))

-- ONE PRESS AND THE EVALUATION
module _ (deck : Deck) (b : Lent) (l : Level) where
  bare-level : behind l.answers (level l.pending l.parked []) ≡ l
  bare-level = ap (λ vs. record { pending = l.pending; parked = l.parked; answers = vs }) (append-nil l.answers)

  -- An evaluation with at least as long an answer list and as large a store comes to where a press comes, with the cost and the steps of the press.
  pub press-evaluates : (room store_size x n : ℕ) → words_of l.answers + b.answer_room ≤ room → b.store_size ≤ store_size
      → evaluate_level deck.clauses room store_size 32 zeroth l (account (cost_taken (press_on deck b l) + x) n)
      ≡ evaluate_level deck.clauses room store_size 32 zeroth (after_press l (press_on deck b l)) (account x (n + steps_taken (press_on deck b l)))
  press-evaluates room store_size x n h k = pressed deck b.answer_room b.store_size l.pending l.parked b.budget
      (λ p. evaluate_level deck.clauses room store_size 32 zeroth l (account (cost_taken p + x) n) ≡ evaluate_level deck.clauses room store_size 32 zeroth (after_press l p) (account x (n + steps_taken p)))
      (λ e p. go p)
    where
      go : {e : Ended} → Presses deck.clauses b.answer_room b.store_size (level l.pending l.parked []) (opening b.budget) e
          → evaluate_level deck.clauses room store_size 32 zeroth l (account (cost_taken (pressed_of b.budget e) + x) n)
          ≡ evaluate_level deck.clauses room store_size 32 zeroth (after_press l (pressed_of b.budget e)) (account x (n + steps_taken (pressed_of b.budget e)))
      go (takes {l'} {b = m} s) =
          let first : Account = account (b.budget - m.left + x) n in
          let last : Account = account x (n + m.steps) in
          let more = steps-shift deck.clauses b.answer_room b.store_size room store_size l.answers h k s first last
          (record { left = omega (arith, (steps-spend s).left); steps = omega arith }) in
          subst (λ (y : Level). evaluate_level deck.clauses room store_size 32 zeroth y first ≡ evaluate_level deck.clauses room store_size 32 zeroth (behind l.answers l') last)
          bare-level (runs-level deck.clauses room store_size (steps-runs more (runs deck.clauses room store_size 32 zeroth (behind l.answers l') last)))
      go (cuts r) = λ i. evaluate_level deck.clauses room store_size 32 zeroth (sym bare-level i) (account (zero-add x i) (sym (add-zero n) i))

  press-fits : words_of (press_on deck b l).answers ≤ b.answer_room
  press-fits = pressed deck b.answer_room b.store_size l.pending l.parked b.budget (λ p. words_of p.answers ≤ b.answer_room) (λ e p. go p)
    where
      go : {e : Ended} → Presses deck.clauses b.answer_room b.store_size (level l.pending l.parked []) (opening b.budget) e
          → words_of (pressed_of b.budget e).answers ≤ b.answer_room
      go (takes s) = steps-keep (λ k. words_of k.answers ≤ b.answer_room) (fit-keeps zeroth) s (omega arith)
      go (cuts r) = omega arith

-- ALL PRESSES AND THE EVALUATION
pub presses-evaluate : (deck : Deck) (room store_size : ℕ) (bs : List Lent) → All (λ b. b.store_size ≤ store_size) bs → (l : Level) → words_of l.answers + rooms bs ≤ room
    → (x n : ℕ) → evaluate_level deck.clauses room store_size 32 zeroth l (account (taken_cost deck bs l + x) n)
    ≡ evaluate_level deck.clauses room store_size 32 zeroth (press_all deck bs l) (account x (n + taken deck bs l))
unfolding summed press_all
presses-evaluate deck room store_size [] w l h x n = λ i. evaluate_level deck.clauses room store_size 32 zeroth l (account (zero-add x i) (sym (add-zero n) i))
presses-evaluate deck room store_size (b ∷ bs) w l h x n =
    let p : Pressed = press_on deck b l in
    let fits : words_of (l.answers ++ p.answers) ≤ words_of l.answers + b.answer_room = omega (arith, words_of-append l.answers p.answers, press-fits deck b l) in
    (λ i. evaluate_level deck.clauses room store_size 32 zeroth l (account (add_assoc (cost_taken p) (taken_cost deck bs (after_press l p)) x i) n))
    ∙ press-evaluates deck b l room store_size (taken_cost deck bs (after_press l p) + x) n (omega arith) w.0
    ∙ presses-evaluate deck room store_size bs w.1 (after_press l p) (omega arith) x (n + steps_taken p)
    ∙ (λ i. evaluate_level deck.clauses room store_size 32 zeroth (press_all deck bs (after_press l p)) (account x (add_assoc n (steps_taken p) (taken deck bs (after_press l p)) i)))

-- What an outcome leaves is a level's goals and answers, and it has used so many steps, at such a cost.
pub record ComesTo (o : Outcome) (used spent : ℕ) (l : Level) : Type 0 where
  pub steps : o.steps ≡ used
  pub cost : o.cost ≡ spent
  pub answers : o.answers ≡ l.answers
  pub pending : o.pending ≡ l.pending
  pub parked : o.parked ≡ l.parked

-- With nothing left an evaluation leaves the level as it is.
rests : (deck : Deck) (room store_size total n : ℕ) (l : Level) → ComesTo (outcome total (evaluate_level deck.clauses room store_size 32 zeroth l (account 0 n))) n total l
unfolding outcome
rests deck room store_size total n l = go l.pending refl
  where
    go : (gs : List Goal) → l.pending ≡ gs → ComesTo (outcome total (evaluate_level deck.clauses room store_size 32 zeroth l (account 0 n))) n total l
    go [] e = rw (level-empty deck.clauses room store_size 32 zeroth l (account 0 n) e) (record { steps = refl; cost = omega arith; answers = refl; pending = refl; parked = refl })
    go (g ∷ gs) e = rw (level-spent deck.clauses room store_size 32 zeroth l (account 0 n) g gs e refl) (record { steps = refl; cost = omega arith; answers = refl; pending = refl; parked = refl })

-- So a run of budget 0, whose result is a display's first record, leaves the goals that it was given.
pub budget-0 : (deck : Deck) (room store_size : ℕ) (gs : List Goal) (ms : List Marked) → ComesTo (evaluate deck room store_size gs ms 0) 0 0 (level gs ms [])
unfolding evaluate
budget-0 deck room store_size gs ms = rests deck room store_size 0 0 (level gs ms [])

-- From an equation of levels with nothing left at the end.
comes : (deck : Deck) (room store_size cost used : ℕ) (first last : Level)
    → evaluate_level deck.clauses room store_size 32 zeroth first (account (cost + 0) 0) ≡ evaluate_level deck.clauses room store_size 32 zeroth last (account 0 (0 + used))
    → ComesTo (outcome cost (evaluate_level deck.clauses room store_size 32 zeroth first (opening cost))) used cost last
comes deck room store_size cost used first last e =
    let same : evaluate_level deck.clauses room store_size 32 zeroth first (opening cost) ≡ evaluate_level deck.clauses room store_size 32 zeroth last (account 0 used) =
    (λ i. evaluate_level deck.clauses room store_size 32 zeroth first (account (sym (add-zero cost) i) 0)) ∙ e
    ∙ (λ i. evaluate_level deck.clauses room store_size 32 zeroth last (account 0 (zero-add used i))) in
    rw same (rests deck room store_size cost used last)

-- THE GOALS ARE THE EVALUATION'S: with the cost of the presses that were not cut short for its budget, with an answer list as long as theirs
-- together and a store as large as each of theirs, it takes their steps and leaves the goals that the presses leave, and the answers of all of them.
pub presses-leave : (deck : Deck) (room store_size : ℕ) (bs : List Lent) → All (λ b. b.store_size ≤ store_size) bs → rooms bs ≤ room → (gs : List Goal) (ms : List Marked)
    → ComesTo (evaluate deck room store_size gs ms (taken_cost deck bs (level gs ms []))) (taken deck bs (level gs ms [])) (taken_cost deck bs (level gs ms [])) (press_all deck bs (level gs ms []))
unfolding evaluate
presses-leave deck room store_size bs w h gs ms =
    comes deck room store_size (taken_cost deck bs (level gs ms [])) (taken deck bs (level gs ms [])) (level gs ms []) (press_all deck bs (level gs ms []))
    (presses-evaluate deck room store_size bs w (level gs ms []) (omega arith) 0 0)

-- COVER. Each press leaves what a run with its cost for a budget leaves, so that presses are runs continued one from the other.
abbrev as_run : Deck → Lent → Level → Lent
as_run deck b l = record { budget = cost_taken (press_on deck b l); answer_room = b.answer_room; store_size = b.store_size }

unfoldable as_runs : Deck → List Lent → Level → List Lent
as_runs deck [] l = []
as_runs deck (b ∷ bs) l = as_run deck b l ∷ as_runs deck bs (after_press l (press_on deck b l))

pub press-leaves : (deck : Deck) (b : Lent) (l : Level)
    → ComesTo (evaluate deck b.answer_room b.store_size l.pending l.parked (cost_taken (press_on deck b l))) (steps_taken (press_on deck b l)) (cost_taken (press_on deck b l))
    (after_press (level [] [] []) (press_on deck b l))
unfolding evaluate
press-leaves deck b l =
    let start : Level = level l.pending l.parked [] in
    comes deck b.answer_room b.store_size (cost_taken (press_on deck b l)) (steps_taken (press_on deck b l)) start (after_press start (press_on deck b l))
    (press-evaluates deck b start b.answer_room b.store_size 0 0 (omega arith) (omega arith))

presses-continued : (deck : Deck) (bs : List Lent) (l : Level) → press_all deck bs l ≡ continued deck (as_runs deck bs l) l
unfolding press_all as_runs continued
presses-continued deck [] l = refl
presses-continued deck (b ∷ bs) l =
    let v = press-leaves deck b l in
    presses-continued deck bs (after_press l (press_on deck b l))
    ∙ ap (continued deck (as_runs deck bs (after_press l (press_on deck b l)))) (λ i. record {
      pending = sym v.pending i;
      parked = sym v.parked i;
      answers = l.answers ++ sym v.answers i;
    })

pub presses-cover : (deck : Deck) (bs : List Lent) (gs : List Goal) (ms : List Marked) (I : Interpretation) → Satisfies I deck → (choice : Inds)
    → SomeCovers I choice (unmarked gs ++ ms) ↔ SomeCovers I choice (goals_of (press_all deck bs (level gs ms [])))
presses-cover deck bs gs ms I sat choice =
    rw (presses-continued deck bs (level gs ms [])) (continued-covers deck (as_runs deck bs (level gs ms [])) gs ms I sat choice)

-- And in three values.
pub presses-value : ExcludedMiddle → (deck : Deck) (bs : List Lent) (gs : List Goal) (ms : List Marked) (I : Interpretation3) → Satisfies3 I deck → (choice : Inds)
    → goals_value I choice (unmarked gs ++ ms) ≈ goals_value I choice (goals_of (press_all deck bs (level gs ms [])))
presses-value em deck bs gs ms I sat choice = rw (presses-continued deck bs (level gs ms [])) (continued-values deck (as_runs deck bs (level gs ms [])) gs ms I sat choice em)

pub presses-stay : (deck : Deck) (bs : List Lent) (gs : List Goal) (ms : List Marked) (I : Interpretation3) → Satisfies3 I deck → (choice : Inds)
    → goals_value I choice (unmarked gs ++ ms) ⊑ goals_value I choice (goals_of (press_all deck bs (level gs ms [])))
presses-stay deck bs gs ms I sat choice = rw (presses-continued deck bs (level gs ms [])) (continued-stays deck (as_runs deck bs (level gs ms [])) gs ms I sat choice)

-- From a query.
pub query-pressed :
    (query : List Literal) → InOrder (vars_literals query) → (choice : Inds) → individuals choice ≡ length (query_variables query)
    → (deck : Deck) (bs : List Lent) (I : Interpretation) → Satisfies I deck
    → QueryHolds I query choice ↔ SomeCovers I choice (goals_of (press_all deck bs (level (first_goal query ∷ []) [] [])))
query-pressed query ordered choice many deck bs I sat =
    rw (presses-continued deck bs (level (first_goal query ∷ []) [] [])) (query-continued query ordered choice many deck (as_runs deck bs (level (first_goal query ∷ []) [] [])) I sat)

-- THE DISPLAY'S COUNTS are the sums over all presses, those cut short included, up to the greatest value; pending and parked count the goals.
-- What a display shows of a level, and of the steps and the cost so far.
pub record Shows (d : Display) (used spent : ℕ) (l : Level) : Type 0 where
  pub steps : d.steps ≡ capped used
  pub cost : d.cost ≡ capped spent
  pub answers : d.answers ≡ capped (length l.answers)
  pub pending : d.pending ≡ length l.pending
  pub parked : d.parked ≡ length l.parked

pub displays-show : (deck : Deck) (bs : List Lent) (l : Level) (d : Display) (used spent : ℕ) → Shows d used spent l
    → Shows (displays deck bs l d) (used + steps_of deck bs l) (spent + cost_of_all deck bs l) (press_all deck bs l)
unfolding displays summed press_all displayed counted
displays-show deck [] l d used spent h = rw (add-zero used, add-zero spent) h
displays-show deck (b ∷ bs) l d used spent h =
    let p : Pressed = press_on deck b l in
    rw (← add_assoc used p.steps (steps_of deck bs (after_press l p)), ← add_assoc spent p.cost (cost_of_all deck bs (after_press l p)))
    (displays-show deck bs (after_press l p) (displayed d (counted p)) (used + p.steps) (spent + p.cost) (record {
      steps = omega (arith, h.steps);
      cost = omega (arith, h.cost);
      answers = omega (arith, h.answers, length-append l.answers p.answers);
      pending = refl;
      parked = refl;
    }))
