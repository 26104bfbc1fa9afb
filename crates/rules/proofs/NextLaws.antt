-- What is next at a level, case by case: each case holds what the tests before it have found.
use Prim.Native.Nat.{ℕ, zero, suc, ◌+◌, ◌≤◌, ◌<◌}
use mathlib.Core.Path.{◌≡◌, refl}
use mathlib.Core.Bool.{Bool, true, false}
use mathlib.Core.List.{List, [], ◌∷◌, ◌++◌}
use lib.Dec.{leb}
use native.Mathlib.Omega.{arith}
use borrow.Author.Tests.{leb-true, leb-false}
use Rattle.rules.specs.Terms.{Terms}
use Rattle.rules.specs.Syntax.{Literal, Clause, Goal}
use Rattle.rules.specs.Goals.{Mark, floundered, oversized, deep, goal_words, words_of}
use Rattle.rules.specs.Resolution.{Selection, nothing, positive, negative, select, resolvents, any_oversized, selected_cost, cost_of}
use Rattle.rules.specs.Evaluation.{finished, budget, answers, store, Level, with_pending, with_parked, with_answer, Place, zeroth, deeper, held, Act, no_literals, park, derive, decide, derive_act, decide_act, selected_act, literals_act, act_of, question, Next, halt, step, success, ask, answer_step, act_step, unless_over, check_store, first_cost, next_from, next_of}

-- What holds either way of a test holds of the choice.
pub either : {X : Type 0} (Q : X → Type 0) (b : Bool) (x y : X) → (b ≡ true → Q x) → (b ≡ false → Q y)
    → Q (elim b as (λ _. X) [ true ↦ x | false ↦ y ])
either Q true x y h k = h refl
either Q false x y h k = k refl

-- What a step does with a goal, where `below` is the number of levels below.
pub data Acts (clauses : List Clause) (below : ℕ) (g : Goal) : Act → Type 0 where
  bare : g.literals ≡ [] → Acts clauses below g no_literals
  flounders : (g.literals ≡ [] → ⊥) → select g.literals ≡ nothing → Acts clauses below g (park floundered)
  overflows : {before after : List Literal} {p : ℕ} {ts : Terms} → select g.literals ≡ positive before p ts after
      → any_oversized (resolvents clauses g before p ts after) ≡ true → Acts clauses below g (park oversized)
  resolves : {before after : List Literal} {p : ℕ} {ts : Terms} → select g.literals ≡ positive before p ts after
      → any_oversized (resolvents clauses g before p ts after) ≡ false → Acts clauses below g (derive (resolvents clauses g before p ts after))
  bottoms : {before after : List Literal} {p : ℕ} {ts : Terms} → select g.literals ≡ negative before p ts after
      → below ≡ 0 → Acts clauses below g (park deep)
  asks : {before after : List Literal} {p n : ℕ} {ts : Terms} → select g.literals ≡ negative before p ts after
      → below ≡ suc n → Acts clauses below g (decide p ts (before ++ after))

module _ (clauses : List Clause) (g : Goal) where
  decide-acts : (below : ℕ) (before : List Literal) (p : ℕ) (ts : Terms) (after : List Literal)
      → select g.literals ≡ negative before p ts after → Acts clauses below g (decide_act below p ts (before ++ after))
  unfolding decide_act
  decide-acts zero before p ts after e = bottoms e refl
  decide-acts (suc below) before p ts after e = asks e refl

  selected-acts : (below : ℕ) (s : Selection) → (g.literals ≡ [] → ⊥) → select g.literals ≡ s → Acts clauses below g (selected_act clauses below g s)
  unfolding selected_act derive_act
  selected-acts below nothing n e = flounders n e
  selected-acts below (positive before p ts after) n e =
      either (Acts clauses below g) (any_oversized (resolvents clauses g before p ts after)) _ _
      (overflows e) (resolves e)
  selected-acts below (negative before p ts after) n e = decide-acts below before p ts after e

  literals-acts : (below : ℕ) (ls : List Literal) → g.literals ≡ ls → Acts clauses below g (literals_act clauses below g ls)
  unfolding literals_act
  literals-acts below [] e = bare e
  literals-acts below (l ∷ ls) e = selected-acts below (select (l ∷ ls)) (λ z. let i : ◌≡◌ {A = ℕ} 0 1 = cc in omega arith) (rw e)

  pub acts : (below : ℕ) → Acts clauses below g (act_of clauses below g)
  unfolding act_of
  acts below = literals-acts below g.literals refl

-- What a step costs: 1 at least.
pub cost-positive : (clauses : List Clause) (g : Goal) → 1 ≤ cost_of clauses g
unfolding cost_of selected_cost
cost-positive clauses g = go (select g.literals)
  where
    go : (s : Selection) → 1 ≤ selected_cost clauses g s
    go nothing = omega arith
    go (positive before p ts after) = omega arith
    go (negative before p ts after) = omega arith

pub first-cost : (clauses : List Clause) (l : Level) {g : Goal} {gs : List Goal} → l.pending ≡ g ∷ gs → first_cost clauses l.pending ≡ cost_of clauses g
unfolding first_cost
first-cost clauses l e = rw e

-- What is next at a level with `left` left of the budget.
pub data Ahead (clauses : List Clause) (answer_room store_size below : ℕ) : Place → Level → ℕ → Next → Type 0 where
  -- It stops: nothing is pending; the step's cost is not left; the answer does not fit; the words held after the step would exceed the store.
  emptied : {at : Place} {l : Level} {left : ℕ} → l.pending ≡ [] → Ahead clauses answer_room store_size below at l left (halt finished)
  unpaid : {at : Place} {l : Level} {left : ℕ} {g : Goal} {gs : List Goal} → l.pending ≡ g ∷ gs → left < cost_of clauses g
      → Ahead clauses answer_room store_size below at l left (halt budget)
  unlisted : {l : Level} {left : ℕ} {g : Goal} {gs : List Goal} → l.pending ≡ g ∷ gs → cost_of clauses g ≤ left → Acts clauses below g no_literals
      → answer_room < words_of l.answers + goal_words g → Ahead clauses answer_room store_size below zeroth l left (halt answers)
  unstored : {at : Place} {l : Level} {left : ℕ} {g : Goal} {gs : List Goal} → l.pending ≡ g ∷ gs → cost_of clauses g ≤ left
      → Ahead clauses answer_room store_size below at l left (halt store)
  -- A step, which is paid: an answer is listed; a goal is parked; a goal is replaced by those derived from it.
  lists : {l : Level} {left : ℕ} {g : Goal} {gs : List Goal} → l.pending ≡ g ∷ gs → cost_of clauses g ≤ left → Acts clauses below g no_literals
      → words_of l.answers + goal_words g ≤ answer_room → held zeroth (with_answer g gs l) ≤ store_size
      → Ahead clauses answer_room store_size below zeroth l left (step (with_answer g gs l))
  parks : {at : Place} {l : Level} {left : ℕ} {g : Goal} {gs : List Goal} {m : Mark} → l.pending ≡ g ∷ gs → cost_of clauses g ≤ left → Acts clauses below g (park m)
      → held at (with_parked m g gs l) ≤ store_size → Ahead clauses answer_room store_size below at l left (step (with_parked m g gs l))
  replaces : {at : Place} {l : Level} {left : ℕ} {g : Goal} {gs ds : List Goal} → l.pending ≡ g ∷ gs → cost_of clauses g ≤ left → Acts clauses below g (derive ds)
      → held at (with_pending (ds ++ gs) l) ≤ store_size → Ahead clauses answer_room store_size below at l left (step (with_pending (ds ++ gs) l))
  -- A deeper level has succeeded.
  succeeds : {outer : ℕ} {l : Level} {left : ℕ} {g : Goal} {gs : List Goal} → l.pending ≡ g ∷ gs → cost_of clauses g ≤ left → Acts clauses below g no_literals
      → Ahead clauses answer_room store_size below (deeper outer) l left success
  -- A new level is asked.
  inquires : {at : Place} {l : Level} {left : ℕ} {g : Goal} {gs : List Goal} {p : ℕ} {ts : Terms} {others : List Literal}
      → l.pending ≡ g ∷ gs → cost_of clauses g ≤ left → Acts clauses below g (decide p ts others)
      → held at l + goal_words (question at l g gs p ts others).goal ≤ store_size
      → Ahead clauses answer_room store_size below at l left (ask (question at l g gs p ts others))

module _ (clauses : List Clause) (answer_room store_size below : ℕ) where
  -- A step on g, the first pending goal, which can be paid.
  module _ (at : Place) (l : Level) (left : ℕ) (g : Goal) (gs : List Goal) (p : l.pending ≡ g ∷ gs) (c : cost_of clauses g ≤ left) where
    within : (words : ℕ) (n : Next) → (words ≤ store_size → Ahead clauses answer_room store_size below at l left n)
        → Ahead clauses answer_room store_size below at l left (unless_over store_size words n)
    unfolding unless_over
    within words n h =
        either (Ahead clauses answer_room store_size below at l left) (leb words store_size) n (halt store)
        (λ e. h (leb-true words store_size e)) (λ _. unstored p c)

  answer-ahead : (at : Place) (l : Level) (left : ℕ) (g : Goal) (gs : List Goal) → l.pending ≡ g ∷ gs → cost_of clauses g ≤ left → Acts clauses below g no_literals
      → Ahead clauses answer_room store_size below at l left (check_store store_size at (answer_step answer_room at l g gs))
  unfolding check_store answer_step
  answer-ahead zeroth l left g gs p c a =
      either (λ n. Ahead clauses answer_room store_size below zeroth l left (check_store store_size zeroth n))
      (leb (words_of l.answers + goal_words g) answer_room) (step (with_answer g gs l)) (halt answers)
      (λ e. within zeroth l left g gs p c (held zeroth (with_answer g gs l)) (step (with_answer g gs l))
      (lists p c a (leb-true (words_of l.answers + goal_words g) answer_room e)))
      (λ e. unlisted p c a (leb-false (words_of l.answers + goal_words g) answer_room e))
  answer-ahead (deeper outer) l left g gs p c a = succeeds p c a

  act-ahead : (at : Place) (l : Level) (left : ℕ) (g : Goal) (gs : List Goal) → l.pending ≡ g ∷ gs → cost_of clauses g ≤ left → (a : Act) → Acts clauses below g a
      → Ahead clauses answer_room store_size below at l left (check_store store_size at (act_step answer_room at l g gs a))
  unfolding check_store act_step question
  act-ahead at l left g gs p c no_literals a = answer-ahead at l left g gs p c a
  act-ahead at l left g gs p c (park m) a = within at l left g gs p c _ _ (parks p c a)
  act-ahead at l left g gs p c (derive ds) a = within at l left g gs p c _ _ (replaces p c a)
  act-ahead at l left g gs p c (decide q ts others) a = within at l left g gs p c _ _ (inquires p c a)

  ahead-from : (at : Place) (l : Level) (gs : List Goal) → l.pending ≡ gs → (left : ℕ)
      → Ahead clauses answer_room store_size below at l left (next_from clauses answer_room store_size below at l gs left)
  unfolding next_from
  ahead-from at l [] p left = emptied p
  ahead-from at l (g ∷ gs) p left =
      either (Ahead clauses answer_room store_size below at l left) (leb (cost_of clauses g) left) _ (halt budget)
      (λ e. act-ahead at l left g gs p (leb-true (cost_of clauses g) left e) (act_of clauses below g) (acts clauses g below))
      (λ e. unpaid p (leb-false (cost_of clauses g) left e))

  pub ahead : (at : Place) (l : Level) (left : ℕ) → Ahead clauses answer_room store_size below at l left (next_of clauses answer_room store_size below at l left)
  unfolding next_of
  ahead at l left = ahead-from at l l.pending refl left
