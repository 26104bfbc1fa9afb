-- A step on the first pending goal, by what is done with it: how the evaluation goes on, whatever the level and its place, or that it stops.
use Prim.Native.Nat.{ℕ, suc, ◌+◌, ◌-◌, ◌≤◌, ◌<◌}
use mathlib.Core.Path.{◌≡◌, refl, ◌∙◌, ap, ap₂}
use mathlib.Core.Bool.{true, false}
use mathlib.Core.List.{List, [], ◌∷◌, ◌++◌}
use native.Mathlib.Omega.{arith}
use borrow.Author.Tests.{le-leb, lt-leb}
use Rattle.rules.specs.Terms.{Terms}
use Rattle.rules.specs.Syntax.{Literal, Clause, Goal}
use Rattle.rules.specs.Goals.{Mark, floundered, oversized, deep, undecided, marked, goal_words, words_of}
use Rattle.rules.specs.Resolution.{Selection, nothing, positive, negative, select, resolvents, any_oversized, selected_cost, cost_of}
use Rattle.rules.specs.Evaluation.{Stop, budget, store, Level, start_level, with_pending, with_parked, Place, zeroth, deeper, held, Act, no_literals, park, derive, decide, derive_act, decide_act, selected_act, literals_act, act_of, question, Next, halt, step, ask, answer_step, act_step, unless_over, check_store, Account, pay, succeeded, Ended, ended, Verdict, succeeds, fails, unsettled, interrupted, reply, close, decide_by, evaluate_level, next_from, next_of}
use Rattle.rules.specs.Press.{one_step}
use Rattle.rules.proofs.GoalLaws.{marked_words-append}
use Rattle.rules.proofs.NextLaws.{first-cost}
use Rattle.rules.proofs.LevelLaws.{level-succeeds, step-halts, step-moves, step-asks, step-unpaid}
use Rattle.goals.specs.Store.{atom_goal}
use Rattle.levels.specs.Levels.{outside, LevelHolds, Onward, Halts, Decides}

-- WHAT IS DONE WITH A GOAL
-- A goal with a selected literal has literals.
positive-some : {before after : List Literal} {p : ℕ} {ts : Terms} (ls : List Literal) → select ls ≡ positive before p ts after → ls ≡ [] → ⊥
unfolding select
positive-some ls e n = let z : ◌≡◌ {A = ℕ} 0 1 = cc (ap select n) in omega arith

negative-some : {before after : List Literal} {p : ℕ} {ts : Terms} (ls : List Literal) → select ls ≡ negative before p ts after → ls ≡ [] → ⊥
unfolding select
negative-some ls e n = let z : ◌≡◌ {A = ℕ} 0 1 = cc (ap select n) in omega arith

some-oversized : (ds : List Goal) → any_oversized ds ≡ true → derive_act ds ≡ park oversized
unfolding derive_act
some-oversized ds e = rw (e, derive_act)

none-oversized : (ds : List Goal) → any_oversized ds ≡ false → derive_act ds ≡ derive ds
unfolding derive_act
none-oversized ds e = rw (e, derive_act)

module _ (clauses : List Clause) (below : ℕ) (g : Goal) where
  literals-act : (ls : List Literal) → (ls ≡ [] → ⊥) → literals_act clauses below g ls ≡ selected_act clauses below g (select ls)
  unfolding literals_act
  literals-act [] n = absurd (n refl)
  literals-act (l ∷ ls) n = refl

  act-is : (s : Selection) → (g.literals ≡ [] → ⊥) → select g.literals ≡ s → act_of clauses below g ≡ selected_act clauses below g s
  unfolding act_of
  act-is s n e = literals-act g.literals n ∙ ap (selected_act clauses below g) e

  pub bare : g.literals ≡ [] → act_of clauses below g ≡ no_literals
  unfolding act_of literals_act
  bare e = ap (literals_act clauses below g) e

  pub flounders : (g.literals ≡ [] → ⊥) → select g.literals ≡ nothing → act_of clauses below g ≡ park floundered
  unfolding selected_act
  flounders n e = act-is nothing n e

  module _ {before after : List Literal} {p : ℕ} {ts : Terms} where
    pub overflows : select g.literals ≡ positive before p ts after → any_oversized (resolvents clauses g before p ts after) ≡ true
        → act_of clauses below g ≡ park oversized
    unfolding selected_act
    overflows e o = act-is (positive before p ts after) (positive-some g.literals e) e ∙ some-oversized (resolvents clauses g before p ts after) o

    pub resolves : select g.literals ≡ positive before p ts after → any_oversized (resolvents clauses g before p ts after) ≡ false
        → act_of clauses below g ≡ derive (resolvents clauses g before p ts after)
    unfolding selected_act
    resolves e o = act-is (positive before p ts after) (positive-some g.literals e) e ∙ none-oversized (resolvents clauses g before p ts after) o

    pub bottoms : below ≡ 0 → select g.literals ≡ negative before p ts after → act_of clauses below g ≡ park deep
    unfolding selected_act decide_act
    bottoms z e = act-is (negative before p ts after) (negative-some g.literals e) e ∙ rw z

    pub asks : (n : ℕ) → below ≡ suc n → select g.literals ≡ negative before p ts after → act_of clauses below g ≡ decide p ts (before ++ after)
    unfolding selected_act decide_act
    asks n z e = act-is (negative before p ts after) (negative-some g.literals e) e ∙ rw z

-- THE WORDS HELD
held-replaced : (at : Place) (l : Level) (hs : List Goal) → held at (with_pending hs l) ≡ outside at l + words_of hs
unfolding held with_pending
held-replaced zeroth l hs = omega arith
held-replaced (deeper outer) l hs = refl

held-outside : (at : Place) (l : Level) (gs : List Goal) → l.pending ≡ gs → held at l ≡ outside at l + words_of gs
unfolding held
held-outside zeroth l gs e = omega (arith, ap words_of e)
held-outside (deeper outer) l gs e = omega (arith, ap words_of e)

held-parked : (at : Place) (l : Level) (m : Mark) (g : Goal) (gs : List Goal) → held at (with_parked m g gs l) ≤ outside at l + (goal_words g + words_of gs)
unfolding held with_parked
held-parked zeroth l m g gs = omega (arith, marked_words-append l.parked (marked m g ∷ []))
held-parked (deeper outer) l m g gs = omega arith

pub within : (store_size words : ℕ) (n : Next) → words ≤ store_size → unless_over store_size words n ≡ n
unfolding unless_over
within store_size words n h = rw (le-leb words store_size h, unless_over)

over : (store_size words : ℕ) (n : Next) → store_size < words → unless_over store_size words n ≡ halt store
unfolding unless_over
over store_size words n h = rw (lt-leb words store_size h, unless_over)

-- WHAT A STEP COSTS
pub cost-is : (clauses : List Clause) (g : Goal) (s : Selection) → select g.literals ≡ s → cost_of clauses g ≡ selected_cost clauses g s
unfolding cost_of
cost-is clauses g s e = ap (selected_cost clauses g) e

-- b is the account a after a step on g, whose whole cost is left.
pub record Pays (clauses : List Clause) (g : Goal) (a b : Account) : Type 0 where
  pub left : cost_of clauses g + b.left ≡ a.left
  pub steps : b.steps ≡ a.steps + 1

account-is : (a b : Account) → a.left ≡ b.left → a.steps ≡ b.steps → a ≡ b
account-is a b e f = ap₂ (λ (x y : ℕ). record { left = x; steps = y }) e f

-- THE STEP
module _ (clauses : List Clause) (below room : ℕ) (g : Goal) (gs : List Goal) (a b : Account) (pays : Pays clauses g a b) where
  pub next-is : (answer_room store_size : ℕ) (at : Place) (l : Level) → l.pending ≡ g ∷ gs → (act : Act) → act_of clauses below g ≡ act
      → next_of clauses answer_room store_size below at l a.left ≡ check_store store_size at (act_step answer_room at l g gs act)
  unfolding next_of next_from
  next-is answer_room store_size at l p act e =
      let whole : List Goal → Level = λ q. record { pending = q; parked = l.parked; answers = l.answers } in
      rw (p, le-leb (cost_of clauses g) a.left (omega (arith, pays.left)), next_from, e) (ap (λ (q : List Goal). check_store store_size at (act_step answer_room at (whole q) g gs act)) p)

  pub paid : (l : Level) → l.pending ≡ g ∷ gs → pay clauses l a ≡ b
  paid l p = account-is (pay clauses l a) b (omega (arith, first-cost clauses l p, pays.left)) (omega (arith, pays.steps))

  -- No literals: a deeper level has succeeded.
  pub answered : (answer_room store_size outer : ℕ) (l : Level) → l.pending ≡ g ∷ gs → g.literals ≡ []
      → evaluate_level clauses answer_room store_size below (deeper outer) l a ≡ ended succeeded l b
  unfolding check_store act_step answer_step
  answered answer_room store_size outer l p e =
      level-succeeds clauses answer_room store_size below (deeper outer) l a (next-is answer_room store_size (deeper outer) l p no_literals (bare clauses below g e))
      ∙ ap (ended succeeded l) (paid l p)

  pub parks : (m : Mark) → act_of clauses below g ≡ park m → goal_words g + words_of gs ≤ room → Onward clauses below room (g ∷ gs) a (with_parked m g gs) b
  unfolding check_store act_step
  parks m e f answer_room store_size at again l s =
      step-moves clauses answer_room store_size below at again l a (with_parked m g gs l)
      (next-is answer_room store_size at l s.pending (park m) e
      ∙ within store_size (held at (with_parked m g gs l)) (step (with_parked m g gs l)) (omega (arith, held-parked at l m g gs, s.room)))
      ∙ ap (again (with_parked m g gs l)) (paid l s.pending)

  module _ (ds : List Goal) (e : act_of clauses below g ≡ derive ds) where
    pub replaces : words_of (ds ++ gs) ≤ room → Onward clauses below room (g ∷ gs) a (with_pending (ds ++ gs)) b
    unfolding check_store act_step
    replaces f answer_room store_size at again l s =
        step-moves clauses answer_room store_size below at again l a (with_pending (ds ++ gs) l)
        (next-is answer_room store_size at l s.pending (derive ds) e
        ∙ within store_size (held at (with_pending (ds ++ gs) l)) (step (with_pending (ds ++ gs) l)) (omega (arith, held-replaced at l (ds ++ gs), s.room)))
        ∙ ap (again (with_pending (ds ++ gs) l)) (paid l s.pending)

    pub overfills : room < words_of (ds ++ gs) → Halts clauses below room (g ∷ gs) a store a
    unfolding check_store act_step
    overfills f answer_room store_size at again l s =
        step-halts clauses answer_room store_size below at again l a store
        (next-is answer_room store_size at l s.pending (derive ds) e
        ∙ over store_size (held at (with_pending (ds ++ gs) l)) (step (with_pending (ds ++ gs) l)) (omega (arith, held-replaced at l (ds ++ gs), s.room)))

-- The step's cost is not left.
pub unpaid : (clauses : List Clause) (below room : ℕ) (g : Goal) (gs : List Goal) (a : Account) → a.left < cost_of clauses g → Halts clauses below room (g ∷ gs) a budget a
unpaid clauses below room g gs a c answer_room store_size at again l s = step-unpaid clauses answer_room store_size below at again l a g gs s.pending c

-- A step that asks.
module _ (clauses : List Clause) (below room : ℕ) (g : Goal) (gs : List Goal) (a b : Account) (pays : Pays clauses g a b)
    (p : ℕ) (ts : Terms) (others : List Literal) (e : act_of clauses (suc below) g ≡ decide p ts others) where
  pub crowds : room < goal_words g + words_of gs + goal_words (atom_goal p ts) → Halts clauses (suc below) room (g ∷ gs) a store a
  unfolding check_store act_step question
  crowds f answer_room store_size at again l s =
      step-halts clauses answer_room store_size (suc below) at again l a store
      (next-is clauses (suc below) room g gs a b pays answer_room store_size at l s.pending (decide p ts others) e
      ∙ over store_size (held at l + goal_words (atom_goal p ts)) (ask (question at l g gs p ts others))
      (omega (arith, held-outside at l (g ∷ gs) s.pending, s.room)))

  module _ (fits : goal_words g + words_of gs + goal_words (atom_goal p ts) ≤ room) (v : Verdict) (after : Account)
      (says : Decides clauses below (room - (goal_words g + words_of gs)) (atom_goal p ts ∷ []) b v after) where
    closes : (answer_room store_size : ℕ) (at : Place) (again : Level → Account → Ended) (l : Level) → LevelHolds at l (g ∷ gs) room store_size
        → one_step clauses answer_room store_size (suc below) at again l a ≡ close again l (question at l g gs p ts others) (reply v after)
    unfolding check_store act_step question decide_by start_level
    closes answer_room store_size at again l s =
        let h = held-outside at l (g ∷ gs) s.pending in
        step-asks clauses answer_room store_size (suc below) at again l a (question at l g gs p ts others)
        (next-is clauses (suc below) room g gs a b pays answer_room store_size at l s.pending (decide p ts others) e
        ∙ within store_size (held at l + goal_words (atom_goal p ts)) (ask (question at l g gs p ts others)) (omega (arith, s.room)))
        ∙ rw (paid clauses (suc below) room g gs a b pays l s.pending, says answer_room store_size (held at l) (omega (arith, s.room)))

  -- By what the new level says.
  module _ (fits : goal_words g + words_of gs + goal_words (atom_goal p ts) ≤ room) (after : Account) where
    abbrev Says : Verdict → Type 0
    Says v = Decides clauses below (room - (goal_words g + words_of gs)) (atom_goal p ts ∷ []) b v after

    pub proves : Says succeeds → Onward clauses (suc below) room (g ∷ gs) a (with_pending gs) after
    unfolding close question
    proves d answer_room store_size at again l s = closes fits succeeds after d answer_room store_size at again l s

    pub disproves : Says fails → Onward clauses (suc below) room (g ∷ gs) a (with_pending (record { answer_terms = g.answer_terms; literals = others } ∷ gs)) after
    unfolding close question
    disproves d answer_room store_size at again l s = closes fits fails after d answer_room store_size at again l s

    pub unsettles : Says unsettled → Onward clauses (suc below) room (g ∷ gs) a (with_parked undecided g gs) after
    unfolding close question
    unsettles d answer_room store_size at again l s = closes fits unsettled after d answer_room store_size at again l s

    pub interrupts : (s : Stop) → Says (interrupted s) → Halts clauses (suc below) room (g ∷ gs) a s after
    unfolding close
    interrupts t d answer_room store_size at again l s = closes fits (interrupted t) after d answer_room store_size at again l s
