-- P(x) if P(f(x)), from P(a): a goal grows by a word a step, each of which costs 2, until a derived goal is oversized. The run takes 1,021 steps, too
-- many to be computed one by one, so its steps are shown once for all.
use Prim.Native.Nat.{ℕ, zero, suc, ◌+◌, ◌-◌, ◌*◌, ◌≤◌}
use mathlib.Core.Path.{◌≡◌, refl, sym, ◌∙◌, ap, ap₂, subst}
use mathlib.Core.List.{List, [], ◌∷◌}
use lib.ListN.{length}
use native.Mathlib.Decide.{ℕ_discrete}
use native.Mathlib.Omega.{arith}
use borrow.Author.Tests.{le-leb, le-ltb, lt-ltb}
use Rattle.rules.specs.Terms.{Term, var, app, Terms, nil, cons, vars_terms, occs, tops}
use Rattle.rules.specs.Syntax.{functor, predicate, pos, Clause, format1, Deck, Goal}
use Rattle.rules.specs.Cells.{write_terms, numbered}
use Rattle.rules.specs.Refusals.{accepted}
use Rattle.rules.specs.All.{rules}
use Rattle.rules.specs.Goals.{oversized, marked, goal_cells, goal_words}
use Rattle.rules.specs.Unification.{done, bind, solved, unify_front, unify_step, unify_round, unify_within, unify}
use Rattle.rules.specs.Resolution.{select, clauses_about, fresh, resolved, resolvent, keep_some, collect, resolvents, any_oversized, has_rows, tried_by, tried, matchings, selected_cost, cost_of}
use Rattle.rules.specs.Evaluation.{finished, stopped, Level, with_pending, with_parked, held, zeroth, derive_act, selected_act, literals_act, act_of, derive, park, step, act_step, unless_over, check_store, Account, first_cost, ended, next_from, next_of, evaluate_level, stop_of, outcome, evaluate}
use Rattle.rules.proofs.NumberingLaws.{renumber-same}
use Rattle.rules.proofs.LevelLaws.{level-steps, level-empty}
use Rattle.rules.proofs.Cases.{case, shows, shown, outcome_of, actual}
use Rattle.rules.proofs.MoreRuns.{deck_f}

-- The term f(.. f(a) ..), with n times f, as its functor and arguments.
abbrev functor_at : ℕ → ℕ
functor_at zero = 0
functor_at (suc n) = 1

abbrev arguments_at : ℕ → Terms
arguments_at zero = nil
arguments_at (suc n) = cons (app (functor_at n) (arguments_at n)) nil

abbrev term_at : ℕ → Term
term_at n = app (functor_at n) (arguments_at n)

no-tops : (n : ℕ) → tops (arguments_at n) ≡ 0
no-tops zero = refl
no-tops (suc n) = omega (arith, no-tops n)

no-occs : (x n : ℕ) → occs x (arguments_at n) ≡ 0
no-occs x zero = refl
no-occs x (suc n) = omega (arith, no-occs x n)

no-vars : (n : ℕ) (vs : List ℕ) → vars_terms (arguments_at n) vs ≡ vs
no-vars zero vs = refl
no-vars (suc n) vs = no-vars n vs

cells-many : (n : ℕ) (ws : List ℕ) → length (write_terms (arguments_at n) ws) ≡ n + length ws
cells-many zero ws = omega arith
cells-many (suc n) ws = omega (arith, cells-many n ws)

-- The goal P(f(.. f(a) ..)), and the deck's clause.
abbrev goal_at : ℕ → Goal
goal_at n = record { answer_terms = nil; literals = pos 2 (cons (term_at n) nil) ∷ [] }

abbrev clauses : List Clause
clauses = record { predicate = 2; arguments = cons (var 0) nil; body = pos 2 (cons (app 1 (cons (var 0) nil)) nil) ∷ [] } ∷ []

goal-words : (n : ℕ) → goal_words (goal_at n) ≡ n + 4
unfolding goal_words goal_cells
goal-words n = omega (arith, cells-many n [])

-- One equation: x becomes the term.
matches : (n : ℕ) → unify (cons (term_at n) nil) (fresh 0 (cons (var 0) nil)) ≡ solved 1 (bind 0 (term_at n) done)
unfolding unify unify_within unify_round unify_step unify_front ℕ_discrete
matches n = rw (no-tops n, no-occs 0 n)

cost : (n : ℕ) → cost_of clauses (goal_at n) ≡ 2
unfolding cost_of selected_cost select clauses_about tried has_rows tried_by matchings
cost n = rw (no-tops n, matches n)

derives : (n : ℕ) → resolvents clauses (goal_at n) [] 2 (cons (term_at n) nil) [] ≡ goal_at (suc n) ∷ []
unfolding resolvents clauses_about collect keep_some resolvent resolved numbered ℕ_discrete
derives n = rw (no-tops n, matches n) (ap (λ g. g ∷ []) (renumber-same (goal_at (suc n)) (rw (no-vars n []))))

-- A STEP, up to 1,024 words; and the last one, which parks the goal.
abbrev level_at : ℕ → Level
level_at n = record { pending = goal_at n ∷ []; parked = []; answers = [] }

abbrev last_level : ℕ → Level
last_level n = record { pending = []; parked = marked oversized (goal_at n) ∷ []; answers = [] }

next-paid : (n left : ℕ) → 2 ≤ left
    → next_of clauses 8192 16384 32 zeroth (level_at n) left ≡ check_store 16384 zeroth (act_step 8192 zeroth (level_at n) (goal_at n) [] (act_of clauses 32 (goal_at n)))
unfolding next_of next_from
next-paid n left p = rw (le-leb (cost_of clauses (goal_at n)) left (omega (arith, cost n)), next_from)

act : (n : ℕ) → act_of clauses 32 (goal_at n) ≡ derive_act (goal_at (suc n) ∷ [])
unfolding act_of literals_act select selected_act
act n = ap derive_act (derives n)

grows : (n left : ℕ) → n ≤ 1019 → 2 ≤ left → next_of clauses 8192 16384 32 zeroth (level_at n) left ≡ step (level_at (suc n))
unfolding derive_act any_oversized act_step with_pending check_store unless_over held
grows n left h p = next-paid n left p ∙ ap (λ a. check_store 16384 zeroth (act_step 8192 zeroth (level_at n) (goal_at n) [] a)) (act n ∙ small) ∙ fits
  where
    small : derive_act (goal_at (suc n) ∷ []) ≡ derive (goal_at (suc n) ∷ [])
    small = rw (le-ltb 1024 (goal_words (goal_at (suc n))) (omega (arith, goal-words (suc n))), derive_act)

    fits : check_store 16384 zeroth (step (level_at (suc n))) ≡ step (level_at (suc n))
    fits = rw (le-leb (held zeroth (level_at (suc n))) 16384 (omega (arith, goal-words (suc n))), unless_over)

ends : (left : ℕ) → 2 ≤ left → next_of clauses 8192 16384 32 zeroth (level_at 1020) left ≡ step (last_level 1020)
unfolding derive_act any_oversized act_step with_parked check_store unless_over held
ends left p = next-paid 1020 left p ∙ ap (λ a. check_store 16384 zeroth (act_step 8192 zeroth (level_at 1020) (goal_at 1020) [] a)) (act 1020 ∙ large) ∙ fits
  where
    large : derive_act (goal_at 1021 ∷ []) ≡ park oversized
    large = rw (lt-ltb 1024 (goal_words (goal_at 1021)) (omega (arith, goal-words 1021)), derive_act)

    fits : check_store 16384 zeroth (step (last_level 1020)) ≡ step (last_level 1020)
    fits = rw (le-leb (held zeroth (last_level 1020)) 16384 (omega (arith, goal-words 1020)), unless_over)

-- ALL STEPS, from any place on.
abbrev account : ℕ → ℕ → Account
account left steps = record { left = left; steps = steps }

climbs : (k n left steps : ℕ) → n + k ≡ 1020 → 2 * k + 2 ≤ left
    → evaluate_level clauses 8192 16384 32 zeroth (level_at n) (account left steps) ≡ ended (stopped finished) (last_level 1020) (account (left - (2 * k + 2)) (steps + (k + 1)))
unfolding first_cost
climbs zero n left steps e h =
    let top : n ≡ 1020 = omega arith in
    let paid : left - cost_of clauses (goal_at 1020) ≡ left - (2 * 0 + 2) = omega (arith, cost 1020) in
    let counted : suc steps ≡ steps + (0 + 1) = omega arith in
    subst (λ m. evaluate_level clauses 8192 16384 32 zeroth (level_at m) (account left steps)
    ≡ ended (stopped finished) (last_level 1020) (account (left - (2 * 0 + 2)) (steps + (0 + 1)))) (sym top)
    (level-steps clauses 8192 16384 32 zeroth (level_at 1020) (account left steps) (last_level 1020) (ends left (omega arith))
    ∙ level-empty clauses 8192 16384 32 zeroth (last_level 1020) (account (left - cost_of clauses (goal_at 1020)) (suc steps)) refl
    ∙ ap₂ (λ x y. ended (stopped finished) (last_level 1020) (account x y)) paid counted)
climbs (suc k) n left steps e h =
    level-steps clauses 8192 16384 32 zeroth (level_at n) (account left steps) (level_at (suc n)) (grows n left (omega arith) (omega arith))
    ∙ climbs k (suc n) (left - cost_of clauses (goal_at n)) (suc steps) (omega arith) (omega (arith, cost n))
    ∙ ap₂ (λ x y. ended (stopped finished) (last_level 1020) (account x y)) (omega (arith, cost n)) (omega arith)

abbrev deck : Deck
deck = record { format = format1; symbols = functor 0 ∷ functor 1 ∷ predicate 1 ∷ []; clauses = clauses }

growing : evaluate deck 8192 16384 (goal_at 0 ∷ []) [] 100000
    ≡ record { stop = finished; steps = 1021; cost = 2042; answers = []; pending = []; parked = marked oversized (goal_at 1020) ∷ [] }
unfolding evaluate outcome stop_of
growing = ap (outcome 100000) (climbs 1020 0 100000 0 (omega arith) (omega arith))

-- The run on words.
accepts : outcome_of (case deck_f (2 ∷ 0 ∷ []) 100000 (shows finished 1021 0 0 (oversized ∷ []) 2042)) ≡ accepted (evaluate deck 8192 16384 (goal_at 0 ∷ []) [] 100000)
unfolding rules
accepts = refl

pub growing-run : actual (case deck_f (2 ∷ 0 ∷ []) 100000 (shows finished 1021 0 0 (oversized ∷ []) 2042)) ≡ shows finished 1021 0 0 (oversized ∷ []) 2042
growing-run = ap shown (accepts ∙ ap accepted growing)
