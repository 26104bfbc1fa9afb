-- The evaluation's recursion: how a level comes to its end, as a relation without bounds (`Runs`); every level runs so, and to no other end;
-- and so the equations of a level hold without the bound on its turns.
use Prim.Native.Nat.{ℕ, zero, suc, ◌+◌, ◌≤◌, ◌<◌}
use mathlib.Core.Path.{◌≡◌, refl, ◌∙◌}
use mathlib.Core.List.{List, [], ◌∷◌}
use native.Mathlib.Omega.{arith}
use borrow.Author.Tests.{lt-leb}
use Rattle.rules.specs.Syntax.{Clause, Goal}
use Rattle.rules.specs.Goals.{Marked}
use Rattle.rules.specs.Evaluation.{Stop, finished, budget, answers, store, Level, start_level, Place, deeper, Question, Next, halt, step, success, ask, Account, first_cost, pay, Ending, succeeded, stopped, Ended, ended, interrupted, reply, verdict_of, reply_of, close, proceed, decide_by, next_from, next_of, turn, evaluate_level}
use Rattle.rules.specs.Resolution.{cost_of}
use Rattle.rules.specs.Press.{decides, one_step}
use Rattle.rules.proofs.NextLaws.{asks, cost-positive, first-cost, Ahead, lists, parks, replaces, succeeds, inquires, ahead}

-- The stops that stop the levels above too.
abbrev pub Unfinished : Stop → Type 0
Unfinished finished = ⊥
Unfinished budget = Unit {0}
Unfinished answers = Unit {0}
Unfinished store = Unit {0}

-- How a level with so many levels below it, at a place, with its account, comes to its end.
pub data Runs (clauses : List Clause) (answer_room store_size : ℕ) : ℕ → Place → Level → Account → Ended → Type 0 where
  halts : {below : ℕ} {a : Account} {at : Place} {l : Level} {s : Stop} → next_of clauses answer_room store_size below at l a.left ≡ halt s
      → Runs clauses answer_room store_size below at l a (ended (stopped s) l a)
  steps : {below : ℕ} {a : Account} {at : Place} {l l' : Level} {e : Ended} → next_of clauses answer_room store_size below at l a.left ≡ step l'
      → Runs clauses answer_room store_size below at l' (pay clauses l a) e
      → Runs clauses answer_room store_size below at l a e
  -- A deeper level has succeeded.
  wins : {below : ℕ} {a : Account} {at : Place} {l : Level} → next_of clauses answer_room store_size below at l a.left ≡ success
      → Runs clauses answer_room store_size below at l a (ended succeeded l (pay clauses l a))
  -- A new level has decided an atom, and this one goes on.
  proves : {below : ℕ} {a b : Account} {at : Place} {l inner : Level} {q : Question} {e : Ended} → next_of clauses answer_room store_size (suc below) at l a.left ≡ ask q
      → Runs clauses answer_room store_size below (deeper q.held_outside) (start_level q.goal) (pay clauses l a) (ended succeeded inner b)
      → Runs clauses answer_room store_size (suc below) at q.on_success b e
      → Runs clauses answer_room store_size (suc below) at l a e
  disproves : {below : ℕ} {a b : Account} {at : Place} {l inner : Level} {q : Question} {e : Ended} → next_of clauses answer_room store_size (suc below) at l a.left ≡ ask q
      → Runs clauses answer_room store_size below (deeper q.held_outside) (start_level q.goal) (pay clauses l a) (ended (stopped finished) inner b)
      → inner.parked ≡ []
      → Runs clauses answer_room store_size (suc below) at q.on_failure b e
      → Runs clauses answer_room store_size (suc below) at l a e
  unsettles : {below : ℕ} {a b : Account} {at : Place} {l inner : Level} {q : Question} {k : Marked} {ks : List Marked} {e : Ended}
      → next_of clauses answer_room store_size (suc below) at l a.left ≡ ask q
      → Runs clauses answer_room store_size below (deeper q.held_outside) (start_level q.goal) (pay clauses l a) (ended (stopped finished) inner b)
      → inner.parked ≡ k ∷ ks
      → Runs clauses answer_room store_size (suc below) at q.on_unsettled b e
      → Runs clauses answer_room store_size (suc below) at l a e
  -- A new level has stopped the run.
  interrupts : {below : ℕ} {a b : Account} {at : Place} {l inner : Level} {q : Question} {s : Stop} → next_of clauses answer_room store_size (suc below) at l a.left ≡ ask q
      → Runs clauses answer_room store_size below (deeper q.held_outside) (start_level q.goal) (pay clauses l a) (ended (stopped s) inner b)
      → Unfinished s
      → Runs clauses answer_room store_size (suc below) at l a (ended (stopped s) l b)

-- A step is taken only if its whole cost, which is 1 at least, is left.
pub record Pays (clauses : List Clause) (l : Level) (left : ℕ) : Type 0 where
  pub some : 1 ≤ first_cost clauses l.pending
  pub whole : first_cost clauses l.pending ≤ left

pays : {clauses : List Clause} {l : Level} {left : ℕ} {g : Goal} {gs : List Goal} → l.pending ≡ g ∷ gs → cost_of clauses g ≤ left → Pays clauses l left
pays {clauses} {l} {left} {g} p c = record { some = omega (arith, first-cost clauses l p, cost-positive clauses g); whole = omega (arith, first-cost clauses l p) }

-- What is spent: no more is left and no fewer steps are taken than before, and each step has cost 1 at least.
pub record Spends (a b : Account) : Type 0 where
  pub left : b.left ≤ a.left
  pub steps : a.steps ≤ b.steps
  pub each : b.steps + b.left ≤ a.steps + a.left

pub spends-same : (a : Account) → Spends a a
spends-same a = record { left = omega arith; steps = omega arith; each = omega arith }

pub spends-then : {a b c : Account} → Spends a b → Spends b c → Spends a c
spends-then s t = record { left = omega (arith, s.left, t.left); steps = omega (arith, s.steps, t.steps); each = omega (arith, s.each, t.each) }

pub spends-step : (clauses : List Clause) (l : Level) (a : Account) → Pays clauses l a.left → Spends a (pay clauses l a)
spends-step clauses l a p = record { left = omega arith; steps = omega arith; each = omega (arith, p.some, p.whole) }

module _ {clauses : List Clause} {answer_room store_size : ℕ} where
  -- What is known of what is next.
  pub next-ahead : {below left : ℕ} {at : Place} {l : Level} {n : Next} → next_of clauses answer_room store_size below at l left ≡ n
      → Ahead clauses answer_room store_size below at l left n
  next-ahead {below} {left} {at} {l} e = rw e at (ahead clauses answer_room store_size below at l left)

  pub step-pays : {below left : ℕ} {at : Place} {l l' : Level} → Ahead clauses answer_room store_size below at l left (step l') → Pays clauses l left
  step-pays (lists p c a f h) = pays p c
  step-pays (parks p c a h) = pays p c
  step-pays (replaces p c a h) = pays p c

  pub success-pays : {below left : ℕ} {at : Place} {l : Level} → Ahead clauses answer_room store_size below at l left success → Pays clauses l left
  success-pays (succeeds p c a) = pays p c

  pub ask-pays : {below left : ℕ} {at : Place} {l : Level} {q : Question} → Ahead clauses answer_room store_size below at l left (ask q) → Pays clauses l left
  ask-pays (inquires p c a h) = pays p c

  -- And the last level asks nothing.
  pub ask-below : {left : ℕ} {at : Place} {l : Level} {q : Question} → Ahead clauses answer_room store_size 0 at l left (ask q) → ⊥
  ask-below (inquires p c (asks e b) h) = omega arith

  pub runs-spend : {below : ℕ} {a b : Account} {at : Place} {l l' : Level} {i : Ending} → Runs clauses answer_room store_size below at l a (ended i l' b) → Spends a b
  runs-spend (halts {a = a} n) = spends-same a
  runs-spend (steps {a = a} {l = l} n r) = spends-then (spends-step clauses l a (step-pays (next-ahead n))) (runs-spend r)
  runs-spend (wins {a = a} {l = l} n) = spends-step clauses l a (success-pays (next-ahead n))
  runs-spend (proves {a = a} {l = l} n i r) = spends-then (spends-then (spends-step clauses l a (ask-pays (next-ahead n))) (runs-spend i)) (runs-spend r)
  runs-spend (disproves {a = a} {l = l} n i f r) = spends-then (spends-then (spends-step clauses l a (ask-pays (next-ahead n))) (runs-spend i)) (runs-spend r)
  runs-spend (unsettles {a = a} {l = l} n i f r) = spends-then (spends-then (spends-step clauses l a (ask-pays (next-ahead n))) (runs-spend i)) (runs-spend r)
  runs-spend (interrupts {a = a} {l = l} n i f) = spends-then (spends-step clauses l a (ask-pays (next-ahead n))) (runs-spend i)

  pub runs-left : {below : ℕ} {a b : Account} {at : Place} {l l' : Level} {i : Ending} → Runs clauses answer_room store_size below at l a (ended i l' b) → b.left ≤ a.left
  runs-left r = (runs-spend r).left

  -- After a new level there is less left.
  pub asked-less : {below : ℕ} {a b : Account} {at : Place} {l l' : Level} {q : Question} {i : Ending} → Ahead clauses answer_room store_size (suc below) at l a.left (ask q)
      → Runs clauses answer_room store_size below (deeper q.held_outside) (start_level q.goal) (pay clauses l a) (ended i l' b) → b.left < a.left
  asked-less n r = let p = ask-pays n in omega (arith, runs-left r, p.some, p.whole)

-- A stop other than "finished" stops the run.
pub interrupted-verdict : (s : Stop) (ks : List Marked) → Unfinished s → verdict_of (stopped s) ks ≡ interrupted s
unfolding verdict_of
interrupted-verdict finished ks h = absurd h
interrupted-verdict budget ks h = refl
interrupted-verdict answers ks h = refl
interrupted-verdict store ks h = refl

module _ (clauses : List Clause) (answer_room store_size : ℕ) where
  -- All levels run, with n levels below them.
  abbrev AllRun : ℕ → Type 0
  AllRun n = (at : Place) (l : Level) (a : Account) → Runs clauses answer_room store_size n at l a (evaluate_level clauses answer_room store_size n at l a)

  abbrev BelowRun : ℕ → Type 0
  BelowRun zero = Unit {0}
  BelowRun (suc n) = AllRun n

  level-turn : (below : ℕ) (at : Place) (l : Level) (a : Account)
      → evaluate_level clauses answer_room store_size below at l a
      ≡ turn clauses answer_room store_size (decides clauses answer_room store_size below) below at (suc a.left) l a
  unfolding evaluate_level
  level-turn zero at l a = refl
  level-turn (suc below) at l a = refl

  -- A level whose further turns run, runs.
  module _ (at : Place) (again : Level → Account → Ended) (l : Level) (a : Account) where
    abbrev AgainRuns : ℕ → Type 0
    AgainRuns below = (l' : Level) (b : Account) → b.left < a.left → Runs clauses answer_room store_size below at l' b (again l' b)

    finished-runs : (n : ℕ) (b : Account) (inner : Level) (q : Question) → AgainRuns (suc n) → next_of clauses answer_room store_size (suc n) at l a.left ≡ ask q
        → Runs clauses answer_room store_size n (deeper q.held_outside) (start_level q.goal) (pay clauses l a) (ended (stopped finished) inner b)
        → (ks : List Marked) → inner.parked ≡ ks
        → Runs clauses answer_room store_size (suc n) at l a (close again l q (reply (verdict_of (stopped finished) ks) b))
    unfolding close verdict_of
    finished-runs n b inner q h e r [] k = disproves e r k (h q.on_failure b (asked-less {a = a} (next-ahead e) r))
    finished-runs n b inner q h e r (x ∷ ks) k = unsettles e r k (h q.on_unsettled b (asked-less {a = a} (next-ahead e) r))

    close-runs : (n : ℕ) (q : Question) → AgainRuns (suc n) → next_of clauses answer_room store_size (suc n) at l a.left ≡ ask q → (i : Ended)
        → Runs clauses answer_room store_size n (deeper q.held_outside) (start_level q.goal) (pay clauses l a) i
        → Runs clauses answer_room store_size (suc n) at l a (close again l q (reply_of i))
    unfolding close reply_of verdict_of
    close-runs n q h e (ended succeeded inner b) r = proves e r (h q.on_success b (asked-less {a = a} (next-ahead e) r))
    close-runs n q h e (ended (stopped finished) inner b) r = finished-runs n b inner q h e r inner.parked refl
    close-runs n q h e (ended (stopped budget) inner b) r = interrupts e r tt
    close-runs n q h e (ended (stopped answers) inner b) r = interrupts e r tt
    close-runs n q h e (ended (stopped store) inner b) r = interrupts e r tt

    proceed-runs : (below : ℕ) → BelowRun below → AgainRuns below → (n : Next) → next_of clauses answer_room store_size below at l a.left ≡ n
        → Runs clauses answer_room store_size below at l a (proceed again (decides clauses answer_room store_size below) l a (pay clauses l a) n)
    unfolding proceed decide_by
    proceed-runs below b h (halt s) e = halts e
    proceed-runs below b h (step l') e = steps e (h l' (pay clauses l a) (let p = step-pays (next-ahead e) in omega (arith, p.some, p.whole)))
    proceed-runs below b h success e = wins e
    proceed-runs zero b h (ask q) e = absurd (ask-below (next-ahead e))
    proceed-runs (suc below) b h (ask q) e = close-runs below q h e _ (b (deeper q.held_outside) (start_level q.goal) (pay clauses l a))

  turn-runs : (below : ℕ) → BelowRun below → (at : Place) (fuel : ℕ) (l : Level) (a : Account) → a.left < fuel
      → Runs clauses answer_room store_size below at l a (turn clauses answer_room store_size (decides clauses answer_room store_size below) below at fuel l a)
  unfolding turn
  turn-runs below b at zero l a h = absurd (omega arith)
  turn-runs below b at (suc fuel) l a h =
      proceed-runs at (turn clauses answer_room store_size (decides clauses answer_room store_size below) below at fuel) l a below b
      (λ l' m k. turn-runs below b at fuel l' m (omega arith)) (next_of clauses answer_room store_size below at l a.left) refl

  -- EVERY LEVEL RUNS.
  pub runs : (below : ℕ) (at : Place) (l : Level) (a : Account)
      → Runs clauses answer_room store_size below at l a (evaluate_level clauses answer_room store_size below at l a)
  runs zero at l a = rw (level-turn zero at l a) (turn-runs zero tt at (suc a.left) l a (omega arith))
  runs (suc below) at l a = rw (level-turn (suc below) at l a) (turn-runs (suc below) (runs below) at (suc a.left) l a (omega arith))

  pub level-runs : (below : ℕ) (at : Place) (l : Level) (a : Account) (e : Ended) → evaluate_level clauses answer_room store_size below at l a ≡ e
      → Runs clauses answer_room store_size below at l a e
  level-runs below at l a e q = rw q at (runs below at l a)

  -- What a level spends.
  pub level-spends : (below : ℕ) (at : Place) (l : Level) (a : Account) (i : Ending) (l' : Level) (b : Account)
      → evaluate_level clauses answer_room store_size below at l a ≡ ended i l' b → Spends a b
  level-spends below at l a i l' b e = runs-spend (level-runs below at l a (ended i l' b) e)

  -- What is left at the end is at most what was left at the start.
  pub steps-left : (below : ℕ) (at : Place) (l : Level) (a : Account) (i : Ending) (l' : Level) (b : Account)
      → evaluate_level clauses answer_room store_size below at l a ≡ ended i l' b → b.left ≤ a.left
  steps-left below at l a i l' b e = (level-spends below at l a i l' b e).left

  below-run : (below : ℕ) → BelowRun below
  below-run zero = tt
  below-run (suc below) = runs below

  -- The bound on turns does not show, as long as it is above what is left.
  turned : (below : ℕ) (a : Account) (at : Place) (l : Level) {e : Ended} (fuel : ℕ) → a.left < fuel
      → ((k : ℕ) → a.left ≤ k → proceed (turn clauses answer_room store_size (decides clauses answer_room store_size below) below at k)
      (decides clauses answer_room store_size below) l a (pay clauses l a) (next_of clauses answer_room store_size below at l a.left) ≡ e)
      → turn clauses answer_room store_size (decides clauses answer_room store_size below) below at fuel l a ≡ e
  unfolding turn
  turned below a at l zero h f = absurd (omega arith)
  turned below a at l (suc k) h f = f k (omega arith)

  runs-turn : {below : ℕ} {a : Account} {at : Place} {l : Level} {e : Ended} → Runs clauses answer_room store_size below at l a e
      → (fuel : ℕ) → a.left < fuel → turn clauses answer_room store_size (decides clauses answer_room store_size below) below at fuel l a ≡ e
  unfolding proceed close decide_by reply_of verdict_of
  runs-turn (halts {below} {a} {at} {l} n) fuel h = turned below a at l fuel h (λ k b. rw n)
  runs-turn (steps {below} {a} {at} {l} n r) fuel h =
      turned below a at l fuel h (λ k b. rw n (runs-turn r k (let p = step-pays (next-ahead n) in omega (arith, p.some, p.whole))))
  runs-turn (wins {below} {a} {at} {l} n) fuel h = turned below a at l fuel h (λ k b. rw n)
  runs-turn (proves {below} {a} {at = at} {l} n i r) fuel h =
      turned (suc below) a at l fuel h
      (λ k b. rw (n, level-turn, runs-turn i (suc (pay clauses l a).left) (omega arith)) (runs-turn r k (omega (arith, asked-less {a = a} (next-ahead n) i))))
  runs-turn (disproves {below} {a} {at = at} {l} n i f r) fuel h =
      turned (suc below) a at l fuel h
      (λ k b. rw (n, level-turn, runs-turn i (suc (pay clauses l a).left) (omega arith), f) (runs-turn r k (omega (arith, asked-less {a = a} (next-ahead n) i))))
  runs-turn (unsettles {below} {a} {at = at} {l} n i f r) fuel h =
      turned (suc below) a at l fuel h
      (λ k b. rw (n, level-turn, runs-turn i (suc (pay clauses l a).left) (omega arith), f) (runs-turn r k (omega (arith, asked-less {a = a} (next-ahead n) i))))
  runs-turn (interrupts {below} {a} {at = at} {l} {inner} {s = s} n i f) fuel h =
      turned (suc below) a at l fuel h
      (λ k b. rw (n, level-turn, runs-turn i (suc (pay clauses l a).left) (omega arith), interrupted-verdict s inner.parked f))

  -- A level that runs to an end is evaluated to it.
  pub runs-level : {below : ℕ} {a : Account} {at : Place} {l : Level} {e : Ended} → Runs clauses answer_room store_size below at l a e
      → evaluate_level clauses answer_room store_size below at l a ≡ e
  runs-level {below} {a} {at} {l} r = level-turn below at l a ∙ runs-turn r (suc a.left) (omega arith)

  -- THE EQUATIONS OF A LEVEL, without a bound on its turns.
  pub level-unfolds : (below : ℕ) (at : Place) (l : Level) (a : Account)
      → evaluate_level clauses answer_room store_size below at l a
      ≡ proceed (evaluate_level clauses answer_room store_size below at) (decides clauses answer_room store_size below) l a (pay clauses l a)
      (next_of clauses answer_room store_size below at l a.left)
  level-unfolds below at l a =
      runs-level (proceed-runs at (evaluate_level clauses answer_room store_size below at) l a below (below-run below) (λ l' m h. runs below at l' m)
      (next_of clauses answer_room store_size below at l a.left) refl)

  -- The same, by what is next.
  module _ (below : ℕ) (at : Place) (l : Level) (a : Account) where
    pub level-halts : (s : Stop) → next_of clauses answer_room store_size below at l a.left ≡ halt s
        → evaluate_level clauses answer_room store_size below at l a ≡ ended (stopped s) l a
    level-halts s e = runs-level (halts e)

    pub level-steps : (l' : Level) → next_of clauses answer_room store_size below at l a.left ≡ step l'
        → evaluate_level clauses answer_room store_size below at l a ≡ evaluate_level clauses answer_room store_size below at l' (pay clauses l a)
    level-steps l' e = runs-level (steps e (runs below at l' (pay clauses l a)))

    pub level-succeeds : next_of clauses answer_room store_size below at l a.left ≡ success
        → evaluate_level clauses answer_room store_size below at l a ≡ ended succeeded l (pay clauses l a)
    level-succeeds e = runs-level (wins e)

    pub level-asks : (q : Question) → next_of clauses answer_room store_size below at l a.left ≡ ask q
        → evaluate_level clauses answer_room store_size below at l a
        ≡ close (evaluate_level clauses answer_room store_size below at) l q (decides clauses answer_room store_size below q (pay clauses l a))
    unfolding proceed
    level-asks q e = level-unfolds below at l a ∙ rw e

    pub level-empty : l.pending ≡ [] → evaluate_level clauses answer_room store_size below at l a ≡ ended (stopped finished) l a
    unfolding next_of next_from
    level-empty e = level-halts finished (rw e)

  pub level-one_step : (below : ℕ) (at : Place) (l : Level) (a : Account)
      → evaluate_level clauses answer_room store_size below at l a ≡ one_step clauses answer_room store_size below at (evaluate_level clauses answer_room store_size below at) l a
  unfolding one_step
  level-one_step = level-unfolds

  -- ONE STEP, by what is next and whatever takes over from it.
  module _ (below : ℕ) (at : Place) (again : Level → Account → Ended) (l : Level) (a : Account) where
    pub step-halts : (s : Stop) → next_of clauses answer_room store_size below at l a.left ≡ halt s
        → one_step clauses answer_room store_size below at again l a ≡ ended (stopped s) l a
    unfolding one_step proceed
    step-halts s e = rw e

    pub step-moves : (l' : Level) → next_of clauses answer_room store_size below at l a.left ≡ step l'
        → one_step clauses answer_room store_size below at again l a ≡ again l' (pay clauses l a)
    unfolding one_step proceed
    step-moves l' e = rw e

    pub step-asks : (q : Question) → next_of clauses answer_room store_size below at l a.left ≡ ask q
        → one_step clauses answer_room store_size below at again l a ≡ close again l q (decides clauses answer_room store_size below q (pay clauses l a))
    unfolding one_step proceed
    step-asks q e = rw e

    pub step-empty : l.pending ≡ [] → one_step clauses answer_room store_size below at again l a ≡ ended (stopped finished) l a
    unfolding next_of next_from
    step-empty e = step-halts finished (rw e)

  -- The step's whole cost is not left; with nothing left at all, no step can be paid.
  next-unpaid : (below : ℕ) (at : Place) (l : Level) (left : ℕ) (g : Goal) (gs : List Goal) → l.pending ≡ g ∷ gs → left < cost_of clauses g
      → next_of clauses answer_room store_size below at l left ≡ halt budget
  unfolding next_of next_from
  next-unpaid below at l left g gs e c = rw (e, lt-leb (cost_of clauses g) left c, next_from)

  pub level-unpaid : (below : ℕ) (at : Place) (l : Level) (a : Account) (g : Goal) (gs : List Goal) → l.pending ≡ g ∷ gs → a.left < cost_of clauses g
      → evaluate_level clauses answer_room store_size below at l a ≡ ended (stopped budget) l a
  level-unpaid below at l a g gs e c = level-halts below at l a budget (next-unpaid below at l a.left g gs e c)

  pub level-spent : (below : ℕ) (at : Place) (l : Level) (a : Account) (g : Goal) (gs : List Goal) → l.pending ≡ g ∷ gs → a.left ≡ 0
      → evaluate_level clauses answer_room store_size below at l a ≡ ended (stopped budget) l a
  level-spent below at l a g gs e z = level-unpaid below at l a g gs e (omega (arith, cost-positive clauses g))

  pub step-unpaid : (below : ℕ) (at : Place) (again : Level → Account → Ended) (l : Level) (a : Account) (g : Goal) (gs : List Goal) → l.pending ≡ g ∷ gs → a.left < cost_of clauses g
      → one_step clauses answer_room store_size below at again l a ≡ ended (stopped budget) l a
  step-unpaid below at again l a g gs e c = step-halts below at again l a budget (next-unpaid below at l a.left g gs e c)

  pub step-spent : (below : ℕ) (at : Place) (again : Level → Account → Ended) (l : Level) (a : Account) (g : Goal) (gs : List Goal) → l.pending ≡ g ∷ gs → a.left ≡ 0
      → one_step clauses answer_room store_size below at again l a ≡ ended (stopped budget) l a
  step-spent below at again l a g gs e z = step-unpaid below at again l a g gs e (omega (arith, cost-positive clauses g))
