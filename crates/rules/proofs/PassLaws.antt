-- What a run passes (`Passes`) is what its outcome is computed from: the level at the end is passed, and a way of evaluating that goes by the rules
-- at all that is passed comes to the same end, whatever it does elsewhere. And a property that each step keeps holds of all that is passed.
use Prim.Native.Nat.{ℕ, zero, suc, ◌<◌}
use mathlib.Core.Path.{◌≡◌, refl, ◌∙◌, subst}
use mathlib.Core.List.{List, [], ◌∷◌}
use native.Mathlib.Omega.{arith}
use Rattle.rules.specs.Syntax.{Literal, Clause, Deck, Goal}
use Rattle.rules.specs.Goals.{Marked, first_goal}
use Rattle.rules.specs.Evaluation.{finished, Level, start_level, Place, zeroth, deeper, Question, budget, halt, step, ask, Account, opening, pay, Ending, succeeded, stopped, Ended, ended, succeeds, fails, unsettled, interrupted, Reply, reply, verdict_of, reply_of, close, proceed, decide_by, unasked, next_of, evaluate_level, outcome, evaluate}
use Rattle.rules.specs.Resolution.{cost_of}
use Rattle.rules.specs.Passes.{GoesOn, Passes, starts, steps, opens, closes, FreshPasses}
use Rattle.rules.proofs.NextLaws.{Ahead, unpaid}
use Rattle.rules.proofs.LevelLaws.{next-ahead, Runs, halts, steps as stepped, wins, proves, disproves, unsettles, interrupts, interrupted-verdict, runs, runs-level}
use Rattle.rules.proofs.Keeps.{Invariant, Kept, LevelHas, NextHas, start_has, next-has}

-- A closing goes on at one of the question's three levels.
pub goes_on_lem : (P : Level → Type 0) (l : Level) (q : Question) (r : Reply) (l' : Level) (m : Account) → GoesOn l q r l' m
    → P q.on_success → P q.on_failure → P q.on_unsettled → P l'
unfolding close
goes_on_lem P l q (reply succeeds n) l' m g a b c = let e : ended succeeded q.on_success n ≡ ended succeeded l' m = g (ended succeeded) in subst P (cc) a
goes_on_lem P l q (reply fails n) l' m g a b c = let e : ended succeeded q.on_failure n ≡ ended succeeded l' m = g (ended succeeded) in subst P (cc) b
goes_on_lem P l q (reply unsettled n) l' m g a b c = let e : ended succeeded q.on_unsettled n ≡ ended succeeded l' m = g (ended succeeded) in subst P (cc) c
goes_on_lem P l q (reply (interrupted s) n) l' m g a b c =
    let e : ended (stopped s) l n ≡ ended succeeded l' m = g (ended succeeded) in
    let z : ◌≡◌ {A = ℕ} 0 1 = cc in absurd (omega arith)

module _ (clauses : List Clause) (answer_room store_size : ℕ) where
  -- WHAT EACH STEP KEEPS HOLDS OF ALL THAT IS PASSED.
  pub record Keeping (P : ℕ → Level → Type 0) : Type 0 where
    pub by_step : (below left : ℕ) (at : Place) (l l' : Level) → next_of clauses answer_room store_size below at l left ≡ step l' → P below l → P below l'
    pub by_ask : (below left : ℕ) (at : Place) (l : Level) (q : Question) → next_of clauses answer_room store_size (suc below) at l left ≡ ask q
        → P (suc below) l → P below (start_level q.goal) × P (suc below) q.on_success × P (suc below) q.on_failure × P (suc below) q.on_unsettled

  passes_keep_lem : (P : ℕ → Level → Type 0) → Keeping P → {below₀ : ℕ} {a₀ : Account} {at₀ : Place} {l₀ : Level} {below : ℕ} {a : Account} {at : Place} {l : Level} → P below₀ l₀
      → Passes clauses answer_room store_size below₀ at₀ l₀ a₀ below at l a → P below l
  passes_keep_lem P k h starts = h
  passes_keep_lem P k h (steps {below} {a} {at} {l} {l'} p e) = k.by_step below a.left at l l' e (passes_keep_lem P k h p)
  passes_keep_lem P k h (opens {below} {a} {at} {l} {q} p e) = (k.by_ask below a.left at l q e (passes_keep_lem P k h p)).0
  passes_keep_lem P k h (closes {below} {a} {b} {at} {l} {l'} {q} p e g) =
      let n = k.by_ask below a.left at l q e (passes_keep_lem P k h p) in goes_on_lem (P (suc below)) l q _ l' b g n.1 n.2 n.3

  pub passes-keep : (P : ℕ → Level → Type 0) → Keeping P → {below₀ below : ℕ} {a₀ a : Account} {at₀ at : Place} {l₀ l : Level} → P below₀ l₀
      → Passes clauses answer_room store_size below₀ at₀ l₀ a₀ below at l a → P below l
  passes-keep P k h p = passes_keep_lem P k h p

  -- In particular a property of goals that each act keeps (`Kept`).
  pub has_kept : (J : Invariant) → ((g : Goal) → J.pending g → Kept J clauses g) → Keeping (λ below l. LevelHas J l)
  has_kept J kept = record {
    by_step = λ below left at l l' e h. rw e at (next-has J clauses kept answer_room store_size below at l left h);
    by_ask = λ below left at l q e h.
        let n : NextHas J (ask q) = rw e at (next-has J clauses kept answer_room store_size (suc below) at l left h) in
        (start_has J q.goal n.0, n.1, n.2, n.3);
  }

  -- The reply of a new level that ends.
  replied : {below : ℕ} {a b : Account} {inner : Level} {i : Ending} (q : Question)
      → Runs clauses answer_room store_size below (deeper q.held_outside) (start_level q.goal) a (ended i inner b)
      → decide_by (evaluate_level clauses answer_room store_size below) q a ≡ reply (verdict_of i inner.parked) b
  unfolding decide_by reply_of
  replied q r = rw (runs-level clauses answer_room store_size r)

  -- Of a way of evaluating levels: what it replies; that it goes by the rules at a level.
  abbrev pub replies : (ℕ → Place → Level → Account → Ended) → ℕ → Question → Account → Reply
  replies f zero q a = unasked q a
  replies f (suc below) q a = decide_by (f below) q a

  abbrev pub Follows : (ℕ → Place → Level → Account → Ended) → ℕ → Place → Level → Account → Type 0
  Follows f below at l a = f below at l a ≡ proceed (f below at) (replies f below) l a (pay clauses l a) (next_of clauses answer_room store_size below at l a.left)

  module _ (below₀ : ℕ) (at₀ : Place) (l₀ : Level) (a₀ : Account) where
    abbrev Passed : ℕ → Place → Level → Account → Type 0
    Passed below at l a = Passes clauses answer_room store_size below₀ at₀ l₀ a₀ below at l a

    -- Where the level goes on after a reply.
    module _ {below : ℕ} {a b : Account} {at : Place} {l inner : Level} {q : Question} (p : Passed (suc below) at l a)
        (n : next_of clauses answer_room store_size (suc below) at l a.left ≡ ask q) where
      on-success : Runs clauses answer_room store_size below (deeper q.held_outside) (start_level q.goal) (pay clauses l a) (ended succeeded inner b)
          → Passed (suc below) at q.on_success b
      unfolding close verdict_of
      on-success r = closes {b = b} {l' = q.on_success} p n (λ again. rw (replied q r))

      on-failure : Runs clauses answer_room store_size below (deeper q.held_outside) (start_level q.goal) (pay clauses l a) (ended (stopped finished) inner b)
          → inner.parked ≡ [] → Passed (suc below) at q.on_failure b
      unfolding close verdict_of
      on-failure r f = closes {b = b} {l' = q.on_failure} p n (λ again. rw (replied q r, f))

      on-unsettled : {k : Marked} {ks : List Marked}
          → Runs clauses answer_room store_size below (deeper q.held_outside) (start_level q.goal) (pay clauses l a) (ended (stopped finished) inner b)
          → inner.parked ≡ k ∷ ks → Passed (suc below) at q.on_unsettled b
      unfolding close verdict_of
      on-unsettled r f = closes {b = b} {l' = q.on_unsettled} p n (λ again. rw (replied q r, f))

    runs-pass : {below : ℕ} {a b : Account} {at : Place} {l l' : Level} {i : Ending} → Runs clauses answer_room store_size below at l a (ended i l' b)
        → Passed below at l a → (k : Account) × Passed below at l' k
    runs-pass (halts n) p = (_, p)
    runs-pass (stepped n r) p = runs-pass r (steps p n)
    runs-pass (wins n) p = (_, p)
    runs-pass (proves n i r) p = runs-pass r (on-success p n i)
    runs-pass (disproves n i f r) p = runs-pass r (on-failure p n i f)
    runs-pass (unsettles n i f r) p = runs-pass r (on-unsettled p n i f)
    runs-pass (interrupts n i f) p = (_, p)

    -- THE LEVEL AT THE END IS PASSED.
    pub end-passed : (i : Ending) (l : Level) (b : Account) → evaluate_level clauses answer_room store_size below₀ at₀ l₀ a₀ ≡ ended i l b
        → (k : Account) × Passed below₀ at₀ l k
    end-passed i l b e = runs-pass (rw e at (runs clauses answer_room store_size below₀ at₀ l₀ a₀)) starts

    -- "BUDGET" IS SAID only where a level is passed, on any level, whose first pending goal's step costs more than is left.
    pub record Unpayable (b : Account) : Type 0 where
      pub below : ℕ
      pub at : Place
      pub level : Level
      pub first : Goal
      pub others : List Goal
      pub passed : Passed below at level b
      pub pending : level.pending ≡ first ∷ others
      pub unpaid : b.left < cost_of clauses first

    halted-unpaid : {below : ℕ} {a : Account} {at : Place} {l : Level} → Passed below at l a → Ahead clauses answer_room store_size below at l a.left (halt budget) → Unpayable a
    halted-unpaid {below} {a} {at} {l} p (unpaid e c) = record { below = below; at = at; level = l; first = _; others = _; passed = p; pending = e; unpaid = c }

    runs-unpaid : {below : ℕ} {a b : Account} {at : Place} {l l' : Level} → Runs clauses answer_room store_size below at l a (ended (stopped budget) l' b)
        → Passed below at l a → Unpayable b
    runs-unpaid (halts n) p = halted-unpaid p (next-ahead n)
    runs-unpaid (stepped n r) p = runs-unpaid r (steps p n)
    runs-unpaid (proves n i r) p = runs-unpaid r (on-success p n i)
    runs-unpaid (disproves n i f r) p = runs-unpaid r (on-failure p n i f)
    runs-unpaid (unsettles n i f r) p = runs-unpaid r (on-unsettled p n i f)
    runs-unpaid (interrupts n i u) p = runs-unpaid i (opens p n)

    pub budget-unpaid : (l : Level) (b : Account) → evaluate_level clauses answer_room store_size below₀ at₀ l₀ a₀ ≡ ended (stopped budget) l b → Unpayable b
    budget-unpaid l b e = runs-unpaid (rw e at (runs clauses answer_room store_size below₀ at₀ l₀ a₀)) starts

    module _ (f : ℕ → Place → Level → Account → Ended) (follows : (below : ℕ) (at : Place) (l : Level) (a : Account) → Passed below at l a → Follows f below at l a) where
      runs-determine : {below : ℕ} {a : Account} {at : Place} {l : Level} {e : Ended} → Runs clauses answer_room store_size below at l a e
          → Passed below at l a → f below at l a ≡ e
      unfolding proceed close decide_by reply_of verdict_of
      runs-determine (halts n) p = follows _ _ _ _ p ∙ rw n
      runs-determine (stepped n r) p = follows _ _ _ _ p ∙ rw n (runs-determine r (steps p n))
      runs-determine (wins n) p = follows _ _ _ _ p ∙ rw n
      runs-determine (proves n i r) p = follows _ _ _ _ p ∙ rw (n, runs-determine i (opens p n)) (runs-determine r (on-success p n i))
      runs-determine (disproves n i e r) p = follows _ _ _ _ p ∙ rw (n, runs-determine i (opens p n), e) (runs-determine r (on-failure p n i e))
      runs-determine (unsettles n i e r) p = follows _ _ _ _ p ∙ rw (n, runs-determine i (opens p n), e) (runs-determine r (on-unsettled p n i e))
      runs-determine (interrupts {inner = inner} {s = s} n i u) p =
          follows _ _ _ _ p ∙ rw (n, runs-determine i (opens p n), interrupted-verdict s inner.parked u)

      -- NOTHING ELSE IS ASKED: the end depends on what is passed alone.
      pub passes-determine : f below₀ at₀ l₀ a₀ ≡ evaluate_level clauses answer_room store_size below₀ at₀ l₀ a₀
      passes-determine = runs-determine (runs clauses answer_room store_size below₀ at₀ l₀ a₀) starts

-- So are the goals of a fresh run's outcome those of a level 0 that it passes.
pub fresh-end : (P : List Goal → List Marked → List Goal → Type 0) (deck : Deck) (answer_room store_size : ℕ) (query : List Literal) (total : ℕ)
    → ((l : Level) (a : Account) → FreshPasses deck answer_room store_size query total 32 zeroth l a → P l.pending l.parked l.answers)
    → let o = evaluate deck answer_room store_size (first_goal query ∷ []) [] total in P o.pending o.parked o.answers
unfolding evaluate outcome start_level
fresh-end P deck answer_room store_size query total h = go (evaluate_level deck.clauses answer_room store_size 32 zeroth (start_level (first_goal query)) (opening total)) refl
  where
    go : (e : Ended) → evaluate_level deck.clauses answer_room store_size 32 zeroth (start_level (first_goal query)) (opening total) ≡ e
        → P (outcome total e).pending (outcome total e).parked (outcome total e).answers
    go (ended i l m) e = let p = end-passed deck.clauses answer_room store_size 32 zeroth (start_level (first_goal query)) (opening total) i l m e in h l p.0 p.1
