-- What a level does where no limit stops it does not depend on the limits: with another account, at least as long an answer list and a store
-- at least as large, and with more answers before it, it does the same and spends as much, in as many steps.
use Prim.Native.Nat.{ℕ, suc, ◌+◌, ◌-◌, ◌≤◌}
use mathlib.Core.Path.{◌≡◌, refl, sym, ◌∙◌, ap, subst}
use mathlib.Core.Bool.{Bool, true, false}
use mathlib.Core.List.{List, [], ◌∷◌, ◌++◌, append_assoc}
use native.Mathlib.Omega.{arith}
use lib.Dec.{leb}
use borrow.Author.Tests.{leb-true, le-leb}
use Rattle.rules.specs.Syntax.{Clause, Goal}
use Rattle.rules.specs.Goals.{goal_words, words_of}
use Rattle.rules.specs.Evaluation.{Stop, finished, budget, answers, store, Level, with_pending, with_parked, with_answer, Place, zeroth, deeper, held, Act, no_literals, park, derive, decide, act_of, Question, question, Next, halt, step, success, ask, answer_step, act_step, unless_over, check_store, Account, first_cost, pay, Ending, succeeded, stopped, ended, next_from, next_of}
use Rattle.rules.proofs.GoalLaws.{words_of-append}
use Rattle.rules.specs.Resolution.{cost_of}
use Rattle.rules.proofs.NextLaws.{Ahead, emptied}
use Rattle.rules.proofs.LevelLaws.{Unfinished, Runs, halts, steps, wins, proves, disproves, unsettles, interrupts, next-ahead, Pays, step-pays, success-pays, ask-pays, Spends, runs-spend}
use Rattle.rules.proofs.PressLaws.{Steps, moves, drops, loses, parks}

-- Ends that no limit has brought about, and what is next where none does.
abbrev Unlimited : Ending → Type 0
Unlimited succeeded = Unit {0}
Unlimited (stopped finished) = Unit {0}
Unlimited (stopped budget) = ⊥
Unlimited (stopped answers) = ⊥
Unlimited (stopped store) = ⊥

abbrev Goes : Next → Type 0
Goes (halt s) = Unlimited (stopped s)
Goes (step l) = Unit {0}
Goes success = Unit {0}
Goes (ask q) = Unit {0}

-- With more answers before those of a level.
abbrev pub behind : List Goal → Level → Level
behind us l = record { pending = l.pending; parked = l.parked; answers = us ++ l.answers }

abbrev next_behind : List Goal → Next → Next
next_behind us (halt s) = halt s
next_behind us (step l) = step (behind us l)
next_behind us success = success
next_behind us (ask q) = ask (record {
  goal = q.goal;
  held_outside = q.held_outside;
  on_success = behind us q.on_success;
  on_failure = behind us q.on_failure;
  on_unsettled = behind us q.on_unsettled;
})

nothing-behind : (n : Next) → next_behind [] n ≡ n
nothing-behind (halt s) = refl
nothing-behind (step l) = refl
nothing-behind success = refl
nothing-behind (ask q) = refl

held-behind : (us : List Goal) (at : Place) (l : Level) → held at (behind us l) ≡ held at l
unfolding held
held-behind us zeroth l = refl
held-behind us (deeper outer) l = refl

-- A smaller store and answer list, and larger ones.
module _ (room store₁ room' store' : ℕ) (us : List Goal) (h : words_of us + room ≤ room') (k : store₁ ≤ store') where
  over : (words : ℕ) (n₁ n₂ n : Next) → n₂ ≡ next_behind us n₁ → unless_over store₁ words n₁ ≡ n → Goes n → unless_over store' words n₂ ≡ next_behind us n
  unfolding unless_over
  over words n₁ n₂ n q = go (leb words store₁) refl
    where
      go : (b : Bool) → leb words store₁ ≡ b → (elim b as (λ _. Next) [ true ↦ n₁ | false ↦ halt store ]) ≡ n → Goes n
          → (elim (leb words store') as (λ _. Next) [ true ↦ n₂ | false ↦ halt store ]) ≡ next_behind us n
      go true e f g = rw (le-leb words store' (omega (arith, leb-true words store₁ e))) (q ∙ ap (next_behind us) f)
      go false e f g = absurd (subst Goes (sym f) g)

  answer-behind : (l : Level) (g : Goal) (gs : List Goal) → step (with_answer g gs (behind us l)) ≡ step (behind us (with_answer g gs l))
  unfolding with_answer
  answer-behind l g gs = ap (λ vs. step (record { pending = gs; parked = l.parked; answers = vs })) (append_assoc us l.answers (g ∷ []))

  answer : (l : Level) (g : Goal) (gs : List Goal) (n : Next) → check_store store₁ zeroth (answer_step room zeroth l g gs) ≡ n → Goes n
      → check_store store' zeroth (answer_step room' zeroth (behind us l) g gs) ≡ next_behind us n
  unfolding check_store answer_step with_answer held
  answer l g gs n = go (leb (words_of l.answers + goal_words g) room) refl
    where
      go : (b : Bool) → leb (words_of l.answers + goal_words g) room ≡ b
          → check_store store₁ zeroth (elim b as (λ _. Next) [ true ↦ step (with_answer g gs l) | false ↦ halt answers ]) ≡ n → Goes n
          → check_store store' zeroth (elim (leb (words_of (us ++ l.answers) + goal_words g) room') as (λ _. Next) [ true ↦ step (with_answer g gs (behind us l)) | false ↦ halt answers ])
          ≡ next_behind us n
      go true e f t =
          let fits : leb (words_of (us ++ l.answers) + goal_words g) room' ≡ true =
          le-leb _ room' (omega (arith, leb-true (words_of l.answers + goal_words g) room e, words_of-append us l.answers)) in
          rw fits (over (held zeroth (with_answer g gs l)) (step (with_answer g gs l)) (step (with_answer g gs (behind us l))) n (answer-behind l g gs) f t)
      go false e f t = absurd (subst Goes (sym f) t)

  check : (at : Place) (l : Level) (g : Goal) (gs : List Goal) (a : Act) (n : Next) → check_store store₁ at (act_step room at l g gs a) ≡ n → Goes n
      → check_store store' at (act_step room' at (behind us l) g gs a) ≡ next_behind us n
  unfolding check_store act_step answer_step question with_parked with_pending
  check zeroth l g gs no_literals n e t = answer l g gs n e t
  check (deeper outer) l g gs no_literals n e t = ap (next_behind us) e
  check at l g gs (park m) n e t = rw (held-behind us at (with_parked m g gs l)) (over (held at (with_parked m g gs l)) _ _ n refl e t)
  check at l g gs (derive ds) n e t = rw (held-behind us at (with_pending (ds ++ gs) l)) (over (held at (with_pending (ds ++ gs) l)) _ _ n refl e t)
  check at l g gs (decide p ts others) n e t = rw (held-behind us at l) (over _ _ _ n refl e t)

  -- Where the step can be paid with what is left here, it can be with what is left there.
  module _ (clauses : List Clause) (below : ℕ) (at : Place) (l : Level) where
    from : (gs : List Goal) (left left' : ℕ) → (first_cost clauses gs ≤ left → first_cost clauses gs ≤ left') → (n : Next) → next_from clauses room store₁ below at l gs left ≡ n → Goes n
        → next_from clauses room' store' below at (behind us l) gs left' ≡ next_behind us n
    unfolding next_from first_cost
    from [] left left' c n e t = ap (next_behind us) e
    from (g ∷ gs) left left' c n e t = go (leb (cost_of clauses g) left) refl e
      where
        go : (b : Bool) → leb (cost_of clauses g) left ≡ b
            → (elim b as (λ _. Next) [ true ↦ check_store store₁ at (act_step room at l g gs (act_of clauses below g)) | false ↦ halt budget ]) ≡ n
            → (elim (leb (cost_of clauses g) left') as (λ _. Next) [ true ↦ check_store store' at (act_step room' at (behind us l) g gs (act_of clauses below g)) | false ↦ halt budget ])
            ≡ next_behind us n
        go true q f = rw (le-leb (cost_of clauses g) left' (c (leb-true (cost_of clauses g) left q))) (check at l g gs (act_of clauses below g) n f t)
        go false q f = absurd (subst Goes (sym f) t)

    pub next-goes : (left left' : ℕ) → (first_cost clauses l.pending ≤ left → first_cost clauses l.pending ≤ left') → (n : Next)
        → next_of clauses room store₁ below at l left ≡ n → Goes n → next_of clauses room' store' below at (behind us l) left' ≡ next_behind us n
    unfolding next_of
    next-goes left left' c n e t = from l.pending left left' c n e t

-- From a to b as much is spent, and as many steps are taken, as from a' to b'.
pub record Alike (a b a' b' : Account) : Type 0 where
  pub left : a.left + b'.left ≡ a'.left + b.left
  pub steps : b.steps + a'.steps ≡ b'.steps + a.steps

account : {a b : Account} → a.left ≡ b.left → a.steps ≡ b.steps → a ≡ b
account p q = λ i. record { left = p i; steps = q i }

-- Where nothing is behind.
module _ (clauses : List Clause) (room store₁ room' store' : ℕ) (h : room ≤ room') (k : store₁ ≤ store') where
  next-plain : (below : ℕ) (at : Place) (l : Level) (left left' : ℕ) → first_cost clauses l.pending ≤ left' → (n : Next) → next_of clauses room store₁ below at l left ≡ n → Goes n
      → next_of clauses room' store' below at l left' ≡ n
  next-plain below at l left left' c n e t = next-goes room store₁ room' store' [] (omega arith) k clauses below at l left left' (λ _. c) n e t ∙ nothing-behind n

  finished-plain : {below left : ℕ} {at : Place} {l : Level} → Ahead clauses room store₁ below at l left (halt finished) → (left' : ℕ)
      → next_of clauses room' store' below at l left' ≡ halt finished
  unfolding next_of next_from
  finished-plain (emptied e) left' = rw e

  -- A LEVEL THAT NO LIMIT STOPS: with another account it spends as much.
  halts-shift : {below left : ℕ} {at : Place} {l : Level} (s : Stop) → Ahead clauses room store₁ below at l left (halt s) → Unlimited (stopped s)
      → (a' : Account) → Runs clauses room' store' below at l a' (ended (stopped s) l a')
  halts-shift finished n t a' = halts (finished-plain n a'.left)
  halts-shift budget n t a' = absurd t
  halts-shift answers n t a' = absurd t
  halts-shift store n t a' = absurd t

  limited : (s : Stop) → Unfinished s → Unlimited (stopped s) → ⊥
  limited finished u t = u
  limited budget u t = t
  limited answers u t = t
  limited store u t = t

  -- The account after a new level, in between.
  abbrev between : Account → Account → Account → Account → Account → Account
  between a b₁ b a' b' = record { left = b'.left + (b₁.left - b.left); steps = a'.steps + (b₁.steps - a.steps) }

  module _ (l : Level) (a b₁ b a' b' : Account) (p : Pays clauses l a.left) (i : Spends (pay clauses l a) b₁) (r : Spends b₁ b) (e : Alike a b a' b') where
    asked-paid : first_cost clauses l.pending ≤ a'.left
    asked-paid = omega (arith, p.whole, i.left, r.left, e.left)

    inner-alike : Alike (pay clauses l a) b₁ (pay clauses l a') (between a b₁ b a' b')
    inner-alike = record { left = omega (arith, p.whole, i.left, r.left, e.left); steps = omega (arith, i.steps) }

    outer-alike : Alike b₁ b (between a b₁ b a' b') b'
    outer-alike = record { left = omega (arith, r.left); steps = omega (arith, e.steps, i.steps) }

  asked : (below : ℕ) (at : Place) (l : Level) (left left' : ℕ) (q : Question) → next_of clauses room store₁ below at l left ≡ ask q → first_cost clauses l.pending ≤ left'
      → next_of clauses room' store' below at l left' ≡ ask q
  asked below at l left left' q n p = next-plain below at l left left' p (ask q) n tt

  pub runs-shift : {below : ℕ} {a b : Account} {at : Place} {l l' : Level} {i : Ending} → Runs clauses room store₁ below at l a (ended i l' b) → Unlimited i
      → (a' b' : Account) → Alike a b a' b' → Runs clauses room' store' below at l a' (ended i l' b')
  runs-shift (halts {below} {a} {at} {l} {s} n) t a' b' e =
      let q : a' ≡ b' = account (omega (arith, e.left)) (omega (arith, e.steps)) in
      subst (λ (x : Account). Runs clauses room' store' below at l a' (ended (stopped s) l x)) q (halts-shift s (next-ahead n) t a')
  runs-shift (steps {below} {a} {at} {l} {l'} n r) t a' b' e =
      let p = step-pays (next-ahead n) in
      let s = runs-spend r in
      let c : first_cost clauses l.pending ≤ a'.left = omega (arith, p.whole, s.left, e.left) in
      steps (next-plain below at l a.left a'.left c (step l') n tt)
      (runs-shift r t (pay clauses l a') b' (record { left = omega (arith, p.whole, e.left); steps = omega (arith, e.steps) }))
  runs-shift (wins {below} {a} {at} {l} n) t a' b' e =
      let p = success-pays (next-ahead n) in
      let q : pay clauses l a' ≡ b' = account (omega (arith, p.whole, e.left)) (omega (arith, e.steps)) in
      subst (λ (x : Account). Runs clauses room' store' below at l a' (ended succeeded l x)) q
      (wins (next-plain below at l a.left a'.left (omega (arith, p.whole, e.left)) success n tt))
  runs-shift {b = b} (proves {below} {a} {b = b₁} {at = at} {l} {q = q} n i r) t a' b' e =
      let p = ask-pays (next-ahead n) in
      let c = between a b₁ b a' b' in
      proves (asked (suc below) at l a.left a'.left q n (asked-paid l a b₁ b a' b' p (runs-spend i) (runs-spend r) e))
      (runs-shift i tt (pay clauses l a') c (inner-alike l a b₁ b a' b' p (runs-spend i) (runs-spend r) e))
      (runs-shift r t c b' (outer-alike l a b₁ b a' b' p (runs-spend i) (runs-spend r) e))
  runs-shift {b = b} (disproves {below} {a} {b = b₁} {at = at} {l} {q = q} n i f r) t a' b' e =
      let p = ask-pays (next-ahead n) in
      let c = between a b₁ b a' b' in
      disproves (asked (suc below) at l a.left a'.left q n (asked-paid l a b₁ b a' b' p (runs-spend i) (runs-spend r) e))
      (runs-shift i tt (pay clauses l a') c (inner-alike l a b₁ b a' b' p (runs-spend i) (runs-spend r) e)) f
      (runs-shift r t c b' (outer-alike l a b₁ b a' b' p (runs-spend i) (runs-spend r) e))
  runs-shift {b = b} (unsettles {below} {a} {b = b₁} {at = at} {l} {q = q} n i f r) t a' b' e =
      let p = ask-pays (next-ahead n) in
      let c = between a b₁ b a' b' in
      unsettles (asked (suc below) at l a.left a'.left q n (asked-paid l a b₁ b a' b' p (runs-spend i) (runs-spend r) e))
      (runs-shift i tt (pay clauses l a') c (inner-alike l a b₁ b a' b' p (runs-spend i) (runs-spend r) e)) f
      (runs-shift r t c b' (outer-alike l a b₁ b a' b' p (runs-spend i) (runs-spend r) e))
  runs-shift (interrupts {s = s} n i f) t a' b' e = absurd (limited s f t)

-- ONE STEP, with more answers before it too.
module _ (clauses : List Clause) (room store₁ room' store' : ℕ) (us : List Goal) (h : words_of us + room ≤ room') (k : store₁ ≤ store') where
  inner : {below : ℕ} {a b : Account} {at : Place} {l l' : Level} {i : Ending} → Runs clauses room store₁ below at l a (ended i l' b) → Unlimited i
      → (a' b' : Account) → Alike a b a' b' → Runs clauses room' store' below at l a' (ended i l' b')
  inner = runs-shift clauses room store₁ room' store' (omega arith) k

  went : (below : ℕ) (at : Place) (l : Level) (left left' : ℕ) (n : Next) → next_of clauses room store₁ (suc below) at l left ≡ n → Goes n → first_cost clauses l.pending ≤ left'
      → next_of clauses room' store' (suc below) at (behind us l) left' ≡ next_behind us n
  went below at l left left' n e t p = next-goes room store₁ room' store' us h k clauses (suc below) at l left left' (λ _. p) n e t

  -- A step that asks can be paid there too, and its new level spends as much.
  asks-paid : (l : Level) (a b a' b' : Account) → Pays clauses l a.left → Spends (pay clauses l a) b → Alike a b a' b' → first_cost clauses l.pending ≤ a'.left
  asks-paid l a b a' b' p i e = omega (arith, p.whole, i.left, e.left)

  asks-alike : (l : Level) (a b a' b' : Account) → Pays clauses l a.left → Spends (pay clauses l a) b → Alike a b a' b' → Alike (pay clauses l a) b (pay clauses l a') b'
  asks-alike l a b a' b' p i e = record { left = omega (arith, p.whole, i.left, e.left); steps = omega (arith, e.steps) }

  pub steps-shift : {below : ℕ} {at : Place} {l l' : Level} {a b : Account} → Steps clauses room store₁ below at l a l' b
      → (a' b' : Account) → Alike a b a' b' → Steps clauses room' store' below at (behind us l) a' (behind us l') b'
  steps-shift {below} {at} {l} {l'} {a} (moves n) a' b' e =
      let p = step-pays (next-ahead n) in
      let q : pay clauses l a' ≡ b' = account (omega (arith, p.whole, e.left)) (omega (arith, e.steps)) in
      subst (λ (x : Account). Steps clauses room' store' below at (behind us l) a' (behind us l') x) q
      (moves (went below at l a.left a'.left (step l') n tt (omega (arith, p.whole, e.left))))
  steps-shift {below} {at} {l} {a = a} {b} (drops {q = q} n i) a' b' e =
      let p = ask-pays (next-ahead n) in
      drops (went below at l a.left a'.left (ask q) n tt (asks-paid l a b a' b' p (runs-spend i) e)) (inner i tt (pay clauses l a') b' (asks-alike l a b a' b' p (runs-spend i) e))
  steps-shift {below} {at} {l} {a = a} {b} (loses {q = q} n i f) a' b' e =
      let p = ask-pays (next-ahead n) in
      loses (went below at l a.left a'.left (ask q) n tt (asks-paid l a b a' b' p (runs-spend i) e)) (inner i tt (pay clauses l a') b' (asks-alike l a b a' b' p (runs-spend i) e)) f
  steps-shift {below} {at} {l} {a = a} {b} (parks {q = q} n i f) a' b' e =
      let p = ask-pays (next-ahead n) in
      parks (went below at l a.left a'.left (ask q) n tt (asks-paid l a b a' b' p (runs-spend i) e)) (inner i tt (pay clauses l a') b' (asks-alike l a b a' b' p (runs-spend i) e)) f
