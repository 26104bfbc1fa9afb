-- What holds at the end of every level, and of every evaluation: the steps, what each stop says, the answers, the words held.
use Prim.Native.Nat.{ℕ, zero, suc, ◌+◌, ◌-◌, ◌≤◌, ◌<◌}
use mathlib.Core.Path.{◌≡◌, refl, ap}
use mathlib.Core.List.{List, [], ◌∷◌, ◌++◌}
use native.Mathlib.Omega.{arith}
use Rattle.rules.specs.Terms.{Terms}
use Rattle.rules.specs.Syntax.{Literal, neg, Clause, Deck, Goal}
use Rattle.rules.specs.Goals.{Mark, undecided, Marked, marked, goal_words, words_of, marked_words}
use Rattle.rules.specs.Resolution.{negative, select, cost_of}
use Rattle.rules.specs.Evaluation.{Stop, finished, budget, answers, store, Level, start_level, with_pending, with_parked, with_answer, Place, zeroth, deeper, held, Question, question, halt, step, success, ask, Account, opening, Ending, succeeded, stopped, Ended, ended, succeeds, fails, unsettled, interrupted, Reply, reply, verdict_of, reply_of, decide_by, unasked, evaluate_level, Outcome, stop_of, outcome, evaluate}
use Rattle.rules.specs.WellFormed.{All}
use Rattle.rules.proofs.ListLaws.{all_snoc}
use Rattle.rules.proofs.GoalLaws.{words_of-append, marked_words-append}
use Rattle.rules.proofs.SelectLaws.{Selected, select-selected}
use Rattle.rules.proofs.FormedLaws.{without-shorter}
use Rattle.rules.proofs.NextLaws.{bare, asks, Ahead, emptied, unpaid, unlisted, unstored, lists, parks, replaces, inquires}
use Rattle.rules.specs.Press.{decides}
use Rattle.rules.proofs.LevelLaws.{Unfinished, Runs, halts, steps, wins, proves, disproves, unsettles, interrupts, Spends, spends-same, runs-spend, runs-left, next-ahead, runs}

-- 1. What the stops say.

abbrev pub Nonempty : List Goal → Type 0
Nonempty hs = (g : Goal) × (gs : List Goal) × (hs ≡ g ∷ gs)

-- "Finished" is said only with nothing pending, "budget" only where some goal's step, at this level or a deeper one, costs more than is left
-- (which one it is: `PassLaws.budget-unpaid`), "answers" only at level 0.
abbrev pub Unpaid : List Clause → ℕ → Type 0
Unpaid clauses left = (g : Goal) × (left < cost_of clauses g)

abbrev pub Says : List Clause → Stop → Place → Level → ℕ → Type 0
Says clauses finished at l left = l.pending ≡ []
Says clauses budget at l left = Nonempty l.pending × Unpaid clauses left
Says clauses answers zeroth l left = Nonempty l.pending
Says clauses answers (deeper outer) l left = ⊥
Says clauses store at l left = Nonempty l.pending

-- A deeper level's stop, said of the level that asked it.
interrupted-says : (clauses : List Clause) (s : Stop) → Unfinished s → (outer left : ℕ) (inner l : Level) (at : Place) → Nonempty l.pending → Says clauses s (deeper outer) inner left
    → Says clauses s at l left
interrupted-says clauses finished u outer left inner l at p h = absurd u
interrupted-says clauses budget u outer left inner l at p h = (p, h.1)
interrupted-says clauses answers u outer left inner l at p h = absurd h
interrupted-says clauses store u outer left inner l at p h = p

module _ {clauses : List Clause} {answer_room store_size : ℕ} where
  halt-says : {below left : ℕ} {at : Place} {l : Level} {s : Stop} → Ahead clauses answer_room store_size below at l left (halt s) → Says clauses s at l left
  halt-says (emptied p) = p
  halt-says (unpaid p c) = ((_, _, p), (_, c))
  halt-says (unlisted p c a h) = (_, _, p)
  halt-says (unstored p c) = (_, _, p)

  ask-pending : {below left : ℕ} {at : Place} {l : Level} {q : Question} → Ahead clauses answer_room store_size below at l left (ask q) → Nonempty l.pending
  ask-pending (inquires p c a h) = (_, _, p)

  pub runs-says : {below : ℕ} {a b : Account} {at : Place} {l l' : Level} {s : Stop} → Runs clauses answer_room store_size below at l a (ended (stopped s) l' b)
      → Says clauses s at l' b.left
  runs-says (halts n) = halt-says (next-ahead n)
  runs-says (steps n r) = runs-says r
  runs-says (proves n i r) = runs-says r
  runs-says (disproves n i f r) = runs-says r
  runs-says (unsettles n i f r) = runs-says r
  runs-says (interrupts {b = b} {at} {l} {inner} {q} {s} n i u) =
      interrupted-says clauses s u q.held_outside b.left inner l at (ask-pending (next-ahead n)) (runs-says i)

  pub zeroth-success : {below left : ℕ} {l : Level} → Ahead clauses answer_room store_size below zeroth l left success → ⊥
  zeroth-success a = elim a [ ]

  -- At level 0 a level never succeeds.
  zeroth_stops_lem : {below : ℕ} {a : Account} {l : Level} {b : Account} {l' : Level} → Runs clauses answer_room store_size below zeroth l a (ended succeeded l' b) → ⊥
  zeroth_stops_lem (steps n r) = zeroth_stops_lem r
  zeroth_stops_lem (wins n) = zeroth-success (next-ahead n)
  zeroth_stops_lem (proves n i r) = zeroth_stops_lem r
  zeroth_stops_lem (disproves n i f r) = zeroth_stops_lem r
  zeroth_stops_lem (unsettles n i f r) = zeroth_stops_lem r

  pub zeroth-stops : {below : ℕ} {a b : Account} {l l' : Level} → Runs clauses answer_room store_size below zeroth l a (ended succeeded l' b) → ⊥
  zeroth-stops r = zeroth_stops_lem r

-- A goal without literals.
abbrev pub Bare : Goal → Type 0
Bare g = g.literals ≡ []

-- 2. What a level keeps: a property of levels that each step keeps, and each closing.

pub record Keeps (clauses : List Clause) (answer_room store_size : ℕ) (at : Place) (P : Level → Type 0) : Type 0 where
  pub by_step : {below left : ℕ} {l l' : Level} → Ahead clauses answer_room store_size below at l left (step l') → P l → P l'
  pub by_ask : {below left : ℕ} {l : Level} {q : Question} → Ahead clauses answer_room store_size below at l left (ask q) → P l
      → P q.on_success × P q.on_failure × P q.on_unsettled

module _ {clauses : List Clause} {answer_room store_size : ℕ} where
  pub runs-keep : {below : ℕ} {a b : Account} {at : Place} {l l' : Level} {i : Ending} (P : Level → Type 0) → Keeps clauses answer_room store_size at P
      → Runs clauses answer_room store_size below at l a (ended i l' b) → P l → P l'
  runs-keep P k (halts n) p = p
  runs-keep P k (steps n r) p = runs-keep P k r (k.by_step (next-ahead n) p)
  runs-keep P k (wins n) p = p
  runs-keep P k (proves n a r) p = runs-keep P k r (k.by_ask (next-ahead n) p).0
  runs-keep P k (disproves n a f r) p = runs-keep P k r (k.by_ask (next-ahead n) p).1
  runs-keep P k (unsettles n a f r) p = runs-keep P k r (k.by_ask (next-ahead n) p).2
  runs-keep P k (interrupts n a u) p = p

  -- Answers have no literals, and their words fit the answer list.
  bare_step : {below left : ℕ} {at : Place} {l l' : Level} → Ahead clauses answer_room store_size below at l left (step l')
      → All Bare l.answers → All Bare l'.answers
  unfolding with_answer with_parked with_pending
  bare_step (lists {l} {g = g} p c (bare e) f h) a = all_snoc Bare l.answers g a e
  bare_step (parks p c a h) b = b
  bare_step (replaces p c a h) b = b

  pub answers-ask : (P : List Goal → Type 0) {below left : ℕ} {at : Place} {l : Level} {q : Question}
      → Ahead clauses answer_room store_size below at l left (ask q) → P l.answers
      → P q.on_success.answers × P q.on_failure.answers × P q.on_unsettled.answers
  unfolding question with_parked with_pending
  answers-ask P (inquires p c a h) b = (b, b, b)

  pub bare-keeps : (at : Place) → Keeps clauses answer_room store_size at (λ l. All Bare l.answers)
  bare-keeps at = record { by_step = bare_step; by_ask = answers-ask (All Bare) }

  fit-step : {below left : ℕ} {at : Place} {l l' : Level} → Ahead clauses answer_room store_size below at l left (step l')
      → words_of l.answers ≤ answer_room → words_of l'.answers ≤ answer_room
  unfolding with_answer with_parked with_pending
  fit-step (lists {l} {g = g} p c a f h) w = omega (arith, words_of-append l.answers (g ∷ []))
  fit-step (parks p c a h) w = w
  fit-step (replaces p c a h) w = w

  pub fit-keeps : (at : Place) → Keeps clauses answer_room store_size at (λ l. words_of l.answers ≤ answer_room)
  fit-keeps at = record { by_step = fit-step; by_ask = answers-ask (λ us. words_of us ≤ answer_room) }

-- A deeper level's answers stay as they are: it lists none.
deeper-step : {clauses : List Clause} {answer_room store_size below left outer : ℕ} {l l' : Level} (us : List Goal)
    → Ahead clauses answer_room store_size below (deeper outer) l left (step l') → l.answers ≡ us → l'.answers ≡ us
unfolding with_parked with_pending
deeper-step us (parks p c a h) e = e
deeper-step us (replaces p c a h) e = e

pub deeper-keeps : (clauses : List Clause) (answer_room store_size outer : ℕ) (us : List Goal) → Keeps clauses answer_room store_size (deeper outer) (λ l. l.answers ≡ us)
deeper-keeps clauses answer_room store_size outer us = record { by_step = deeper-step us; by_ask = answers-ask (λ vs. vs ≡ us) }

-- The words held: other goals in place of the first pending one, which take no more words; that goal parked; that goal without a literal.
held_first : (at : Place) (l : Level) (g : Goal) (gs hs : List Goal) → l.pending ≡ g ∷ gs → words_of hs ≤ goal_words g + words_of gs
    → held at (with_pending hs l) ≤ held at l
unfolding held with_pending
held_first zeroth l g gs hs p h = omega (arith, ap words_of p)
held_first (deeper outer) l g gs hs p h = omega (arith, ap words_of p)

held-parked : (at : Place) (l : Level) (m : Mark) (g : Goal) (gs : List Goal) → l.pending ≡ g ∷ gs → held at (with_parked m g gs l) ≤ held at l
unfolding held with_parked
held-parked zeroth l m g gs p = omega (arith, ap words_of p, marked_words-append l.parked (marked m g ∷ []))
held-parked (deeper outer) l m g gs p = omega (arith, ap words_of p)

literal-lost : (g : Goal) (before after : List Literal) (p : ℕ) (ts : Terms) → select g.literals ≡ negative before p ts after
    → goal_words (record { answer_terms = g.answer_terms; literals = before ++ after }) ≤ goal_words g
literal-lost g before after p ts e =
    let s : Selected g.literals (negative before p ts after) = rw e at (select-selected g.literals) in
    omega (arith, without-shorter g.answer_terms before (neg p ts) after, ap (λ ls. goal_words (record { answer_terms = g.answer_terms; literals = ls })) s.0)

module _ {clauses : List Clause} {answer_room store_size : ℕ} where
  store_step : {below left : ℕ} {at : Place} {l l' : Level} → Ahead clauses answer_room store_size below at l left (step l')
      → held at l ≤ store_size → held at l' ≤ store_size
  store_step (lists p c a f h) w = h
  store_step (parks p c a h) w = h
  store_step (replaces p c a h) w = h

  store-ask : {below left : ℕ} {at : Place} {l : Level} {q : Question} → Ahead clauses answer_room store_size below at l left (ask q) → held at l ≤ store_size
      → (held at q.on_success ≤ store_size) × (held at q.on_failure ≤ store_size) × (held at q.on_unsettled ≤ store_size)
  unfolding question
  store-ask (inquires {at} {l} {g = g} {gs} p c (asks {before} {after} {p = r} {ts = ts} e b) h) w = (
    omega (arith, held_first at l g gs gs p (omega arith)),
    omega (
      arith,
      held_first at l g gs (record { answer_terms = g.answer_terms; literals = before ++ after } ∷ gs) p
          (omega (arith, literal-lost g before after r ts e)),
    ),
    omega (arith, held-parked at l undecided g gs p),
  )

  pub store_keeps : (at : Place) → Keeps clauses answer_room store_size at (λ l. held at l ≤ store_size)
  store_keeps at = record { by_step = store_step; by_ask = store-ask }

  -- A new level's goal fits too.
  pub asked-fits : {below left : ℕ} {at : Place} {l : Level} {q : Question} → Ahead clauses answer_room store_size below at l left (ask q)
      → held (deeper q.held_outside) (start_level q.goal) ≤ store_size
  unfolding question held start_level
  asked-fits (inquires p c a h) = omega arith

-- 3. What a decider replies: what it has spent, and a stop that no level below level 0 can say is not said.

abbrev pub Replies : List Clause → Account → Reply → Type 0
Replies clauses a (reply succeeds b) = Spends a b
Replies clauses a (reply fails b) = Spends a b
Replies clauses a (reply unsettled b) = Spends a b
Replies clauses a (reply (interrupted finished) b) = ⊥
Replies clauses a (reply (interrupted budget) b) = Spends a b × Unpaid clauses b.left
Replies clauses a (reply (interrupted answers) b) = ⊥
Replies clauses a (reply (interrupted store) b) = Spends a b

module _ (clauses : List Clause) (answer_room store_size : ℕ) where
  finished-replies : (a b : Account) → Spends a b → (ks : List Marked) → Replies clauses a (reply (verdict_of (stopped finished) ks) b)
  unfolding verdict_of
  finished-replies a b h [] = h
  finished-replies a b h (k ∷ ks) = h

  ended-replies : (below outer : ℕ) (l : Level) (a : Account) (e : Ended) → Runs clauses answer_room store_size below (deeper outer) l a e
      → Replies clauses a (reply_of e)
  unfolding reply_of verdict_of
  ended-replies below outer l a (ended succeeded l' b) r = runs-spend r
  ended-replies below outer l a (ended (stopped finished) l' b) r = finished-replies a b (runs-spend r) l'.parked
  ended-replies below outer l a (ended (stopped budget) l' b) r = (runs-spend r, (runs-says r).1)
  ended-replies below outer l a (ended (stopped answers) l' b) r = runs-says r
  ended-replies below outer l a (ended (stopped store) l' b) r = runs-spend r

  pub decides-replies : (below : ℕ) (q : Question) (a : Account) → Replies clauses a (decides clauses answer_room store_size below q a)
  unfolding unasked decide_by
  decides-replies zero q a = spends-same a
  decides-replies (suc below) q a =
      ended-replies below q.held_outside (start_level q.goal) a _
      (runs clauses answer_room store_size below (deeper q.held_outside) (start_level q.goal) a)

-- 4. The evaluation.

abbrev pub OutcomeSays : List Clause → ℕ → Stop → Outcome → Type 0
OutcomeSays clauses total finished o = o.pending ≡ []
OutcomeSays clauses total budget o = Nonempty o.pending × Unpaid clauses (total - o.cost)
OutcomeSays clauses total answers o = Nonempty o.pending
OutcomeSays clauses total store o = Nonempty o.pending

nothing-pending : (clauses : List Clause) (s : Stop) (l : Level) (left : ℕ) → Says clauses s zeroth l left → l.pending ≡ [] → s ≡ finished
nothing-pending clauses finished l left h e = refl
nothing-pending clauses budget l left h e = let q = h.0.2 in cc
nothing-pending clauses answers l left h e = let q = h.2 in cc
nothing-pending clauses store l left h e = let q = h.2 in cc

abbrev start_of : List Goal → List Marked → Level
start_of ps ks = record { pending = ps; parked = ks; answers = [] }

module _ (deck : Deck) (answer_room store_size : ℕ) (ps : List Goal) (ks : List Marked) (total : ℕ) where
  -- What holds of each way to the end of level 0 holds of the evaluation.
  pub evaluated : (Q : Outcome → Type 0)
      → ((s : Stop) (l : Level) (a : Account) → Runs deck.clauses answer_room store_size 32 zeroth (start_of ps ks) (opening total) (ended (stopped s) l a)
      → Q (record { stop = s; steps = a.steps; cost = total - a.left; answers = l.answers; pending = l.pending; parked = l.parked }))
      → Q (evaluate deck answer_room store_size ps ks total)
  unfolding evaluate outcome stop_of
  evaluated Q h =
      go (evaluate_level deck.clauses answer_room store_size 32 zeroth (start_of ps ks) (opening total))
      (runs deck.clauses answer_room store_size 32 zeroth (start_of ps ks) (opening total))
    where
      go : (e : Ended) → Runs deck.clauses answer_room store_size 32 zeroth (start_of ps ks) (opening total) e → Q (outcome total e)
      go (ended succeeded l a) r = absurd (zeroth-stops r)
      go (ended (stopped s) l a) r = h s l a r

  -- THE COST is at most the budget, and there are no more steps than it.
  pub cost-within : (evaluate deck answer_room store_size ps ks total).cost ≤ total
  cost-within = evaluated (λ o. o.cost ≤ total) (λ s l a r. omega arith)

  pub steps-cost : (evaluate deck answer_room store_size ps ks total).steps ≤ (evaluate deck answer_room store_size ps ks total).cost
  steps-cost = evaluated (λ o. o.steps ≤ o.cost) (λ s l a r. let b = runs-spend r in omega (arith, b.left, b.each))

  pub steps-within : (evaluate deck answer_room store_size ps ks total).steps ≤ total
  steps-within = omega (arith, steps-cost, cost-within)

  -- What the stop says of the evaluation.
  pub stop-says : OutcomeSays deck.clauses total (evaluate deck answer_room store_size ps ks total).stop (evaluate deck answer_room store_size ps ks total)
  stop-says = evaluated (λ o. OutcomeSays deck.clauses total o.stop o) says
    where
      says : (s : Stop) (l : Level) (a : Account) → Runs deck.clauses answer_room store_size 32 zeroth (start_of ps ks) (opening total) (ended (stopped s) l a)
          → OutcomeSays deck.clauses total s (record { stop = s; steps = a.steps; cost = total - a.left; answers = l.answers; pending = l.pending; parked = l.parked })
      says finished l a r = runs-says r
      says budget l a r = let u = runs-says r in (u.0, (u.1.0, omega (arith, u.1.1, runs-left r)))
      says answers l a r = runs-says r
      says store l a r = runs-says r

  -- "Budget" is said only where less is left than a step costs.
  pub budget-spent : (evaluate deck answer_room store_size ps ks total).stop ≡ budget → Unpaid deck.clauses (total - (evaluate deck answer_room store_size ps ks total).cost)
  budget-spent e = (rw e at stop-says).1

  pub finished-empty : (evaluate deck answer_room store_size ps ks total).stop ≡ finished → (evaluate deck answer_room store_size ps ks total).pending ≡ []
  finished-empty e = rw e at stop-says

  pub empty-finished : (evaluate deck answer_room store_size ps ks total).pending ≡ [] → (evaluate deck answer_room store_size ps ks total).stop ≡ finished
  empty-finished = evaluated (λ o. o.pending ≡ [] → o.stop ≡ finished) (λ s l a r. nothing-pending deck.clauses s l a.left (runs-says r))

  -- Answers have no literals, and their words fit the answer list.
  pub answers-bare : All Bare (evaluate deck answer_room store_size ps ks total).answers
  answers-bare = evaluated (λ o. All Bare o.answers) (λ s l a r. runs-keep (λ l. All Bare l.answers) (bare-keeps zeroth) r tt)

  pub answers-fit : words_of (evaluate deck answer_room store_size ps ks total).answers ≤ answer_room
  answers-fit =
      evaluated (λ o. words_of o.answers ≤ answer_room)
      (λ s l a r. runs-keep (λ l. words_of l.answers ≤ answer_room) (fit-keeps zeroth) r (omega arith))

  -- The goals left fit the store, if those at the start do.
  pub store-fits : words_of ps + marked_words ks ≤ store_size
      → words_of (evaluate deck answer_room store_size ps ks total).pending + marked_words (evaluate deck answer_room store_size ps ks total).parked ≤ store_size
  unfolding held
  store-fits h =
      evaluated (λ o. words_of o.pending + marked_words o.parked ≤ store_size)
      (λ s l a r. runs-keep (λ l. held zeroth l ≤ store_size) (store_keeps zeroth) r h)
