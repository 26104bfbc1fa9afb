-- Presses (document 02, U14). The evaluation is one press after another; a press cut short leaves the goals as found.
use Prim.Native.Nat.{ℕ, suc, ◌+◌, ◌≤◌}
use mathlib.Core.Path.{◌≡◌, refl, sym, ap, subst}
use mathlib.Core.List.{List, [], ◌∷◌}
use native.Mathlib.Omega.{arith}
use lib.ListN.{length, length-append}
use Rattle.rules.specs.Syntax.{Clause, Deck, Goal}
use Rattle.rules.specs.Goals.{Marked}
use Rattle.rules.specs.Evaluation.{Stop, finished, budget, answers, store, Level, start_level, with_pending, with_parked, with_answer, Place, zeroth, deeper, Question, Next, halt, step, success, ask, Account, opening, pay, succeeded, stopped, Ended, ended, reply, verdict_of, reply_of, close, proceed, decide_by, next_from, next_of, evaluate_level}
use Rattle.rules.specs.Press.{one_step, press_level, prevented, Pressed, pressed_of, press, counted, Display, capped, displayed}
use Rattle.rules.proofs.NextLaws.{Ahead, lists, replaces}
use Rattle.rules.proofs.NextLaws.{parks as parked}
use Rattle.rules.proofs.LevelLaws.{Runs, halts, steps, proves, disproves, unsettles, interrupts, next-ahead, step-pays, ask-pays, Spends, spends-then, spends-step, runs-spend, runs, runs-level}
use Rattle.rules.proofs.LevelSound.{level}
use Rattle.rules.proofs.EndLaws.{Says, runs-says, zeroth-success, Keeps, answers-ask}

-- ONE STEP OF A LEVEL, with all of its inner levels: the level and the account after it.
pub data Steps (clauses : List Clause) (answer_room store_size below : ℕ) (at : Place) (l : Level) (a : Account) : Level → Account → Type 0 where
  moves : {l' : Level} → next_of clauses answer_room store_size (suc below) at l a.left ≡ step l' → Steps clauses answer_room store_size below at l a l' (pay clauses l a)
  drops : {b : Account} {inner : Level} {q : Question} → next_of clauses answer_room store_size (suc below) at l a.left ≡ ask q
      → Runs clauses answer_room store_size below (deeper q.held_outside) (start_level q.goal) (pay clauses l a) (ended succeeded inner b)
      → Steps clauses answer_room store_size below at l a q.on_success b
  loses : {b : Account} {inner : Level} {q : Question} → next_of clauses answer_room store_size (suc below) at l a.left ≡ ask q
      → Runs clauses answer_room store_size below (deeper q.held_outside) (start_level q.goal) (pay clauses l a) (ended (stopped finished) inner b)
      → inner.parked ≡ [] → Steps clauses answer_room store_size below at l a q.on_failure b
  parks : {b : Account} {inner : Level} {q : Question} {k : Marked} {ks : List Marked} → next_of clauses answer_room store_size (suc below) at l a.left ≡ ask q
      → Runs clauses answer_room store_size below (deeper q.held_outside) (start_level q.goal) (pay clauses l a) (ended (stopped finished) inner b)
      → inner.parked ≡ k ∷ ks → Steps clauses answer_room store_size below at l a q.on_unsettled b

-- One answer at most is listed.
module _ {clauses : List Clause} {answer_room store_size below left : ℕ} where
  listed-one : {at : Place} {l l' : Level} → Ahead clauses answer_room store_size below at l left (step l') → length l'.answers ≤ suc (length l.answers)
  unfolding with_answer with_parked with_pending
  listed-one (lists {l} {g = g} p c a w h) = omega (arith, length-append l.answers (g ∷ []))
  listed-one (parked p c a h) = omega arith
  listed-one (replaces p c a h) = omega arith

  asked-none : {at : Place} {l : Level} {q : Question} → Ahead clauses answer_room store_size below at l left (ask q)
      → (length q.on_success.answers ≤ length l.answers) × (length q.on_failure.answers ≤ length l.answers) × (length q.on_unsettled.answers ≤ length l.answers)
  asked-none {l = l} n = answers-ask (λ us. length us ≤ length l.answers) n (omega arith)

module _ {clauses : List Clause} {answer_room store_size below : ℕ} {at : Place} where
  -- A level runs from where a step has brought it.
  pub steps-runs : {l l' : Level} {a b : Account} {e : Ended} → Steps clauses answer_room store_size below at l a l' b
      → Runs clauses answer_room store_size (suc below) at l' b e → Runs clauses answer_room store_size (suc below) at l a e
  steps-runs (moves n) r = steps n r
  steps-runs (drops n i) r = proves n i r
  steps-runs (loses n i f) r = disproves n i f r
  steps-runs (parks n i f) r = unsettles n i f r

  pub steps-spend : {l l' : Level} {a b : Account} → Steps clauses answer_room store_size below at l a l' b → Spends a b
  steps-spend {l} {a = a} (moves n) = spends-step clauses l a (step-pays (next-ahead n))
  steps-spend {l} {a = a} (drops n i) = spends-then (spends-step clauses l a (ask-pays (next-ahead n))) (runs-spend i)
  steps-spend {l} {a = a} (loses n i f) = spends-then (spends-step clauses l a (ask-pays (next-ahead n))) (runs-spend i)
  steps-spend {l} {a = a} (parks n i f) = spends-then (spends-step clauses l a (ask-pays (next-ahead n))) (runs-spend i)

  pub steps-keep : (P : Level → Type 0) → Keeps clauses answer_room store_size at P → {l l' : Level} {a b : Account} → Steps clauses answer_room store_size below at l a l' b
      → P l → P l'
  steps-keep P k (moves n) p = k.by_step (next-ahead n) p
  steps-keep P k (drops n i) p = (k.by_ask (next-ahead n) p).0
  steps-keep P k (loses n i f) p = (k.by_ask (next-ahead n) p).1
  steps-keep P k (parks n i f) p = (k.by_ask (next-ahead n) p).2

  pub steps-list : {l l' : Level} {a b : Account} → Steps clauses answer_room store_size below at l a l' b → length l'.answers ≤ suc (length l.answers)
  steps-list (moves n) = listed-one (next-ahead n)
  steps-list (drops n i) = omega (arith, (asked-none (next-ahead n)).0)
  steps-list (loses n i f) = omega (arith, (asked-none (next-ahead n)).1)
  steps-list (parks n i f) = omega (arith, (asked-none (next-ahead n)).2)

-- WHAT A PRESS IS: a step was taken, or level 0 stops as it stands.
pub data Presses (clauses : List Clause) (answer_room store_size : ℕ) (l : Level) (a : Account) : Ended → Type 0 where
  takes : {l' : Level} {b : Account} → Steps clauses answer_room store_size 31 zeroth l a l' b → Presses clauses answer_room store_size l a (ended succeeded l' b)
  cuts : {s : Stop} {b : Account} → Runs clauses answer_room store_size 32 zeroth l a (ended (stopped s) l b) → Presses clauses answer_room store_size l a (ended (stopped s) l b)

module _ (clauses : List Clause) (answer_room store_size : ℕ) where
  finished-presses : (l : Level) (a b : Account) (q : Question) (inner : Level) → next_of clauses answer_room store_size 32 zeroth l a.left ≡ ask q
      → Runs clauses answer_room store_size 31 (deeper q.held_outside) (start_level q.goal) (pay clauses l a) (ended (stopped finished) inner b)
      → (ks : List Marked) → inner.parked ≡ ks
      → Presses clauses answer_room store_size l a (close (ended succeeded) l q (reply (verdict_of (stopped finished) ks) b))
  unfolding close verdict_of
  finished-presses l a b q inner n i [] f = takes (loses n i f)
  finished-presses l a b q inner n i (k ∷ ks) f = takes (parks n i f)

  close-presses : (l : Level) (a : Account) (q : Question) → next_of clauses answer_room store_size 32 zeroth l a.left ≡ ask q → (i : Ended)
      → Runs clauses answer_room store_size 31 (deeper q.held_outside) (start_level q.goal) (pay clauses l a) i
      → Presses clauses answer_room store_size l a (close (ended succeeded) l q (reply_of i))
  unfolding close reply_of verdict_of
  close-presses l a q n (ended succeeded inner b) r = takes (drops n r)
  close-presses l a q n (ended (stopped finished) inner b) r = finished-presses l a b q inner n r inner.parked refl
  close-presses l a q n (ended (stopped budget) inner b) r = cuts (interrupts n r tt)
  close-presses l a q n (ended (stopped answers) inner b) r = cuts (interrupts n r tt)
  close-presses l a q n (ended (stopped store) inner b) r = cuts (interrupts n r tt)

  pub presses : (l : Level) (a : Account) → Presses clauses answer_room store_size l a (press_level clauses answer_room store_size l a)
  unfolding press_level one_step proceed decide_by
  presses l a = go (next_of clauses answer_room store_size 32 zeroth l a.left) refl
    where
      go : (n : Next) → next_of clauses answer_room store_size 32 zeroth l a.left ≡ n
          → Presses clauses answer_room store_size l a (proceed (ended succeeded) (decide_by (evaluate_level clauses answer_room store_size 31)) l a (pay clauses l a) n)
      go (halt s) n = cuts (halts n)
      go (step l') n = takes (moves n)
      go success n = absurd (zeroth-success (next-ahead n))
      go (ask q) n = close-presses l a q n _ (runs clauses answer_room store_size 31 (deeper q.held_outside) (start_level q.goal) (pay clauses l a))

-- THE EVALUATION IS ONE PRESS AFTER ANOTHER: it goes on from where a press has brought it, with what is left, and stops where a press is cut short.
abbrev pub go_on : (Level → Account → Ended) → Ended → Ended
go_on again (ended succeeded l a) = again l a
go_on again (ended (stopped s) l a) = ended (stopped s) l a

module _ (clauses : List Clause) (answer_room store_size : ℕ) where
  pub level-presses : (l : Level) (a : Account)
      → evaluate_level clauses answer_room store_size 32 zeroth l a
      ≡ go_on (evaluate_level clauses answer_room store_size 32 zeroth) (press_level clauses answer_room store_size l a)
  level-presses l a = go (presses clauses answer_room store_size l a)
    where
      go : {e : Ended} → Presses clauses answer_room store_size l a e
          → evaluate_level clauses answer_room store_size 32 zeroth l a ≡ go_on (evaluate_level clauses answer_room store_size 32 zeroth) e
      go (takes {l'} {b} s) = runs-level clauses answer_room store_size (steps-runs s (runs clauses answer_room store_size 32 zeroth l' b))
      go (cuts r) = runs-level clauses answer_room store_size r

-- A press that is cut short leaves the goals as found, and finds no answer.
module _ (deck : Deck) (answer_room store_size : ℕ) (gs : List Goal) (ms : List Marked) (total : ℕ) where
  abbrev result : Pressed
  result = press deck answer_room store_size gs ms total

  -- What holds of each way a press can end holds of the press.
  pub pressed : (Q : Pressed → Type 0) → ((e : Ended) → Presses deck.clauses answer_room store_size (level gs ms []) (opening total) e → Q (pressed_of total e)) → Q result
  unfolding press
  pressed Q h = h _ (presses deck.clauses answer_room store_size (level gs ms []) (opening total))

  pub cut_short : (s : Stop) → result.advance ≡ prevented s → (result.pending ≡ gs) × (result.parked ≡ ms) × (result.answers ≡ [])
  cut_short s = pressed (λ p. p.advance ≡ prevented s → (p.pending ≡ gs) × (p.parked ≡ ms) × (p.answers ≡ [])) go
    where
      as-found : {r : Stop} {l : Level} {m : Account} → Presses deck.clauses answer_room store_size (level gs ms []) (opening total) (ended (stopped r) l m)
          → (l.pending ≡ gs) × (l.parked ≡ ms) × (l.answers ≡ [])
      as-found (cuts r) = (refl, refl, refl)

      go : (e : Ended) → Presses deck.clauses answer_room store_size (level gs ms []) (opening total) e
          → (pressed_of total e).advance ≡ prevented s → ((pressed_of total e).pending ≡ gs) × ((pressed_of total e).parked ≡ ms) × ((pressed_of total e).answers ≡ [])
      go (ended succeeded l m) p q = absurd (let z : ◌≡◌ {A = ℕ} 0 1 = cc in omega arith)
      go (ended (stopped r) l m) p q = as-found p

  -- It is prevented as finished only where nothing is pending.
  pub press-prevented : result.advance ≡ prevented finished → gs ≡ []
  press-prevented = pressed (λ p. p.advance ≡ prevented finished → gs ≡ []) go
    where
      empty : {s : Stop} {l : Level} {m : Account} → s ≡ finished → Presses deck.clauses answer_room store_size (level gs ms []) (opening total) (ended (stopped s) l m) → gs ≡ []
      empty {m = m} e (cuts r) = subst (λ (x : Stop). Says deck.clauses x zeroth (level gs ms []) m.left) e (runs-says r)

      go : (e : Ended) → Presses deck.clauses answer_room store_size (level gs ms []) (opening total) e → (pressed_of total e).advance ≡ prevented finished → gs ≡ []
      go (ended succeeded l m) p q = absurd (let z : ◌≡◌ {A = ℕ} 0 1 = cc in omega arith)
      go (ended (stopped s) l m) p q = empty (let z : s ≡ finished = cc in z) p

-- What a press spends: at most its budget, and no more steps than that.
module _ (deck : Deck) (answer_room store_size : ℕ) (gs : List Goal) (ms : List Marked) (total : ℕ) where
  presses-spend : {e : Ended} → Presses deck.clauses answer_room store_size (level gs ms []) (opening total) e → (pressed_of total e).steps ≤ (pressed_of total e).cost
  presses-spend (takes s) = let p = steps-spend s in omega (arith, p.left, p.each)
  presses-spend (cuts r) = let p = runs-spend r in omega (arith, p.left, p.each)

  pub press-steps : (press deck answer_room store_size gs ms total).steps ≤ (press deck answer_room store_size gs ms total).cost
  press-steps = pressed deck answer_room store_size gs ms total (λ p. p.steps ≤ p.cost) (λ e p. presses-spend p)

  pub press-cost : (press deck answer_room store_size gs ms total).cost ≤ total
  press-cost = pressed deck answer_room store_size gs ms total (λ p. p.cost ≤ total) (λ e p. go e)
    where
      go : (e : Ended) → (pressed_of total e).cost ≤ total
      go (ended i l a) = omega arith

  -- And it lists one answer at most.
  pub press-lists : length (press deck answer_room store_size gs ms total).answers ≤ 1
  press-lists = pressed deck answer_room store_size gs ms total (λ p. length p.answers ≤ 1) (λ e p. go p)
    where
      go : {e : Ended} → Presses deck.clauses answer_room store_size (level gs ms []) (opening total) e → length (pressed_of total e).answers ≤ 1
      go (takes s) = steps-list s
      go (cuts r) = omega arith

-- A press on a finished query changes nothing: goals, answers and counts are as they were,
pub press-finished : (deck : Deck) (answer_room store_size : ℕ) (ms : List Marked) (total : ℕ)
    → press deck answer_room store_size [] ms total ≡ record { advance = prevented finished; steps = 0; cost = 0; answers = []; pending = []; parked = ms }
unfolding press press_level one_step proceed next_of next_from
press-finished deck answer_room store_size ms total = ap (λ n. record { advance = prevented finished; steps = 0; cost = n; answers = []; pending = []; parked = ms }) (omega arith)

-- and so is the display, whose counts have 64 bits.
pub finished-display : (deck : Deck) (answer_room store_size : ℕ) (ms : List Marked) (total : ℕ) (d : Display)
    → d.steps ≤ 18446744073709551615 → d.cost ≤ 18446744073709551615 → d.answers ≤ 18446744073709551615 → d.pending ≡ 0 → d.parked ≡ length ms
    → displayed d (counted (press deck answer_room store_size [] ms total)) ≡ d
unfolding displayed counted
finished-display deck answer_room store_size ms total d s c a p k =
    rw (press-finished deck answer_room store_size ms total)
    (λ i. record {
      steps = (let e : capped (d.steps + 0) ≡ d.steps = omega arith in e) i;
      cost = (let e : capped (d.cost + 0) ≡ d.cost = omega arith in e) i;
      answers = (let e : capped (d.answers + 0) ≡ d.answers = omega arith in e) i;
      pending = sym p i;
      parked = sym k i;
    })
