-- A deeper level's run: after any number of steps the evaluation comes to what it comes to from the level as it stands then; and how it ends.
use Prim.Native.Nat.{ℕ, ◌+◌, ◌-◌, ◌≤◌, ◌<◌}
use mathlib.Core.Path.{◌≡◌, refl, sym, ◌∙◌, ap}
use mathlib.Core.Bool.{Bool, true, false}
use mathlib.Core.List.{List, [], ◌∷◌, ◌++◌}
use native.Mathlib.Omega.{arith}
use lib.ListN.{length, get_or}
use Rattle.rules.specs.Syntax.{Clause, Deck, Goal}
use Rattle.rules.specs.Goals.{Marked, marked}
use Rattle.rules.specs.Refusals.{accepted}
use Rattle.rules.specs.Decks.{open_deck}
use Rattle.rules.specs.Evaluation as rules
use Rattle.rules.specs.Evaluation.{Level, with_pending, with_parked, deeper, finished, stopped, ended, verdict_of, reply_of, evaluate_level}
use Rattle.rules.proofs.LevelLaws.{level-one_step, level-empty, level-spent, level-runs}
use Rattle.rules.proofs.EndLaws.{Says, runs-says}
use Rattle.report.specs.Reports.{stop_of}
use Rattle.report.specs.declared.Stop.{Stop}
use Rattle.report.specs.declared.Stop.TheVariants.{Finished, Budget, Answers, Store}
use Rattle.goals.specs.Store.{Holding, SomeFirst, mark_of}
use Rattle.levels.specs.Levels.{account_of, paid_one, Later, LevelHolds, Onward, Turned, verdict_for, finished_by, Replied}
use Rattle.std.specs.Prelude.{Result, Ok, Err}
use Rattle.goals.specs.declared.Mark as declared
use Rattle.levels.specs.declared.Account.{Account}
use Rattle.levels.specs.declared.Turn.{Turn}
use Rattle.levels.specs.declared.Turn.TheVariants.{Empty, Park, More}
use Rattle.levels.specs.declared.Halt.{Halt}
use Rattle.levels.specs.declared.Verdict.{Verdict}
use Rattle.levels.specs.declared.Verdict.TheVariants.{Succeeds}
use Rattle.goals.proofs.HeldLaws.{first-length, first-room, rest-held, still-held, FirstOf, first_of, none-held}
use Rattle.levels.proofs.StepLaws.{answered}
use Rattle.levels.proofs.TurnLaws.{bare-paid}

abbrev level_of : List Goal → List Marked → Level
level_of gs ks = record { pending = gs; parked = ks; answers = [] }

-- A level that started on the goals gs with the account a₀, when its account is a.
pub record Goes (d : Deck) (below room : ℕ) (gs : List Goal) (a₀ : Account) (store : List ℕ) (held : ℕ) (a : Account) (parked : Bool) : Type 0 where
  pub pending : List Goal
  pub aside : List Marked
  pub holding : Holding d.symbols store held pending
  pub flag : verdict_of (stopped finished) aside ≡ finished_by parked
  pub size : length store ≡ room
  pub later : Later a₀ a
  pub same : (answer_room store_size outer : ℕ) → outer + room ≡ store_size
      → reply_of (evaluate_level d.clauses answer_room store_size below (deeper outer) (level_of gs []) (account_of a₀))
      ≡ reply_of (evaluate_level d.clauses answer_room store_size below (deeper outer) (level_of pending aside) (account_of a))

pub goes_first : (d : Deck) (below : ℕ) (store : List ℕ) (held : ℕ) (gs : List Goal) (a : Account) → Holding d.symbols store held gs
    → Goes d below (length store) gs a store held a false
unfolding verdict_of
goes_first d below store held gs a h =
    record { pending = gs; aside = []; holding = h; flag = refl; size = refl; later = (omega arith, omega arith); same = λ answer_room store_size outer e. refl }

pub then-later : (a b c : Account) → Later a b → Later b c → Later a c
then-later a b c s t = (omega (arith, s.0, t.0), omega (arith, s.1, t.1))

-- Something parked more.
parked-flag : (ks : List Marked) (m : Marked) → verdict_of (stopped finished) (ks ++ (m ∷ [])) ≡ rules.unsettled
unfolding verdict_of
parked-flag [] m = refl
parked-flag (k ∷ ks) m = refl

-- A level that has goals pending does not stop as finished, and a deeper one not for its answers.
cut-flag : (clauses : List Clause) (stop : Stop) (outer left : ℕ) (g : Goal) (gs : List Goal) (l : Level) → l.pending ≡ g ∷ gs
    → Says clauses (stop_of stop) (deeper outer) l left → verdict_of (stopped (stop_of stop)) l.parked ≡ rules.interrupted (stop_of stop)
unfolding verdict_of
cut-flag clauses Finished outer left g gs l p s = absurd (let z : ◌≡◌ {A = ℕ} 0 1 = cc in omega arith)
cut-flag clauses Budget outer left g gs l p s = refl
cut-flag clauses Answers outer left g gs l p s = absurd s
cut-flag clauses Store outer left g gs l p s = refl

module _ {d : Deck} {below room : ℕ} {gs : List Goal} {a₀ : Account} {store : List ℕ} {held : ℕ} {a : Account} {parked : Bool}
    (r : Goes d below room gs a₀ store held a parked) where
  -- NOTHING IS HELD: the level is finished.
  pub goes-finished : held ≤ 0 → (v : Verdict) → verdict_for v ≡ finished_by parked → Replied d below room gs a₀ (Ok (record { verdict = v; account = a }))
  unfolding reply_of
  goes-finished z v e =
      record {
        later = r.later;
        decides = λ answer_room store_size outer f.
            r.same answer_room store_size outer f
            ∙ ap reply_of
            (level-empty d.clauses answer_room store_size below (deeper outer) (level_of r.pending r.aside) (account_of a) (none-held r.pending r.holding z))
            ∙ ap (λ x. rules.reply x (account_of a)) (r.flag ∙ sym e);
      }

  -- SOMETHING IS HELD
  module _ (some : 0 < held) where
    first : FirstOf r.pending
    first = first_of r.pending r.holding some

    first-held : Holding d.symbols store held (first.first ∷ first.rest)
    first-held = rw first.same at r.holding

    pub some_first : (deck_words : List ℕ) → open_deck deck_words ≡ accepted d → SomeFirst deck_words store held
    some_first deck_words o = record { deck = d; first = first.first; goals = first.rest; opens = o; holding = first-held }

    -- Nothing is left of the budget.
    pub goes_spent : a.left ≡ 0 → Replied d below room gs a₀ (Err (record { stop = Budget; account = a }))
    unfolding reply_of verdict_of
    goes_spent z =
        record {
          later = r.later;
          decides = λ answer_room store_size outer f.
              r.same answer_room store_size outer f
              ∙ ap reply_of (level-spent d.clauses answer_room store_size below (deeper outer) (level_of r.pending r.aside) (account_of a) first.first first.rest first.same z);
        }

    -- What a step came to, whatever the first goal.
    abbrev Took : List ℕ → Result Turn Halt → Type 0
    Took store' t = (g : Goal) (hs : List Goal) → Holding d.symbols store held (g ∷ hs) → Turned d below store held a g hs store' t

    stands : (store_size outer : ℕ) → outer + room ≡ store_size
        → LevelHolds (deeper outer) (level_of r.pending r.aside) (first.first ∷ first.rest) (length store) store_size
    stands store_size outer f = record { pending = first.same; room = omega (arith, r.size) }

    -- The evaluation goes on from the changed level.
    onward : {change : Level → Level} {b : rules.Account} → Onward d.clauses below (length store) (first.first ∷ first.rest) (account_of a) change b
        → (answer_room store_size outer : ℕ) → outer + room ≡ store_size
        → evaluate_level d.clauses answer_room store_size below (deeper outer) (level_of r.pending r.aside) (account_of a)
        ≡ evaluate_level d.clauses answer_room store_size below (deeper outer) (change (level_of r.pending r.aside)) b
    onward o answer_room store_size outer f =
        level-one_step d.clauses answer_room store_size below (deeper outer) (level_of r.pending r.aside) (account_of a)
        ∙ o answer_room store_size (deeper outer) (evaluate_level d.clauses answer_room store_size below (deeper outer)) (level_of r.pending r.aside) (stands store_size outer f)

    -- It had no literals.
    pub goes-succeeds : (store' : List ℕ) → 0 < a.left → Took store' (Ok Empty) → Replied d below room gs a₀ (Ok (record { verdict = Succeeds; account = paid_one a }))
    unfolding reply_of verdict_of
    goes-succeeds store' pays t =
        let bare = (t first.first first.rest first-held).0 in
        record {
          later = then-later a₀ a (paid_one a) r.later (omega arith, omega arith);
          decides = λ answer_room store_size outer f.
              r.same answer_room store_size outer f
              ∙ ap reply_of
              (answered d.clauses below room first.first first.rest (account_of a) (account_of (paid_one a)) (bare-paid d.clauses first.first a pays bare) answer_room store_size outer
              (level_of r.pending r.aside) first.same bare);
        }

    -- The run stops.
    pub goes-interrupted : (store' : List ℕ) (halt : Halt) → Took store' (Err halt) → Replied d below room gs a₀ (Err halt)
    unfolding reply_of
    goes-interrupted store' halt t =
        let u = t first.first first.rest first-held in
        let stop = stop_of halt.stop in
        let b = account_of halt.account in
        record {
          later = then-later a₀ a halt.account r.later u.0;
          decides = λ answer_room store_size outer f.
              let l = level_of r.pending r.aside in
              let e = level-one_step d.clauses answer_room store_size below (deeper outer) l (account_of a)
              ∙ u.2 answer_room store_size (deeper outer) (evaluate_level d.clauses answer_room store_size below (deeper outer)) l (stands store_size outer f) in
              let s = runs-says (level-runs d.clauses answer_room store_size below (deeper outer) l (account_of a) (ended (stopped stop) l b) e) in
              r.same answer_room store_size outer f ∙ ap reply_of e
              ∙ ap (λ x. rules.reply x b) (cut-flag d.clauses halt.stop outer b.left first.first first.rest l first.same s);
        }

    -- The goal is parked.
    pub goes-parked : (store' : List ℕ) (m : declared.Mark) (b : Account) (size : ℕ) → length store' ≡ length store → size ≡ get_or store' (held - 1) 0
        → Took store' (Ok (Park m b)) → Goes d below room gs a₀ store' (held - size) b true
    unfolding with_parked
    goes-parked store' m b size l q t =
        let u = t first.first first.rest first-held in
        let h = still-held first-held l u.2 in
        record {
          pending = first.rest;
          aside = r.aside ++ (marked (mark_of m) first.first ∷ []);
          holding = rw (q, first-length h) (rest-held h);
          flag = parked-flag r.aside (marked (mark_of m) first.first);
          size = l ∙ r.size;
          later = then-later a₀ a b r.later u.1;
          same = λ answer_room store_size outer f.
              r.same answer_room store_size outer f
              ∙ ap reply_of (onward u.3 answer_room store_size outer f);
        }

    -- It goes on with other goals.
    pub goes_on_lem : (store' : List ℕ) (h : ℕ) (b : Account) → length store' ≡ length store → Took store' (Ok (More h b)) → Goes d below room gs a₀ store' h b parked
    unfolding with_pending
    goes_on_lem store' h b l t =
        let u = t first.first first.rest first-held in
        record {
          pending = u.2.0;
          aside = r.aside;
          holding = u.2.1;
          flag = r.flag;
          size = l ∙ r.size;
          later = then-later a₀ a b r.later u.1;
          same = λ answer_room store_size outer f.
              r.same answer_room store_size outer f
              ∙ ap reply_of (onward u.2.2 answer_room store_size outer f);
        }

    -- The parked goal's words are among those held; each turn costs something.
    pub parked-room : (store' : List ℕ) (m : declared.Mark) (b : Account) → length store' ≡ length store → Took store' (Ok (Park m b))
        → (held ≤ length store') × (get_or store' (held - 1) 0 ≤ held) × (b.left < a.left) × Later a b
    parked-room store' m b l t =
        let u = t first.first first.rest first-held in
        let room = first-room (still-held first-held l u.2) in
        (room.1, room.3, u.0, u.1)

    pub on-later : (store' : List ℕ) (h : ℕ) (b : Account) → Took store' (Ok (More h b)) → (b.left < a.left) × Later a b
    on-later store' h b t = let u = t first.first first.rest first-held in (u.0, u.1)
