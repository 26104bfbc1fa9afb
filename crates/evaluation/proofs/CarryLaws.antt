-- A run that carries on: its checks, and the goals that they let through.
use Prim.Native.Nat.{ℕ, ◌+◌, ◌≤◌}
use mathlib.Core.Path.{◌≡◌, refl, sym, ◌∙◌, ap, subst}
use mathlib.Core.Bool.{Bool, true, false}
use mathlib.Core.Option.{some}
use mathlib.Core.List.{List, ◌++◌}
use native.Mathlib.Omega.{arith}
use lib.ListN.{length, take}
use lib.Seq.{take_at}
use Rattle.rules.specs.Syntax.{Symbol, Deck, Goal}
use Rattle.rules.specs.Refusals.{bad_goals, Checked, refused, accepted, and_then, require, obtain, checked_number}
use Rattle.rules.specs.Loose.{tight_clauses, check_tight}
use Rattle.rules.specs.Decks.{open_deck}
use Rattle.rules.specs.Goals.{Marked, unmarked, write_goals, words_of, marked_words}
use Rattle.rules.specs.WellFormed.{WfGoal, WfMarked}
use Rattle.rules.specs.Stored.{OpenGoals, read_open}
use Rattle.rules.specs.Rights.{check_rights}
use Rattle.rules.specs.Evaluation.{evaluate}
use Rattle.rules.specs.Run.{Carried, run_from, check_sizes, carry, carry_on, carry_from, RanOn}
use Rattle.rules.proofs.ListLaws.{all-weaken, all_append, unmarked-all}
use Rattle.rules.proofs.GoalLaws.{goals-length, marked_words-append, unmarked-words}
use Rattle.rules.proofs.StoredLaws.{Fits, ParkedFits, open-reads}
use Rattle.rules.proofs.Carried.{carry-parts}
use Rattle.deck.specs.Answers.{number_of, refusal_for}
use Rattle.deck.specs.declared.Refusal.{Refusal}
use Rattle.deck.specs.declared.Refusal.TheVariants as why
use Rattle.std.specs.Prelude.{Option, Some, None, Ok, Err}
use Rattle.std.specs.Option.{ok_or}
use Rattle.stored.specs.Passing.{OpenFound}
use Rattle.rights.specs.Reached.{AreGoals}
use Rattle.report.specs.declared.Report.{Report}
use Rattle.top_level.specs.Top.{InOrder}
use Rattle.evaluation.specs.Results.{check_goals, result_of, slices, OpenAs, CarriedAs, admitted}
use Rattle.deck.proofs.RefusalLaws.{number-accepts, number-refuses}
use Rattle.evaluation.proofs.RunLaws.{passes, sizes-are, RunTops, gives-refused, gives-accepted}

-- The words of goals in order.
pub goals-are : {S : List Symbol} {store : List ℕ} {held end : ℕ} {gs : List Goal} {ms : List Marked} → InOrder S store held end gs ms → AreGoals S (take end store) (unmarked gs ++ ms)
goals-are {S} {gs = gs} {ms} o = record { formed = all_append (WfMarked S) (unmarked gs) ms (unmarked-all (WfGoal S) gs o.pending_formed) o.parked_formed; written = o.begins }

-- CHECKS 12 AND 13
pub in_order_lem : (S : List Symbol) (store : List ℕ) (n k terms held end : ℕ) (o : OpenGoals) → read_open S n k terms store ≡ some o
    → held ≡ words_of o.pending → end ≡ held + marked_words o.parked → end ≤ length store → InOrder S store held end o.pending o.parked
in_order_lem S store n k terms held end o e h w inside =
    let r = open-reads S n k terms store o e in
    let ms = unmarked o.pending ++ o.parked in
    let size : length (write_goals ms) ≡ end =
    goals-length ms ∙ omega (arith, marked_words-append (unmarked o.pending) o.parked, unmarked-words o.pending) in
    record {
      pending_formed = all-weaken (Fits S terms) (WfGoal S) (λ g f. f.wf) o.pending r.pending;
      parked_formed = all-weaken (ParkedFits S terms) (WfMarked S) (λ m f. f.1.wf) o.parked r.parked;
      pending_words = h;
      parked_words = w;
      inside = inside;
      begins = ap (take end) r.written ∙ take_at (write_goals ms) r.rest end size;
    }

module _ (d : Deck) (store : List ℕ) (n k terms : ℕ) where
  -- Goals are found: what the clauses decide.
  module _ (p : ℕ × ℕ) (r : Option (ℕ × ℕ)) (t : Bool) (e : r ≡ Some p) (f : OpenFound d.symbols store n k terms r) (c : t ≡ tight_clauses d.clauses) where
    pub goals-loose : t ≡ false → OpenAs d.symbols (check_goals d n k terms store) store (Err why.LooseClause)
    unfolding check_goals check_tight require obtain and_then
    goals-loose z = let o = subst (OpenFound d.symbols store n k terms) e f in let y : tight_clauses d.clauses ≡ false = sym c ∙ z in rw (o.1, y)

    pub open-as : t ≡ true → OpenAs d.symbols (check_goals d n k terms store) store (Ok p)
    unfolding check_goals check_tight require obtain and_then
    open-as z =
        let o = subst (OpenFound d.symbols store n k terms) e f in
        let y : tight_clauses d.clauses ≡ true = sym c ∙ z in
        (o.0, rw (o.1, y), in_order_lem d.symbols store n k terms p.0 p.1 o.0 o.1 o.2 o.3 o.4)

  -- None are.
  pub not-open : (r : Option (ℕ × ℕ)) (w : Refusal) → ok_or r why.Goals ≡ Err w → OpenFound d.symbols store n k terms r
      → OpenAs d.symbols (check_goals d n k terms store) store (Err w)
  unfolding check_goals obtain and_then
  not-open None w e f = let z : why.Goals ≡ w = cc in rw (← z, f)
  not-open (Some p) w e f = absurd (let z : ◌≡◌ {A = ℕ} 0 1 = cc in omega arith)

-- What goes on from a member's open goals.
pub admitted-then : {B : Type 0} (c : Checked Carried) (bars : List ℕ) (f : Carried → B)
    → and_then c (λ x. and_then (check_rights x.deck bars (unmarked x.goals.pending ++ x.goals.parked)) (λ _. accepted (f x))) ≡ and_then (admitted c bars) (λ x. accepted (f x))
unfolding admitted and_then
admitted-then (refused n) bars f = refl
admitted-then {B} (accepted x) bars f = rights (check_rights x.deck bars (unmarked x.goals.pending ++ x.goals.parked))
  where
    rights : (t : Checked (Unit {0})) → and_then t (λ _. accepted (f x)) ≡ and_then (and_then t (λ _. accepted x)) (λ y. accepted (f y))
    rights (refused n) = refl
    rights (accepted u) = refl

-- ALL CHECKS
goals-then : (c : Checked OpenGoals) (t : Checked (Unit {0})) (f : OpenGoals → Carried)
    → and_then c (λ g. and_then t (λ _. accepted (f g))) ≡ and_then (and_then c (λ g. and_then t (λ _. accepted g))) (λ g. accepted (f g))
unfolding and_then
goals-then (refused n) t f = refl
goals-then (accepted g) (refused n) f = refl
goals-then (accepted g) (accepted u) f = refl

both-pass : (deck_words : List ℕ) (n k terms : ℕ) (store : List ℕ) (scratch_size : ℕ) (d : Deck) (u : Unit {0}) → open_deck deck_words ≡ accepted d
    → check_sizes (length store) scratch_size ≡ accepted u
    → carry deck_words n k terms store scratch_size ≡ and_then (check_goals d n k terms store) (λ g. accepted (record { deck = d; goals = g }))
unfolding carry check_goals and_then
both-pass deck_words n k terms store scratch_size d u o s = rw (o, s) (goals-then (obtain bad_goals (read_open d.symbols n k terms store)) (check_tight d) (λ g. record { deck = d; goals = g }))

module _ (deck_words : List ℕ) (n k terms : ℕ) (store : List ℕ) (scratch_size : ℕ) where
  abbrev carries : Checked Carried
  carries = carry deck_words n k terms store scratch_size

  pub deck-refused : (why : Refusal) → number_of (Err why) ≡ checked_number (open_deck deck_words) → carries ≡ refused (refusal_for why)
  unfolding carry and_then
  deck-refused why e = let o = number-refuses why (open_deck deck_words) e in rw o

  module _ (d : Deck) (o : open_deck deck_words ≡ accepted d) where
    pub sizes-refused : (why : Refusal) → number_of (Err why) ≡ checked_number (check_sizes (length store) scratch_size) → carries ≡ refused (refusal_for why)
    unfolding carry and_then
    sizes-refused why e = let s = number-refuses why (check_sizes (length store) scratch_size) e in rw (o, s)

    module _ (fit : 0 ≡ checked_number (check_sizes (length store) scratch_size)) where
      goals-next : carries ≡ and_then (check_goals d n k terms store) (λ g. accepted (record { deck = d; goals = g }))
      goals-next = let s = number-accepts (check_sizes (length store) scratch_size) fit in both-pass deck_words n k terms store scratch_size d s.0 o s.1

      pub goals-refused : (w : Refusal) → OpenAs d.symbols (check_goals d n k terms store) store (Err w) → carries ≡ refused (refusal_for w)
      unfolding and_then
      goals-refused w h = goals-next ∙ rw h

      -- 15 and 16.
      module _ (bars : List ℕ) (p : ℕ × ℕ) (h : OpenAs d.symbols (check_goals d n k terms store) store (Ok p)) where
        abbrev rights : Checked (Unit {0})
        rights = check_rights d bars (unmarked h.0.pending ++ h.0.parked)

        found : carries ≡ accepted (record { deck = d; goals = h.0 })
        unfolding and_then
        found = let e = h.1 in goals-next ∙ rw e

        pub barred : (w : Refusal) → number_of (Err w) ≡ checked_number rights → admitted carries bars ≡ refused (refusal_for w)
        unfolding admitted and_then
        barred w e = let r = number-refuses w rights e in let f = found in rw (f, r)

        pub let-through : 0 ≡ checked_number rights → CarriedAs (admitted carries bars) store (Ok p)
        unfolding admitted and_then
        let-through e = let r = number-accepts rights e in let f = found in (record { deck = d; goals = h.0 }, rw (f, r.1), h.2)

  -- A MEMBER'S OPEN GOALS.
  module _ (bars : List ℕ) where
    abbrev lets : Checked Carried
    lets = admitted carries bars

    pub refused-first : (w : Refusal) → carries ≡ refused (refusal_for w) → lets ≡ refused (refusal_for w)
    unfolding admitted and_then
    refused-first w e = rw e

    -- The goals that are let through.
    module _ (p : ℕ × ℕ) (h : CarriedAs lets store (Ok p)) where
      pub let-carries : carries ≡ accepted h.0
      unfolding admitted
      let-carries =
          let c = passes carries _ h.0 h.1 in
          let r = passes (check_rights c.0.deck bars (unmarked c.0.goals.pending ++ c.0.goals.parked)) _ h.0 c.2 in
          c.1 ∙ r.2

      pub carried-sizes : (8192 ≤ scratch_size) × (length store ≤ 65535)
      unfolding carry
      carried-sizes =
          let d = passes (open_deck deck_words) _ h.0 let-carries in
          let s = passes (check_sizes (length store) scratch_size) _ h.0 d.2 in
          let z = sizes-are (length store) scratch_size s.0 s.1 in
          (z.2, z.1)

      pub carried-opens : open_deck deck_words ≡ accepted h.0.deck
      carried-opens = (carry-parts deck_words n k terms store scratch_size h.0 let-carries).0

      -- Where the goals end.
      pub carried-inside : (p.0 ≤ p.1) × (p.1 ≤ length store)
      carried-inside = let o = h.2 in (omega (arith, o.parked_words), o.inside)

-- THE RUN: refused, and from the goals that were let through.
module _ (deck_words : List ℕ) (n k terms : ℕ) (store scratch bars : List ℕ) (budget : ℕ) (answers : List ℕ) where
  abbrev admits : Checked Carried
  admits = admitted (carry deck_words n k terms store (length scratch)) bars

  from-admitted : carry_from deck_words n k terms bars budget (slices answers store scratch)
      ≡ and_then admits (λ x. accepted (evaluate x.deck (length answers) (length store) x.goals.pending x.goals.parked budget))
  unfolding carry_from carry_on run_from
  from-admitted = admitted-then (carry deck_words n k terms store (length scratch)) bars (λ x. evaluate x.deck (length answers) (length store) x.goals.pending x.goals.parked budget)

  pub ran-on-refused : (w : Refusal) → admits ≡ refused (refusal_for w)
      → RanOn deck_words n k terms bars budget (slices answers store scratch) (result_of (Err w)) (slices answers store scratch)
  unfolding and_then
  ran-on-refused w e =
      gives-refused (carry_from deck_words n k terms bars budget (slices answers store scratch)) (slices answers store scratch) w (from-admitted ∙ rw e)

  pub ran-on-accepted : (p : ℕ × ℕ) (h : CarriedAs admits store (Ok p))
      → (answers' store' scratch' : List ℕ) (r : Report) → length store' ≡ length store → length scratch' ≡ length scratch
      → RunTops h.0.deck (length store) answers h.0.goals.pending h.0.goals.parked budget answers' store' r
      → RanOn deck_words n k terms bars budget (slices answers store scratch) (result_of (Ok r)) (slices answers' store' scratch')
  unfolding and_then
  ran-on-accepted p h answers' store' scratch' r same rest topped =
      let x = h.0 in
      gives-accepted x.deck x.goals.pending x.goals.parked budget answers store scratch answers' store' scratch' r (carry_from deck_words n k terms bars budget (slices answers store scratch))
      (from-admitted ∙ (let e = h.1 in rw e)) same rest topped
