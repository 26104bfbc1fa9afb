-- The step, the decision of a negative literal and a level's run meet their contracts: a cycle of calls in which the levels left fall.
-- Assumes nothing.
-- `decide`: the new level's goal stands behind the words held, in a part of its own, and the level's reply is the decision.
-- `negate`: on the last level the goal is parked; without room the run stops; else a new level decides.
-- `level`: each turn keeps that the evaluation comes to the same as from the start.
-- `take_step`: the first goal is read off the end of the words held, its literal selected, and the step is that of the selected literal.
use Prim.Native.Nat.{ℕ, ◌-◌, ◌≤◌, ◌<◌, suc}
use mathlib.Core.Path.{◌≡◌, ap, sym, refl, ◌∙◌}
use mathlib.Core.List.{List, [], ◌∷◌, ◌++◌}
use native.Mathlib.Omega.{arith}
use lib.ListN.{length, get_or, drop, length-drop}
use lib.Seq.{length-take-le}
use borrow.Rule.Slice.PartMut.{mid_of}
use Rattle.std.specs.Prelude.{Result, Ok}
use Rattle.std.proofs.lemmas.Result.{err_from_is_err_and}
use Rattle.rules.specs.Terms.{Terms}
use Rattle.rules.specs.Syntax.{Deck, Goal, Symbol}
use Rattle.rules.specs.Refusals.{accepted}
use Rattle.rules.specs.Decks.{open_deck}
use Rattle.rules.specs.Goals.{goal_words}
use Rattle.rules.specs.Resolution.{select}
use Rattle.resolvents.specs.Selecting.{Selects}
use Rattle.resolvents.specs.declared.select.Selected.{Selected}
use Rattle.goals.specs.Store.{Holding, atom_goal}
use Rattle.goals.specs.declared.Mark.{Mark}
use Rattle.goals.proofs.HeldLaws.{part_length, back-held, first-length, first-answers, first-room}
use Rattle.levels.specs.Levels.{Later, Asking, Asked, Turned}
use Rattle.rules.specs.Evaluation.{Account}
use Rattle.levels.specs.declared.Halt.{Halt}
use Rattle.levels.specs.declared.Turn.{Turn}
use Rattle.levels.specs.declared.Turn.TheVariants.{Empty, Park, More}
use Rattle.levels.proofs.GoingLaws.{goes_first, goes-finished, some_first, goes_spent, goes-succeeds, goes-interrupted, goes-parked, goes_on_lem, parked-room, on-later, then-later}
use Rattle.levels.proofs.NegativeLaws.{asked-size, asked-inside, asked-held, asked-kept, negates-inside}
use Rattle.levels.proofs.TurnLaws.{turned-deep, turned-crowded, turned-from, answers-only, more-than-answers, turned-floundered, turned-expanded, derives-less}
use Rattle.levels.proofs.ChoiceLaws.{to-ask, still-negates, atom-room, Copied, copied, is-nothing, is_positive, is_negative, goal-row, to-derive, to-negate}
use Rattle.levels.proofs.+decide_level_negate_take_step.Goals as goal
use Rattle.levels.proofs.+decide_level_negate_take_step.Goals.{decide-After-ask-n, negate-After-decide-inner, level-After-take_step, take_step-After-select_literal-selected}

-- THE DECISION
-- The goal is held in the part that the new level gets.
in-part :
    (t : ℕ) (c : goal.decide-After-ask-n t) →
    let a = c.args in
    (S : List Symbol) (p : ℕ) (ts : Terms) → Asking a.work.now.cells.now a.call.s a.call.e S p ts
    → Holding S (mid_of a.held (length c.ask-n.new.store - a.held) c.ask-n.new.store) c.ask-n.result (atom_goal p ts ∷ [])
in-part t c S p ts k =
    rw c.ask-n.ensures.value (asked-held k c.args.store.now c.ask-n.new.store c.args.held (omega (arith, c.requires.room, asked-size k)) c.ask-n.ensures.store_after)

pub decide-ask-n-requires : goal.decide-ask-n-requires
decide-ask-n-requires t c =
    let a = c.requires.decision.asking in
    let k = asked-inside a in
    (omega (arith, c.requires.room, asked-size a), k.2, k.3, k.4)

pub decide-level-requires : goal.decide-level-requires
decide-level-requires t c =
    let d = c.requires.decision in (
      omega (arith, c.decreases, c.requires.deeper),
      record {
        deck = d.deck;
        goals = atom_goal d.predicate d.terms ∷ [];
        opens = d.opens;
        holding = in-part t (goal.at.decide-level-requires t c).After-ask-n d.deck.symbols d.predicate d.terms d.asking;
      },
    )

pub decide-returns : goal.decide-returns
decide-returns t c =
    let a = c.args in
    let n : a.held ≤ length a.store.now = omega (arith, c.requires.room) in
    record {
      replied = λ d p ts o k. rw (part_length a.store.now c.ask-n.new.store a.held n c.ask-n.auto.store) at (c.level.ensures d (atom_goal p ts ∷ []) o (in-part t (goal.at.decide-returns t c).After-ask-n d.symbols p ts k));
      store_unchanged = back-held a.store.now c.ask-n.new.store a.held n c.ask-n.auto.store c.level.new.store (asked-kept c.requires.decision.asking a.store.now c.ask-n.new.store a.held c.ask-n.ensures.store_after);
    }

-- A LEVEL
-- A value by what it is found to be.
found : {r : Result Turn Halt} {x y : Turn} → r ≡ Ok x → x ≡ y → r ≡ Ok y
found p q = p ∙ ap Ok q

-- What the step of a turn came to, whatever the first goal.
took :
    (t : ℕ) (c : goal.level-After-take_step t) →
    let a = c.args in
    let l = c.loop-held in
    (r : Result Turn Halt) → c.take_step.result ≡ r → (d : Deck) → open_deck a.clauses.now.deck.words.now ≡ accepted d
    → (g : Goal) (hs : List Goal) → Holding d.symbols l.store l.held (g ∷ hs)
    → Turned d a.below l.store l.held l.account g hs c.take_step.new.store r
took t c r e d o g hs h = rw e at (c.take_step.ensures d g hs o h)

pays : (t : ℕ) (c : goal.level-After-take_step t) → 0 < c.loop-held.account.left
pays t c = omega (arith, c.if-left-eq0.false, c.left.ensures)

parked-at :
    (t : ℕ) (c : goal.level-After-take_step t) →
    let l = c.loop-held in
    let store = c.take_step.new.store in
    (m : Mark) (k : Account) → c.take_step.result ≡ Ok (Park m k)
    → (l.held ≤ length store) × (get_or store (l.held - 1) 0 ≤ l.held) × (k.left < l.account.left) × Later c.args.account k
parked-at t c m k e =
    let q = c.requires in
    let u = parked-room (c.loop-held.invariant.2 q.deck q.goals q.opens q.holding) c.loop-held-test.true c.take_step.new.store m k
    c.take_step.auto.store (took t c (Ok (Park m k)) e q.deck q.opens) in
    (u.0, u.1, u.2, then-later c.args.account c.loop-held.account k c.loop-held.invariant.1 u.3)

on-at :
    (t : ℕ) (c : goal.level-After-take_step t) →
    (h : ℕ) (k : Account) → c.take_step.result ≡ Ok (More h k) → (k.left < c.loop-held.account.left) × Later c.args.account k
on-at t c h k e =
    let q = c.requires in
    let u = on-later (c.loop-held.invariant.2 q.deck q.goals q.opens q.holding) c.loop-held-test.true c.take_step.new.store h k
    (took t c (Ok (More h k)) e q.deck q.opens) in
    (u.0, then-later c.args.account c.loop-held.account k c.loop-held.invariant.1 u.1)

pub level-loop-held-init : goal.level-loop-held-init
level-loop-held-init t c =
    let a = c.args in (refl, (omega arith, omega arith), λ d gs o h. goes_first d a.below a.store.now a.start gs a.account h)

pub level-returns-then-left-eq0 : goal.level-returns-then-left-eq0
level-returns-then-left-eq0 t c = λ d gs o h. goes_spent (c.loop-held.invariant.2 d gs o h) c.loop-held-test.true (omega (arith, c.if-left-eq0.true, c.left.ensures))

pub level-take_step-requires : goal.level-take_step-requires
level-take_step-requires t c =
    let l = c.loop-held.invariant in
    let q = c.requires in (
      omega (arith, c.decreases),
      (some_first (l.2 q.deck q.goals q.opens q.holding) c.loop-held-test.true c.args.clauses.now.deck.words.now q.opens, omega (arith, c.if-left-eq0.false, c.left.ensures)),
    )

pub level-returns-in_err-turn : goal.level-returns-in_err-turn
level-returns-in_err-turn t c =
    let p = err_from_is_err_and c.from_residual.result c.from_residual.ensures.1 in
    rw (p.1, p.2)
    (λ d gs o h. goes-interrupted (c.loop-held.invariant.2 d gs o h) c.loop-held-test.true c.take_step.new.store _ (took t (goal.at.level-returns-in_err-turn t c).After-take_step _ c.in_err-turn.was d o))

pub level-pay_one-account-requires : goal.level-pay_one-account-requires
level-pay_one-account-requires t c =
    pays t (goal.at.level-pay_one-account-requires t c).After-take_step

pub level-returns-in-Empty : goal.level-returns-in-Empty
level-returns-in-Empty t c =
    let s = (goal.at.level-returns-in-Empty t c).After-take_step in
    λ d gs o h.
    rw c.pay_one-account.ensures
    (goes-succeeds (c.loop-held.invariant.2 d gs o h) c.loop-held-test.true c.take_step.new.store (pays t s) (took t s (Ok Empty) (found c.in_ok-turn.was c.in-Empty.is) d o))

pub level-overflow_sub-held-in-Park : goal.level-overflow_sub-held-in-Park
level-overflow_sub-held-in-Park t c =
    omega (arith, parked-at t (goal.at.level-overflow_sub-held-in-Park t c).After-take_step _ _ (found c.in_ok-turn.was c.in-Park.is), c.from-held.ensures)

pub level-loop-held-smaller-in-Park : goal.level-loop-held-smaller-in-Park
level-loop-held-smaller-in-Park t c =
    omega (arith, parked-at t (goal.at.level-loop-held-smaller-in-Park t c).After-take_step _ _ (found c.in_ok-turn.was c.in-Park.is))

pub level-loop-held-preserved-in-Park : goal.level-loop-held-preserved-in-Park
level-loop-held-preserved-in-Park t c =
    let e = found c.in_ok-turn.was c.in-Park.is in
    let s = (goal.at.level-loop-held-preserved-in-Park t c).After-take_step in (
      c.take_step.auto.store ∙ c.loop-held.invariant.0,
      (parked-at t s _ _ e).3,
      λ d gs o h. goes-parked (c.loop-held.invariant.2 d gs o h) c.loop-held-test.true c.take_step.new.store c.in-Park.field-0 _ c.from-held.result c.take_step.auto.store c.from-held.ensures (took t s _ e d o),
    )

pub level-loop-held-smaller : goal.level-loop-held-smaller
level-loop-held-smaller t c =
    omega (arith, on-at t (goal.at.level-loop-held-smaller t c).After-take_step _ _ (found c.in_ok-turn.was c.in-More.is))

pub level-loop-held-preserved : goal.level-loop-held-preserved
level-loop-held-preserved t c =
    let e = found c.in_ok-turn.was c.in-More.is in
    let s = (goal.at.level-loop-held-preserved t c).After-take_step in (
      c.take_step.auto.store ∙ c.loop-held.invariant.0,
      (on-at t s _ _ e).1,
      λ d gs o h. goes_on_lem (c.loop-held.invariant.2 d gs o h) c.loop-held-test.true c.take_step.new.store _ _ c.take_step.auto.store (took t s _ e d o),
    )

pub level-returns : goal.level-returns
level-returns t c = λ d gs o h. goes-finished (c.loop-held.invariant.2 d gs o h) c.loop-held-test.false c.finished-verdict.result c.finished-verdict.ensures

-- A NEGATIVE LITERAL
pub negate-pay_one-requires : goal.negate-pay_one-requires
negate-pay_one-requires t c = c.requires.pays

pub negate-returns-then-below-eq0 : goal.negate-returns-then-below-eq0
negate-returns-then-below-eq0 t c =
    let a = c.args in
    λ d g gs before p ts after n.
    rw c.pay_one.ensures (turned-deep d a.below a.account c.requires.pays n.negates.holding c.if-below-eq0.true n.negates.selects)

pub negate-overflow_add-e : goal.negate-overflow_add-e
negate-overflow_add-e t c = omega (arith, negates-inside c.requires.negating.is.negates, c.ranges.held)

pub negate-returns-then-store-held : goal.negate-returns-then-store-held
negate-returns-then-store-held t c =
    let a = c.args in
    λ d g gs before p ts after n.
    turned-crowded d a.below a.account c.requires.pays n.negates.holding (a.below - 1) (omega (arith, c.if-below-eq0.false)) n.negates.selects
    (omega (arith, atom-room n, c.if-store-held.true, negates-inside n.negates))

pub negate-pay_one-paid-requires : goal.negate-pay_one-paid-requires
negate-pay_one-paid-requires t c = c.requires.pays

pub negate-decide-inner-requires : goal.negate-decide-inner-requires
negate-decide-inner-requires t c =
    let n = c.requires.negating in (
      omega (arith, c.decreases),
      (
        record {
          deck = n.deck;
          predicate = n.predicate;
          terms = n.terms;
          opens = n.is.opens;
          asking = to-ask n.is (omega (arith, n.is.negates.holding.well_formed.0.short, c.args.work.now.room));
        },
        (omega (arith, c.if-below-eq0.false), omega (arith, c.if-store-held.false, negates-inside n.is.negates)),
      ),
    )

pub negate-settle-requires : goal.negate-settle-requires
negate-settle-requires t c =
    let r = c.decide-inner in
    let n = c.requires.negating in
    record {
      symbols = n.deck.symbols;
      first = n.first;
      goals = n.goals;
      before = n.before;
      predicate = n.predicate;
      terms = n.terms;
      after = n.after;
      negates = still-negates n.is r.new.store r.auto.store r.ensures.store_unchanged;
    }

pub negate-returns : goal.negate-returns
negate-returns t c =
    let a = c.args in
    let r = c.decide-inner in
    let store = r.new.store in
    let l = r.auto.store in
    let e = r.ensures.store_unchanged in
    let below : suc (a.below - 1) ≡ a.below = omega (arith, c.if-below-eq0.false) in
    λ d g gs before p ts after n.
    let k : goal_words g ≤ length a.work.now.cells.now = omega (arith, n.negates.holding.well_formed.0.short, a.work.now.room) in
    let asked : Asked d (a.below - 1) store a.held a.account p ts r.result =
    record {
      pays = c.requires.pays;
      fits = omega (arith, atom-room n, c.if-store-held.false, negates-inside n.negates, l);
      replied = rw l (rw c.pay_one-paid.ensures at (r.ensures.replied d p ts n.opens (to-ask n k)));
    } in
    turned-from d _ a.below a.store.now store a.held a.account g gs c.settle.new.store c.settle.result below l e
    (c.settle.ensures d g gs before p ts after (a.below - 1) a.account (still-negates n store l e) asked)

-- A STEP
-- The goal's cells are copied.
read :
    (t : ℕ) (c : goal.take_step-After-select_literal-selected t) →
    let a = c.args in
    Copied a.store.now a.held c.from-length.result c.from-answer_cells.result (c.mirror.new.to ++ drop (c.from-length.result - 2) a.work.now.cells.now)
read t c = copied c.requires.first.holding _ _ _ _ c.from-length.ensures c.from-answer_cells.ensures c.args.work.now.room c.mirror.ensures

-- A literal is selected, whatever the goal.
picked :
    (t : ℕ) (c : goal.take_step-After-select_literal-selected t) →
    let a = c.args in
    (r : Selected) → c.select_literal-selected.result ≡ r → (d : Deck) (g : Goal) (gs : List Goal) → open_deck a.clauses.now.deck.words.now ≡ accepted d
    → Holding d.symbols a.store.now a.held (g ∷ gs) → Selects g (select g.literals) r
picked t c r e d g gs o h =
    rw e at
    (c.select_literal-selected.ensures d.symbols g
    (rw c.goal.ensures (goal-row c.args.clauses.now.deck.words.now (read t c) o h c.symbols.result.now (c.from-length.result - 2) c.symbols.ensures refl)))

-- The places of the first two numbers. With `using` of `first-room` on the function these goals stay open: the goal and the deck that the lemma
-- takes stand in none of them, so that `grind` cannot fit it.
pub take_step-overflow_sub-held : goal.take_step-overflow_sub-held
take_step-overflow_sub-held t c = omega (arith, first-room c.requires.first.holding)

pub take_step-bounds-store-held : goal.take_step-bounds-store-held
take_step-bounds-store-held t c = omega (arith, first-room c.requires.first.holding)

pub take_step-overflow_sub-held-2 : goal.take_step-overflow_sub-held-2
take_step-overflow_sub-held-2 t c = omega (arith, first-room c.requires.first.holding)

pub take_step-bounds-store-held-2 : goal.take_step-bounds-store-held-2
take_step-bounds-store-held-2 t c = omega (arith, first-room c.requires.first.holding)

pub take_step-overflow_sub-len : goal.take_step-overflow_sub-len
take_step-overflow_sub-len t c = omega (arith, first-room c.requires.first.holding, c.from-length.ensures)

pub take_step-returns-then-answer_cells-len : goal.take_step-returns-then-answer_cells-len
take_step-returns-then-answer_cells-len t c =
    λ d g gs o h. (answers-only g (omega (arith, c.if-answer_cells-len.true, c.from-length.ensures, c.from-answer_cells.ensures, first-length h, first-answers h, first-room h)), refl)

pub take_step-overflow_sub-end : goal.take_step-overflow_sub-end
take_step-overflow_sub-end t c = omega (arith, first-room c.requires.first.holding)

pub take_step-overflow_sub-end-2 : goal.take_step-overflow_sub-end-2
take_step-overflow_sub-end-2 t c = omega (arith, first-room c.requires.first.holding, c.from-length.ensures)

pub take_step-slice_bounds-mirror-end-2 : goal.take_step-slice_bounds-mirror-end-2
take_step-slice_bounds-mirror-end-2 t c = omega (arith, first-room c.requires.first.holding, c.from-length.ensures, c.args.work.now.room)

pub take_step-slice_bounds-mirror-end-3 : goal.take_step-slice_bounds-mirror-end-3
take_step-slice_bounds-mirror-end-3 t c =
    sym (length-take-le (c.from-length.result - 2) c.args.work.now.cells.now (omega (arith, first-room c.requires.first.holding, c.from-length.ensures, c.args.work.now.room)))

pub take_step-mirror-requires : goal.take_step-mirror-requires
take_step-mirror-requires t c =
    let k = first-room c.requires.first.holding in
    let w = c.from-length.ensures in
    let e = c.args.held - 2 in
    length-take-le (c.from-length.result - 2) c.args.work.now.cells.now (omega (arith, w, c.args.work.now.room))
    ∙ sym (length-take-le (e - (e - (c.from-length.result - 2))) (drop (e - (c.from-length.result - 2)) c.args.store.now) (omega (arith, w, length-drop (e - (c.from-length.result - 2)) c.args.store.now)) ∙ omega (arith, w))

pub take_step-goal-requires : goal.take_step-goal-requires
take_step-goal-requires t c =
    omega (arith, (copied c.requires.first.holding _ _ _ _ c.from-length.ensures c.from-answer_cells.ensures c.args.work.now.room c.mirror.ensures).long)

pub take_step-select_literal-selected-requires : goal.take_step-select_literal-selected-requires
take_step-select_literal-selected-requires t c =
    let f = c.requires.first in
    let read = copied f.holding _ _ _ _ c.from-length.ensures c.from-answer_cells.ensures c.args.work.now.room c.mirror.ensures in
    record {
      symbols = f.deck.symbols;
      goal = f.first;
      is = rw c.goal.ensures (goal-row c.args.clauses.now.deck.words.now read f.opens f.holding c.symbols.result.now (c.from-length.result - 2) c.symbols.ensures refl);
    }

pub take_step-pay_one-requires : goal.take_step-pay_one-requires
take_step-pay_one-requires t c = c.requires.pays

pub take_step-derive-derived-requires : goal.take_step-derive-derived-requires
take_step-derive-derived-requires t c =
    let f = c.requires.first in
    let s = (goal.at.take_step-derive-derived-requires t c).After-select_literal-selected in
    let k = is_positive f.first _ _ (picked t s _ c.in-Positive.is f.deck f.first f.goals f.opens f.holding) in
    record {
      some_deriving = record {
        deck = f.deck;
        first = f.first;
        goals = f.goals;
        before = k.before;
        predicate = k.predicate;
        terms = k.terms;
        after = k.after;
        is = to-derive c.args.clauses.now.deck.words.now (read t s) f.opens f.holding _ _ k;
      };
      left = omega (arith, c.left.ensures, c.requires.pays);
    }

pub take_step-expanded-requires : goal.take_step-expanded-requires
take_step-expanded-requires t c =
    let f = c.requires.first in
    let s = (goal.at.take_step-expanded-requires t c).After-select_literal-selected in
    let k = is_positive f.first _ _ (picked t s _ c.in-Positive.is f.deck f.first f.goals f.opens f.holding) in
    derives-less f.deck.clauses f.first k.before k.after k.predicate k.terms k.selects _ _ _ _ _ _ _ c.derive-derived.result
    (rw c.left.ensures at (c.derive-derived.ensures.derives f.deck f.first f.goals k.before k.predicate k.terms k.after (to-derive c.args.clauses.now.deck.words.now (read t s) f.opens f.holding _ _ k)))

pub take_step-returns-in-Positive : goal.take_step-returns-in-Positive
take_step-returns-in-Positive t c =
    let s = (goal.at.take_step-returns-in-Positive t c).After-select_literal-selected in
    let r = c.derive-derived in
    λ d g gs o h.
    let k = is_positive g _ _ (picked t s _ c.in-Positive.is d g gs o h) in
    rw c.expanded.ensures
    (turned-expanded d c.args.below c.args.account c.requires.pays h k.selects r.new.store r.result r.auto.store
    (rw c.left.ensures at (r.ensures.derives d g gs k.before k.predicate k.terms k.after (to-derive c.args.clauses.now.deck.words.now (read t s) o h _ _ k))))

pub take_step-negate-requires : goal.take_step-negate-requires
take_step-negate-requires t c =
    let f = c.requires.first in
    let s = (goal.at.take_step-negate-requires t c).After-select_literal-selected in
    let k = is_negative f.first _ _ (picked t s _ c.in-Negative.is f.deck f.first f.goals f.opens f.holding) in (
      omega (arith, c.decreases),
      (
        record {
          deck = f.deck;
          first = f.first;
          goals = f.goals;
          before = k.before;
          predicate = k.predicate;
          terms = k.terms;
          after = k.after;
          is = to-negate c.args.clauses.now.deck.words.now (read t s) f.opens f.holding _ _ k;
        },
        c.requires.pays,
      ),
    )

pub take_step-returns-in-Nothing : goal.take_step-returns-in-Nothing
take_step-returns-in-Nothing t c =
    λ d g gs o h.
    rw c.pay_one.ensures (turned-floundered d c.args.below c.args.account c.requires.pays h c.args.store.now
    (more-than-answers g (λ e. c.if-answer_cells-len.false (omega (arith, c.from-length.ensures, c.from-answer_cells.ensures, first-length h, first-answers h))))
    (is-nothing g (picked t (goal.at.take_step-returns-in-Nothing t c).After-select_literal-selected _ c.in-Nothing.is d g gs o h)) refl)

pub take_step-returns-in-Negative : goal.take_step-returns-in-Negative
take_step-returns-in-Negative t c =
    let s = (goal.at.take_step-returns-in-Negative t c).After-select_literal-selected in
    λ d g gs o h.
    let k = is_negative g _ _ (picked t s _ c.in-Negative.is d g gs o h) in
    c.negate.ensures d g gs k.before k.predicate k.terms k.after (to-negate c.args.clauses.now.deck.words.now (read t s) o h _ _ k)
