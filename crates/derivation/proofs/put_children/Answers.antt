-- `put_children` meets its contract. Assumes nothing.
use Rattle.std.proofs.Common.{ℕ, ◌≡◌, ◌+◌, ◌-◌, ◌*◌, ◌≤◌, ◌<◌, Some, IfSome, List, [], ◌∷◌, refl, ap, sym, ◌∙◌, subst, arith}
use mathlib.Core.Option.{some}
use lib.ListN.{length, drop, length-drop}
use Rattle.rules.specs.Terms.{Terms, count}
use Rattle.rules.specs.Syntax.{Literal, Clause, Deck, Goal, top_goal}
use Rattle.rules.specs.Refusals.{accepted}
use Rattle.rules.specs.Decks.{open_deck}
use Rattle.rules.specs.Resolution.{clauses_about, row_of, row_clauses, tried, matchings, resolvent, resolvents}
use Rattle.resolvents.specs.Deriving.{equations_of, IsResolvent, IsAttempt}
use Rattle.resolvents.specs.declared.resolve.Resolved.{Resolved}
use Rattle.resolvents.proofs.LeadingLaws.{leads-some}
use Rattle.clauses.specs.Clauses.{ClauseAt}
use Rattle.clauses.specs.Tried.{row_of_symbol, left, Gives, Leaves, IsRowOf}
use Rattle.clauses.proofs.ClauseLaws.{clause-count}
use Rattle.clauses.proofs.GroupLaws.{symbols-counted}
use Rattle.clauses.proofs.TriedLaws.{first-argued, argued-of, start-left}
use Rattle.derivation.specs.Derives.{Tries, sum_of}
use Rattle.derivation.proofs.CostLaws.{row-unpaid}
use Rattle.derivation.proofs.LiteralLaws.{literal-cell, literal-read, literal-below, row-leads}
use Rattle.derivation.proofs.ChildrenLaws.{resolvents-by, sum_by, tries-kept, given-fits, placed-length, placed-few, going-first, going-last, going-unpaid, going_on}
use Rattle.derivation.proofs.put_children.Goals as goal
use Rattle.derivation.proofs.put_children.Goals.{In-Some, After-try_clause}

-- The clause that is given, about p, and those that are still to be tried.
clause : (k : goal.In-Some) (d : Deck) (g : Goal) (before : List Literal) (p : ℕ) (ts : Terms) (after : List Literal)
    → let a = k.args in
    Tries a.clauses.now.deck.words.now a.work.now.cells.now a.attempt d g before p ts after
    → Gives d.clauses p k.in-Some.i (left d k.loop-i.i-iterator) (left d k.next.new.self)
clause k d g before p ts after t =
    let h = k.loop-i.invariant in
    let s = k.loop-i.i-iterator in
    let e = ap (λ c. open_deck c.deck.words.now) h.same_clauses ∙ t.opens in
    subst (λ q. Gives d.clauses q k.in-Some.i (left d s) (left d k.next.new.self)) (h.predicate ∙ (literal-cell t.calls).1)
    (subst (λ o. Leaves d.clauses s.p (left d s) o (left d k.next.new.self)) k.in-Some.is (k.next.ensures.steps.leaves d e))

pub offset_bounds-work-attempt : goal.offset_bounds-work-attempt
offset_bounds-work-attempt c = let t = c.requires.some_tries.is.calls in omega (arith, (literal-cell t).0, t.inside)

pub bounds-work-attempt : goal.bounds-work-attempt
bounds-work-attempt c = let t = c.requires.some_tries.is.calls in omega (arith, (literal-cell t).0, t.inside)

pub tried-candidates-requires : goal.tried-candidates-requires
tried-candidates-requires c =
    let t = c.requires.some_tries in
    let ws = c.args.clauses.now.deck.words.now in
    let p : c.from-p.result ≡ t.predicate = c.from-p.ensures ∙ (literal-cell t.is.calls).1 in
    rw p
    record {
      p_in = omega (arith, literal-below t.is, symbols-counted ws t.deck t.is.opens);
      argued = first-argued ws t.deck t.is.opens t.predicate (count t.terms) (literal-read t.is) c.args.attempt.first (λ f e. leads-some t.terms f (sym e ∙ t.is.first));
    }

pub are_over-requires : goal.are_over-requires
are_over-requires c = c.tried-candidates.ensures.start

pub returns-then-are_over : goal.returns-then-are_over
returns-then-are_over c =
    let a = c.args in
    let s = c.tried-candidates.result in
    let over = c.are_over.ensures.over c.if-are_over.true in
    record {
      writes = λ d g before p ts after t.
          let ws = a.clauses.now.deck.words.now in
          let q : c.from-p.result ≡ p = c.from-p.ensures ∙ (literal-cell t.calls).1 in
          let about : s.p ≡ p = c.tried-candidates.ensures.predicate ∙ q in
          let e : open_deck s.clauses.deck.words.now ≡ accepted d = ap (λ c. open_deck c.deck.words.now) c.tried-candidates.ensures.clauses ∙ t.opens in
          let symbol = ap row_of_symbol t.first ∙ row-leads ts in
          let todo : left d s ≡ tried ts (clauses_about p d.clauses) = c.tried-candidates.ensures.tried d ts t.opens symbol ∙ ap (λ x. tried ts (clauses_about x d.clauses)) q in
          let row : left d s ≡ row_clauses over.row.number (clauses_about p d.clauses) =
          start-left s d over.row over.is c.tried-candidates.ensures.start ∙ ap (λ x. row_clauses over.row.number (clauses_about x d.clauses)) about in
          let number : row_of ts ≡ some over.row.number = sym symbol ∙ subst (IsRowOf a.attempt.first) over.is c.tried-candidates.ensures.row in (
            subst (λ n. a.left < n) (ap (matchings (top_goal g) ts) todo)
                (row-unpaid (top_goal g) a.left over.row.number p ts d.clauses (left d s) number (λ h. argued-of ws d t.opens p (count ts) (literal-read t) h) row (over.over d e)),
            refl,
          );
      cells_unchanged = refl;
    }

pub loop-i-init : goal.loop-i-init
loop-i-init c =
    let a = c.args in
    let same : c.into_iter-i-iterator.result ≡ c.tried-candidates.result = c.into_iter-i-iterator.ensures.into_iter_gives in
    record {
      store_length = refl;
      goal_cells = refl;
      same_clauses = ap (λ b. b.clauses) same ∙ c.tried-candidates.ensures.clauses;
      predicate = ap (λ b. b.p) same ∙ c.tried-candidates.ensures.predicate ∙ c.from-p.ensures;
      few = subst (λ b. length b.numbers.now ≤ 8192) (sym same) c.tried-candidates.ensures.few;
      counted = λ k e.
          let at : k ≡ a.base = cc in
          omega (arith, subst (λ b. length b.numbers.now ≤ 8192) (sym same) c.tried-candidates.ensures.few);
      going = λ d g before p ts after t.
          let q : c.from-p.result ≡ p = c.from-p.ensures ∙ (literal-cell t.calls).1 in
          let todo : left d c.into_iter-i-iterator.result ≡ tried ts (clauses_about p d.clauses) =
          ap (left d) same ∙ c.tried-candidates.ensures.tried d ts t.opens (ap row_of_symbol t.first ∙ row-leads ts) ∙ ap (λ x. tried ts (clauses_about x d.clauses)) q in
          let by = resolvent a.attempt.offset g.answer_terms before ts after in
          let all = resolvents d.clauses g before p ts after in
          rw todo
          (going-first by a.attempt.offset ts all (sum_of d g p ts) a.store.now a.base a.left (tried ts (clauses_about p d.clauses))
          (resolvents-by d.clauses g before p ts after a.attempt.offset t.calls.fresh) (sum_by d g p ts a.attempt.offset t.calls.fresh));
    }

-- What the call says of the clause, where the goal's cells are what they were.
attempt : (k : goal.After-try_clause) (d : Deck) (g : Goal) (before : List Literal) (p : ℕ) (ts : Terms) (after : List Literal) (c : Clause)
    → let a = k.args in
    Tries a.clauses.now.deck.words.now a.work.now.cells.now a.attempt d g before p ts after → ClauseAt d.clauses k.in-Some.i c
    → IsAttempt (resolvent a.attempt.offset g.answer_terms before ts after c) (equations_of a.attempt.offset ts c) k.loop-i.rest k.try_clause.new.work.draft.child k.try_clause.result
attempt k d g before p ts after c t place =
    let h = k.loop-i.invariant in
    k.try_clause.ensures.attempt d g before p ts after c (tries-kept k.loop-i.work.cells.now h.goal_cells t) place

pub try_clause-requires : goal.try_clause-requires
try_clause-requires c =
    let t = c.requires.some_tries in
    let h = c.loop-i.invariant in
    let n = clause-count c.args.clauses.now.deck.words.now t.deck t.is.opens in
    let k = (goal.at.try_clause-requires c).In-Some in
    record {
      some_tries = record {
        deck = t.deck;
        goal = t.goal;
        before = t.before;
        predicate = t.predicate;
        terms = t.terms;
        after = t.after;
        is = tries-kept c.loop-i.work.cells.now h.goal_cells t.is;
      };
      about_call = λ d g before p ts after c' t place.
          let r = clause k d g before p ts after (tries-kept c.args.work.now.cells.now (sym h.goal_cells) t) in
          let place' : drop c.in-Some.i d.clauses ≡ r.clause ∷ drop (c.in-Some.i + 1) d.clauses = r.at in
          let same : c' ≡ r.clause = cc in
          ap (λ (x : Clause). x.predicate) same ∙ r.is_about;
      i_in_bounds =
          let r = clause k t.deck t.goal t.before t.predicate t.terms t.after t.is in
          omega (arith, n, ap length r.at, length-drop c.in-Some.i t.deck.clauses, length-drop (c.in-Some.i + 1) t.deck.clauses);
    }

pub returns-in_err-given : goal.returns-in_err-given
returns-in_err-given c =
    let k = (goal.at.returns-in_err-given c).After-try_clause in
    let a = c.args in
    let h = c.loop-i.invariant in
    record {
      writes = λ d g before p ts after t.
          let r = clause (goal.at.returns-in_err-given c).In-Some d g before p ts after t in
          let by = resolvent a.attempt.offset g.answer_terms before ts after in
          let all = resolvents d.clauses g before p ts after in
          let unpaid = going-unpaid by a.attempt.offset ts all (sum_of d g p ts) a.store.now a.base a.left r.clause (left d c.next.new.self) r.first (h.going d g before p ts after t)
          (subst (IsAttempt (by r.clause) (equations_of a.attempt.offset ts r.clause) c.loop-i.rest c.try_clause.new.work.draft.child) c.in_err-given.was (attempt k d g before p ts after r.clause t r.at)) in
          rw c.from_residual.ensures unpaid;
      cells_unchanged = c.try_clause.ensures.cells_unchanged ∙ h.goal_cells;
    }

-- The goals' end is far below the greatest number.
far : (k : goal.After-try_clause) (e : ℕ) → k.loop-i.held ≡ Some e → e + 1024 < 18446744073709551616
far k e q = omega (arith, k.loop-i.invariant.counted e q, k.requires.base)

-- What the clause gives, and what is left, where its unification was not broken off.
gave : (k : goal.After-try_clause) (given : Resolved) (l : ℕ) → k.try_clause.result ≡ Some (given, l)
    → (d : Deck) (g : Goal) (before : List Literal) (p : ℕ) (ts : Terms) (after : List Literal) (c : Clause)
    → let a = k.args in
    Tries a.clauses.now.deck.words.now a.work.now.cells.now a.attempt d g before p ts after → ClauseAt d.clauses k.in-Some.i c
    → (equations_of a.attempt.offset ts c + l ≡ k.loop-i.rest) × IsResolvent (resolvent a.attempt.offset g.answer_terms before ts after c) k.try_clause.new.work.draft.child given
gave k given l e d g before p ts after c t place =
    let n = k.args.attempt.offset in
    subst (IsAttempt (resolvent n g.answer_terms before ts after c) (equations_of n ts c) k.loop-i.rest k.try_clause.new.work.draft.child) e (attempt k d g before p ts after c t place)

pub put_child-held-requires : goal.put_child-held-requires
put_child-held-requires c =
    let k = (goal.at.put_child-held-requires c).After-try_clause in
    let t = c.requires.some_tries in
    let r = clause (goal.at.put_child-held-requires c).In-Some t.deck t.goal t.before t.predicate t.terms t.after t.is in
    given-fits (resolvent c.args.attempt.offset t.goal.answer_terms t.before t.terms t.after r.clause) c.try_clause.new.work.draft.child c.in_ok-given.given c.loop-i.held
    (gave k c.in_ok-given.given c.in_ok-given.l c.in_ok-given.was t.deck t.goal t.before t.predicate t.terms t.after r.clause t.is r.at).1
    (far k)

pub loop-i-preserved : goal.loop-i-preserved
loop-i-preserved c =
    let k = (goal.at.loop-i-preserved c).After-try_clause in
    let some = (goal.at.loop-i-preserved c).In-Some in
    let a = c.args in
    let h = c.loop-i in
    let x = c.put_child-held in
    let draft = c.try_clause.new.work.draft.child in
    let given = c.in_ok-given.given in
    let rest = c.in_ok-given.l in
    let steps = c.next.ensures.steps in
    let s = h.i-iterator in
    let s' = c.next.new.self in
    let t₀ = c.requires.some_tries in
    let r₀ = clause some t₀.deck t₀.goal t₀.before t₀.predicate t₀.terms t₀.after t₀.is in
    let same : length s'.numbers.now ≡ length s.numbers.now = ap (λ b. length b.now) steps.numbers in
    let later : s.next < s'.next = subst (λ o. IfSome o (λ i. s.next < s'.next)) c.in-Some.is steps.later in
    record {
      store_length = placed-length h.store draft x.new.store x.result h.held given x.ensures ∙ h.invariant.store_length;
      goal_cells = c.try_clause.ensures.cells_unchanged ∙ h.invariant.goal_cells;
      same_clauses = steps.clauses ∙ h.invariant.same_clauses;
      predicate = steps.predicate ∙ h.invariant.predicate;
      few = omega (arith, same, h.invariant.few);
      counted = λ e q.
          let most = placed-few h.store draft x.new.store x.result (resolvent a.attempt.offset t₀.goal.answer_terms t₀.before t₀.terms t₀.after r₀.clause) h.held given
          (a.base + 1024 * 8192 - 1024 * (length s'.numbers.now - s'.next)) (gave k given rest c.in_ok-given.was t₀.deck t₀.goal t₀.before t₀.predicate t₀.terms t₀.after r₀.clause t₀.is r₀.at).1
          x.ensures (λ e' q'. omega (arith, h.invariant.counted e' q', same, later, s'.next_in)) e q in
          omega (arith, most, same, h.invariant.few);
      going = λ d g before p ts after t.
          let r = clause some d g before p ts after t in
          let by = resolvent a.attempt.offset g.answer_terms before ts after in
          let all = resolvents d.clauses g before p ts after in
          let v = gave k given rest c.in_ok-given.was d g before p ts after r.clause t r.at in
          going_on by a.attempt.offset ts all (sum_of d g p ts) a.store.now a.base a.left r.clause (left d s') r.first (h.invariant.going d g before p ts after t) draft given rest v.0 v.1
          h.invariant.store_length x.new.store x.result x.ensures;
    }

pub returns : goal.returns
returns c =
    let a = c.args in
    let h = c.loop-i in
    let s = h.i-iterator in
    record {
      writes = λ d g before p ts after t.
          let e = ap (λ c. open_deck c.deck.words.now) h.invariant.same_clauses ∙ t.opens in
          let none : left d s ≡ [] = subst (λ o. Leaves d.clauses s.p (left d s) o (left d c.next.new.self)) c.in-None.is (c.next.ensures.steps.leaves d e) in
          going-last (resolvent a.attempt.offset g.answer_terms before ts after) a.attempt.offset ts (resolvents d.clauses g before p ts after) (sum_of d g p ts) a.store.now a.base a.left
          (rw none at (h.invariant.going d g before p ts after t));
      cells_unchanged = h.invariant.goal_cells;
    }
