-- `next` meets its contract. Assumes nothing.
use Rattle.std.proofs.Common.{IfSome, length, refl, ap, sym, ◌∙◌, subst, arith}
use Rattle.deck.proofs.OpenLaws.{accepted-deck}
use Rattle.rules.specs.Resolution.{clauses_about}
use Rattle.clauses.specs.Rows.{row_words, RowsOf}
use Rattle.clauses.specs.declared.rows.Row.{Row}
use Rattle.clauses.proofs.TriedLaws.{NextPlace, few-places, step-later, step_none, step-given}
use Rattle.clauses.proofs.tried.TriedIterator.next.Goals as goal
use Rattle.clauses.proofs.tried.TriedIterator.next.Goals.{in-Some, in-None}

pub next_one-k-requires-clause-room : goal.next_one-k-requires-clause-room
next_one-k-requires-clause-room c =
    let s = c.args.self.now in
    let d = accepted-deck s.clauses.deck.words.now s.clauses.deck.opens in
    let r = subst (λ o. IfSome o (λ (x : Row). RowsOf (clauses_about s.p d.0.clauses) x.words.now)) c.in-Some.is (s.rows_about d.0 d.1) in
    r.room ∙ ap row_words (sym (s.numbers_about d.0 d.1).many)

pub next_one-k-requires-clause-few : goal.next_one-k-requires-clause-few
next_one-k-requires-clause-few c = few-places c.args.self.now

pub next_one-k-requires-clause-k_in : goal.next_one-k-requires-clause-k_in
next_one-k-requires-clause-k_in c = omega (arith, few-places c.args.self.now, c.args.self.now.next_in)

pub returns-in_err-i-clause-steps : goal.returns-in_err-i-clause-steps
returns-in_err-i-clause-steps c =
    let s = c.args.self.now in
    let k = c.match-self.k in
    let place : NextPlace s.row (length s.numbers.now) s.next k =
    elim c.match-self.branch [ in-Some w ↦ rw (w.in-Some.is, w.k-is) w.next_one-k.ensures | in-None w ↦ rw (w.in-None.is, w.k-is) refl ] in
    rw c.from_residual.ensures
    record {
      clauses = refl;
      predicate = refl;
      numbers = refl;
      later = tt;
      leaves = λ d e. step_none s k place d e c.in_err-i.ensures.lookup.3;
    }

pub returns-clause-steps : goal.returns-clause-steps
returns-clause-steps c =
    let s = c.args.self.now in
    let k = c.match-self.k in
    let found = c.in_ok-i.ensures.lookup in
    let place : NextPlace s.row (length s.numbers.now) s.next k =
    elim c.match-self.branch [ in-Some w ↦ rw (w.in-Some.is, w.k-is) w.next_one-k.ensures | in-None w ↦ rw (w.in-None.is, w.k-is) refl ] in
    record {
      clauses = refl;
      predicate = refl;
      numbers = refl;
      later = omega (arith, step-later s k place);
      leaves = λ d e. step-given s k place d e c.from.result found.3.0 (c.from.ensures ∙ found.3.1 0);
    }
