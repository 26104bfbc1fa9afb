-- `raise_all` meets its contract. Assumes nothing.
use Rattle.std.proofs.Common.{subst, arith}
use Rattle.clauses.proofs.ClauseLaws.{clause-of, clause-count}
use Rattle.ranks.specs.Raising.{Stepped}
use Rattle.ranks.proofs.RaiseLaws.{done-start, done-same, done-raised, done-above, done_end}
use Rattle.ranks.proofs.raising.raise_all.Goals as goal
use Rattle.ranks.proofs.raising.raise_all.Goals.{in-Raised, in-Same}

pub loop-i-init : goal.loop-i-init
loop-i-init c = (c.requires, λ d e. done-start d.clauses c.args.words.now)

pub returns-in-Above-clause-passed : goal.returns-in-Above-clause-passed
returns-in-Above-clause-passed c d e =
    let l = c.loop-i in
    let r = clause-of c.args.deck.now.words.now d l.i e (omega (arith, c.clause_count-i-end.ensures, c.loop-i-test.true)) in
    done-above d.clauses c.args.words.now l.words _ l.done l.i r.clause (l.invariant.1 d e)
    (subst (Stepped d.clauses r.clause l.words _) c.in-Above.is (c.raise.ensures.stepped d r.clause e r.place))

pub loop-i-preserved : goal.loop-i-preserved
loop-i-preserved c =
    let l = c.loop-i in (
      c.raise.ensures.length,
      λ d e.
          let r = clause-of c.args.deck.now.words.now d l.i e (omega (arith, c.clause_count-i-end.ensures, c.loop-i-test.true)) in
          let w = c.raise.ensures.stepped d r.clause e r.place in
          elim c.match-raise.branch [
            | in-Raised m ↦
                rw m.done-is
                (done-raised d.clauses c.args.words.now l.words _ l.done l.i r.clause r.place (l.invariant.1 d e) (subst (Stepped d.clauses r.clause l.words _) m.in-Raised.is w))
            | in-Same m ↦
                rw m.done-is
                (done-same d.clauses c.args.words.now l.words _ l.done l.i r.clause r.place (l.invariant.1 d e) (subst (Stepped d.clauses r.clause l.words _) m.in-Same.is w))
          ],
    )

pub returns : goal.returns
returns c =
    let l = c.loop-i in
    record {
      length = l.invariant.0;
      passed = λ d e.
          done_end d.clauses c.args.words.now l.words l.done l.i
          (omega (arith, c.clause_count-i-end.ensures, clause-count c.args.deck.now.words.now d e, c.loop-i-test.false)) (l.invariant.1 d e);
    }
