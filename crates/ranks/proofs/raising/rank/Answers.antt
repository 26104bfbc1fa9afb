-- `rank` meets its contract. Assumes nothing.
use Rattle.std.proofs.Common.{◌≡◌, ◌+◌, suc, ap, subst, arith, length}
use Rattle.ranks.specs.Raising.{Passed}
use Rattle.ranks.proofs.ClauseFacts.{heads-few}
use Rattle.ranks.proofs.RaiseLaws.{borne-raises, borne-zero, late-rise, high-rise, pass-rounds, rounds-start, settled}
use Rattle.ranks.proofs.raising.rank.Goals as goal

pub loop-k-init : goal.loop-k-init
loop-k-init c = (
  c.requires.0,
  λ d e. record { borne = borne-zero d.clauses c.args.words.now c.requires.1; least = rounds-start d.clauses c.args.words.now; late = λ h. absurd (omega arith) },
)

pub returns-in-Same-clause-ranks : goal.returns-in-Same-clause-ranks
returns-in-Same-clause-ranks c d e =
    let l = c.loop-k in
    let w = subst (Passed d.clauses l.words c.raise_all.new.words) c.in-Same.is (c.raise_all.ensures.passed d e) in
    rw w.0 (settled d.clauses l.words (l.invariant.1 d e).borne (rw w.0 at w.1))

pub returns-in-Above-clause-ranks : goal.returns-in-Above-clause-ranks
returns-in-Above-clause-ranks c d e =
    let l = c.loop-k in
    let w = subst (Passed d.clauses l.words c.raise_all.new.words) c.in-Above.is (c.raise_all.ensures.passed d e) in
    high-rise d.clauses c.raise_all.new.words (heads-few c.args.deck.now.words.now d e).1 (borne-raises d.clauses w.0 (l.invariant.1 d e).borne) w.1

pub loop-k-preserved : goal.loop-k-preserved
loop-k-preserved c =
    let l = c.loop-k in (
      c.raise_all.ensures.length,
      λ d e.
          let w = subst (Passed d.clauses l.words c.raise_all.new.words) c.in-Raised.is (c.raise_all.ensures.passed d e) in
          let r = l.invariant.1 d e in
          let up : l.k + 1 ≡ suc l.k = omega arith in
          record {
            borne = borne-raises d.clauses w.0 r.borne;
            least = rw up (pass-rounds d.clauses l.k l.words c.raise_all.new.words r.least w.1);
            late = λ h. late-rise d.clauses l.k l.words c.raise_all.new.words (omega (arith, (heads-few c.args.deck.now.words.now d e).0)) r.least (borne-raises d.clauses w.0 r.borne) w.2;
          },
    )

pub returns-clause-ranks : goal.returns-clause-ranks
returns-clause-ranks c d e = (c.loop-k.invariant.1 d e).late (omega (arith, c.loop-k-test.false, ap length c.symbols.ensures))
