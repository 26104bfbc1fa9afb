-- `are_over` meets its contract. Assumes nothing.
use Rattle.std.proofs.Common.{arith}
use borrow.Author.Tests.{ltb-true, ltb-false}
use Rattle.deck.proofs.OpenLaws.{accepted-deck}
use Rattle.derivation.proofs.are_over.Goals as goal

pub returns-in-Some : goal.returns-in-Some
returns-in-Some c =
    let r = c.in-Some.ensures in
    let deck = c.args.candidates.now.clauses.deck in
    let d = accepted-deck deck.words.now deck.opens in
    record {
      over = λ e. record {
        row = r.row;
        is = r.is;
        over = λ d o. omega (arith, ltb-true c.args.left c.in-Some.n e, r.many d o);
      };
      within = λ e x. omega (arith, ltb-false c.args.left c.in-Some.n e, r.many d.0 d.1, x.over d.0 d.1);
    }

pub returns-in-None : goal.returns-in-None
returns-in-None c = record { over = λ e. cc; within = λ e x. cc (x.is, c.in-None.ensures) }
