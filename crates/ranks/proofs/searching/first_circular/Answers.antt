-- `first_circular` meets its contract. Assumes nothing.
use Rattle.std.proofs.Common.{length, ap, subst, arith}
use Rattle.deck.proofs.OpenLaws.{accepted-deck}
use Rattle.ranks.specs.Searching.{CircleSays}
use Rattle.ranks.proofs.ClauseFacts.{symbols-few, heads-few}
use Rattle.ranks.proofs.RaiseLaws.{circle-head}
use Rattle.ranks.proofs.SearchLaws.{lower-more}
use Rattle.ranks.proofs.searching.first_circular.Goals as goal

pub overflow_cast-p : goal.overflow_cast-p
overflow_cast-p c =
    let ws = c.args.clauses.now.deck.words.now in
    let d = accepted-deck ws c.args.clauses.now.deck.opens in
    omega (arith, c.loop-s-test.true, ap length c.symbols-s-end.ensures, symbols-few ws d.0 d.1)

pub returns-then-is_circular : goal.returns-then-is_circular
returns-then-is_circular c d e = (subst (CircleSays d.clauses c.loop-s.s) c.if-is_circular.true (c.is_circular.ensures d e), c.loop-s.invariant d e)

pub loop-s-preserved : goal.loop-s-preserved
loop-s-preserved c d e =
    lower-more d.clauses c.loop-s.s (c.loop-s.invariant d e) (subst (CircleSays d.clauses c.loop-s.s) c.if-is_circular.false (c.is_circular.ensures d e))

pub returns : goal.returns
returns c d e q h =
    c.loop-s.invariant d e q
    (omega (arith, circle-head d.clauses q h, (heads-few c.args.clauses.now.deck.words.now d e).0, ap length c.symbols-s-end.ensures, c.loop-s-test.false)) h
