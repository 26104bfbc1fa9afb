-- `check`: the two tests, in the order of the refusals.
use mathlib.Core.Path.{refl}
use Rattle.loose.proofs.LooseLaws.{loose-clause, loose-query, none-loose}
use Rattle.loose.proofs.check.Goals as goal

pub returns-then-not-clauses_tight : goal.returns-then-not-clauses_tight
returns-then-not-clauses_tight c d q o r =
    let t = c.clauses_tight in
    loose-clause d q t.result _ (t.ensures d o) refl c.if-not-clauses_tight.true

pub returns-then-not-query_tight : goal.returns-then-not-query_tight
returns-then-not-query_tight c d q o r =
    let t = c.clauses_tight in
    let u = c.query_tight in
    loose-query d q t.result u.result (t.ensures d o) (u.ensures d q o r) c.if-not-clauses_tight.false c.if-not-query_tight.true

pub returns : goal.returns
returns c d q o r =
    let t = c.clauses_tight in
    let u = c.query_tight in
    none-loose d q t.result u.result (t.ensures d o) (u.ensures d q o r) c.if-not-clauses_tight.false c.if-not-query_tight.false
