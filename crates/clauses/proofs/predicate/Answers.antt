-- `predicate` meets its contract: the first cell of a clause is its predicate. Assumes nothing.
use Rattle.deck.proofs.OpenLaws.{accepted-deck}
use Rattle.clauses.proofs.ClauseLaws.{clause-of, first_cell}
use Rattle.clauses.proofs.predicate.Goals as goal

pub bounds-clause_cells-0 : goal.bounds-clause_cells-0
bounds-clause_cells-0 c =
    let ws = c.args.deck.now.words.now in
    let d = accepted-deck ws c.args.deck.now.opens in
    let r = clause-of ws d.0 c.args.i d.1 c.requires in
    (first_cell c.clause_cells.result.now r.clause (c.clause_cells.ensures d.0 r.clause d.1 r.place)).0

pub returns : goal.returns
returns c d c' e at = (first_cell _ c' (c.clause_cells.ensures d c' e at)).1
