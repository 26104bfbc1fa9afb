-- `clause_tight`: a clause has a first cell, and what the walk over the others says is said of the clause.
use Prim.Native.Nat.{◌≤◌}
use native.Mathlib.Omega.{arith}
use lib.ListN.{length}
use Rattle.deck.proofs.OpenLaws.{accepted-deck}
use Rattle.clauses.proofs.ClauseLaws.{clause-of, first_cell}
use Rattle.loose.proofs.LooseLaws.{clause-result}
use Rattle.loose.proofs.clause_tight.Goals as goal
use Rattle.loose.proofs.clause_tight.Goals.{After-clause_cells-cells}

-- There is a first cell.
some-cell : (c : goal.After-clause_cells-cells) → 1 ≤ length c.clause_cells-cells.result.now
some-cell c =
    let ws = c.args.deck.now.words.now in
    let d = accepted-deck ws c.args.deck.now.opens in
    let r = clause-of ws d.0 c.args.i d.1 c.requires.in_bounds in
    omega (arith, (first_cell _ r.clause (c.clause_cells-cells.ensures d.0 r.clause d.1 r.place)).0)

pub slice_bounds-tight-count : goal.slice_bounds-tight-count
slice_bounds-tight-count c = some-cell (goal.at.slice_bounds-tight-count c).After-clause_cells-cells

pub slice_bounds-tight-start : goal.slice_bounds-tight-start
slice_bounds-tight-start c = omega (arith, some-cell (goal.at.slice_bounds-tight-start c).After-clause_cells-cells)

pub returns : goal.returns
returns c = (
  λ d k o place. clause-result c.args.deck.now.words.now d o c.args.i k _ _ c.tight.result place c.symbols.ensures (c.clause_cells-cells.ensures d k o place) c.tight.ensures.0,
  c.tight.ensures.1,
)
