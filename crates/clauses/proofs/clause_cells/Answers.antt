-- `clause_cells` meets its contract: the deck's row i is the writing of clause i. Assumes nothing.
use mathlib.Core.Path.{◌≡◌, ap, ◌∙◌}
use Rattle.rules.specs.Decks.{write_clause}
use Rattle.clauses.proofs.ClauseLaws.{clause-of}
use Rattle.clauses.proofs.clause_cells.Goals as goal

pub returns : goal.returns
returns c d c' e place =
    let r = clause-of c.args.deck.now.words.now d c.args.i e c.requires in
    let same : r.clause ≡ c' = cc in
    c.clause.ensures ∙ r.cells ∙ ap write_clause same
