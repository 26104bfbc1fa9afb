-- `raise` meets its contract: one clause. Assumes nothing.
use Rattle.std.proofs.Common.{◌≡◌, ◌<◌, ◌∙◌, arith}
use Rattle.rules.specs.Syntax.{Deck, Clause}
use Rattle.rules.specs.Refusals.{accepted}
use Rattle.rules.specs.Decks.{open_deck}
use Rattle.deck.proofs.OpenLaws.{accepted-deck}
use Rattle.clauses.specs.Clauses.{ClauseAt}
use Rattle.clauses.proofs.ClauseLaws.{first_cell}
use Rattle.ranks.proofs.ClauseFacts.{Known, known}
use Rattle.ranks.proofs.RaiseLaws.{step_same, step-above, step-raised}
use Rattle.ranks.proofs.raising.raise.Goals as goal
use Rattle.ranks.proofs.raising.raise.Goals.{After-clause_cells, After-from-p}

-- Clause i.
clause : (c : goal.After-clause_cells) → Known c.args.deck.now.words.now (accepted-deck c.args.deck.now.words.now c.args.deck.now.opens).0 c.args.i c.clause_cells.result.now
clause c =
    let ws = c.args.deck.now.words.now in
    let d = accepted-deck ws c.args.deck.now.opens in
    known ws d.0 c.args.i c.clause_cells.result.now d.1 c.requires.1 c.clause_cells.ensures

-- Its predicate.
head : (c : goal.After-from-p) (d : Deck) (b : Clause) → open_deck c.args.deck.now.words.now ≡ accepted d → ClauseAt d.clauses c.args.i b → c.from-p.result ≡ b.predicate
head c d b e p = c.from-p.ensures ∙ (first_cell _ b (c.clause_cells.ensures d b e p)).1

small : (c : goal.After-from-p) → Known c.args.deck.now.words.now (accepted-deck c.args.deck.now.words.now c.args.deck.now.opens).0 c.args.i c.clause_cells.result.now → c.from-p.result < 4096
small c k = omega (arith, c.from-p.ensures, k.head, k.small)

pub bounds-clause_cells-0 : goal.bounds-clause_cells-0
bounds-clause_cells-0 c = (clause (goal.at.bounds-clause_cells-0 c).After-clause_cells).some

pub bounds-words-p : goal.bounds-words-p
bounds-words-p c =
    omega (arith, small (goal.at.bounds-words-p c).After-from-p (clause (goal.at.bounds-words-p c).After-clause_cells), c.requires.0)

pub returns-then-best-from-clause-stepped : goal.returns-then-best-from-clause-stepped
returns-then-best-from-clause-stepped c d b e p =
    step_same d.clauses c.args.words.now c.args.i b p c.greatest-best.result c.from-p.result (c.greatest-best.ensures d b e p)
    (head (goal.at.returns-then-best-from-clause-stepped c).After-from-p d b e p) (omega (arith, c.if-best-from.true, c.from.ensures))

pub returns-then-best-gt4096-clause-stepped : goal.returns-then-best-gt4096-clause-stepped
returns-then-best-gt4096-clause-stepped c d b e p =
    let at = goal.at.returns-then-best-gt4096-clause-stepped c in
    step-above d.clauses c.args.words.now c.args.i b p c.greatest-best.result c.from-p.result (c.greatest-best.ensures d b e p) (head at.After-from-p d b e p)
    (omega (arith, small at.After-from-p (clause at.After-clause_cells), c.requires.0)) (omega (arith, c.if-best-from.false, c.from.ensures)) c.if-best-gt4096.true

pub bounds-words-p-2 : goal.bounds-words-p-2
bounds-words-p-2 c =
    omega (arith, small (goal.at.bounds-words-p-2 c).After-from-p (clause (goal.at.bounds-words-p-2 c).After-clause_cells), c.requires.0)

pub returns-clause-stepped : goal.returns-clause-stepped
returns-clause-stepped c d b e p =
    let at = goal.at.returns-clause-stepped c in
    step-raised d.clauses c.args.words.now c.args.i b p c.greatest-best.result c.from-p.result (c.greatest-best.ensures d b e p) (head at.After-from-p d b e p)
    (omega (arith, small at.After-from-p (clause at.After-clause_cells), c.requires.0)) (omega (arith, c.if-best-from.false, c.from.ensures))
