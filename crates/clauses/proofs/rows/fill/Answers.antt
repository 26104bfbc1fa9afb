-- `fill` meets its contract. Assumes nothing.
use Rattle.std.proofs.Common.{◌≡◌, ◌+◌, ◌-◌, ◌*◌, ◌/◌, ◌<◌, ◌∷◌, length, length-drop, length-take, get_or, drop, ap, ◌∙◌, arith}
use Rattle.rules.specs.Syntax.{Clause, Deck}
use Rattle.rules.specs.Refusals.{accepted}
use Rattle.rules.specs.Decks.{open_deck}
use Rattle.rules.specs.Resolution.{clauses_about, row_of}
use Rattle.rules.proofs.DeckLaws.{opened-written}
use Rattle.deck.proofs.OpenLaws.{accepted-deck}
use Rattle.clauses.specs.Rows.{row_words, row_of_cell}
use Rattle.clauses.proofs.ClauseLaws.{clause-count, clause-at}
use Rattle.clauses.proofs.GroupLaws.{numbers-nth}
use Rattle.clauses.proofs.RowLaws.{head-cell, rowing_none, rowing-more, rowing-all}
use Rattle.clauses.proofs.rows.fill.Goals as goal
use Rattle.clauses.proofs.rows.fill.Goals.{After-clause_cells}

-- The clause at the place: its second cell is that which its first argument starts with.
head : (k : goal.After-clause_cells) (d : Deck) → open_deck k.args.deck.now.words.now ≡ accepted d
    → (c : Clause) × (drop k.loop-k.k (clauses_about k.args.p d.clauses) ≡ c ∷ drop (k.loop-k.k + 1) (clauses_about k.args.p d.clauses))
    × (1 < length k.clause_cells.result.now) × (row_of_cell (get_or k.clause_cells.result.now 1 0) ≡ row_of c.arguments)
head k d e =
    let r = numbers-nth k.args.p d.clauses k.args.numbers.now k.loop-k.k k.from.result (k.requires.numbers d e) k.loop-k-test.true k.from.ensures in
    let w = clause-at d.symbols d.clauses k.from.result r.clause (opened-written k.args.deck.now.words.now d e).1.clauses r.at in
    let h = head-cell d.symbols r.clause k.clause_cells.result.now w ((k.requires.argued d e).some k.from.result r.clause r.at r.is-about) (k.clause_cells.ensures d r.clause e r.at) in
    (r.clause, r.here, h.0, h.1)

pub clause_cells-requires : goal.clause_cells-requires
clause_cells-requires c =
    let ws = c.args.deck.now.words.now in
    let d = accepted-deck ws c.args.deck.now.opens in
    let r = numbers-nth c.args.p d.0.clauses c.args.numbers.now c.loop-k.k c.from.result (c.requires.numbers d.0 d.1) c.loop-k-test.true c.from.ensures in
    omega (arith, ap length r.at, length-drop c.from.result d.0.clauses, length-drop (c.from.result + 1) d.0.clauses, clause-count ws d.0 d.1)

pub bounds-clause_cells-1 : goal.bounds-clause_cells-1
bounds-clause_cells-1 c =
    let ws = c.args.deck.now.words.now in
    let d = accepted-deck ws c.args.deck.now.opens in
    (head (goal.at.bounds-clause_cells-1 c).After-clause_cells d.0 d.1).2

pub loop-k-init : goal.loop-k-init
loop-k-init c d e =
    let a = c.args in
    rowing_none (clauses_about a.p d.clauses) a.rows.now (c.requires.room ∙ ap row_words (c.requires.numbers d e).many) c.requires.unset

pub loop-k-preserved : goal.loop-k-preserved
loop-k-preserved c d e =
    let a = c.args in
    let l = c.loop-k in
    let r = head (goal.at.loop-k-preserved c).After-clause_cells d e in
    let n : 16 * (l.k / 64) + 16 - 16 * (l.k / 64) ≡ 16 = omega arith in
    let x = l.invariant d e in
    let long : length c.mark.new.block ≡ 16 =
    omega (
      arith,
      c.mark.auto.block,
      length-take (16 * (l.k / 64) + 16 - 16 * (l.k / 64)) (drop (16 * (l.k / 64)) l.rows),
      length-drop (16 * (l.k / 64)) l.rows,
      x.size,
      (c.requires.numbers d e).many,
    ) in
    rw n
    (rowing-more (clauses_about a.p d.clauses) l.k (get_or c.clause_cells.result.now 1 0) r.0 r.1 r.3 l.rows c.mark.new.block long x
    (rw n at c.mark.ensures))

pub returns : goal.returns
returns c d e = rowing-all (clauses_about c.args.p d.clauses) c.loop-k.k c.loop-k.rows (omega (arith, (c.requires.numbers d e).many)) (c.loop-k.invariant d e)
