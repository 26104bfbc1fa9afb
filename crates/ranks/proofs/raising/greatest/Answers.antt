-- `greatest` meets its contract. Assumes nothing.
use Prim.Native.Nat.{ℕ, max}
use Rattle.std.specs.Ordering.{ord_max, nat_cmp}
use Rattle.std.proofs.lemmas.Bool.Decides.{nat_tests}
use Rattle.std.proofs.Common.{◌≡◌, ◌-◌, length, take, drop, ap, ◌∙◌, arith, rules}
use Rattle.rules.specs.Ranks.{greatest}
use Rattle.rules.proofs.FlatLaws.{beginning}
use Rattle.deck.specs.Kinds.{symbols_of}
use Rattle.deck.proofs.OpenLaws.{accepted-deck}
use Rattle.ranks.specs.Raising.{number}
use Rattle.ranks.proofs.ValueLaws.{best-more, cells-end}
use Rattle.ranks.proofs.ClauseFacts.{Known, known, symbols-few, body-part, clause-value}
use Rattle.ranks.proofs.raising.greatest.Goals as goal
use Rattle.ranks.proofs.raising.greatest.Goals.{After-clause_cells}

-- `a.max(b)` as the lemmas say it.
max-is : (a b : ℕ) → ord_max nat_cmp a b ≡ max a b
max-is a b = grind (arith, nat_tests)

-- Clause i.
clause : (c : goal.After-clause_cells) → Known c.args.deck.now.words.now (accepted-deck c.args.deck.now.words.now c.args.deck.now.opens).0 c.args.i c.clause_cells.result.now
clause c =
    let ws = c.args.deck.now.words.now in
    let d = accepted-deck ws c.args.deck.now.opens in
    known ws d.0 c.args.i c.clause_cells.result.now d.1 c.requires.1 c.clause_cells.ensures

pub slice_bounds-body-count : goal.slice_bounds-body-count
slice_bounds-body-count c = omega (arith, (clause (goal.at.slice_bounds-body-count c).After-clause_cells).some)

pub slice_bounds-body-start : goal.slice_bounds-body-start
slice_bounds-body-start c = let s = (clause (goal.at.slice_bounds-body-start c).After-clause_cells).some in search rules

pub value-requires : goal.value-requires
value-requires c =
    let ws = c.args.deck.now.words.now in
    let d = accepted-deck ws c.args.deck.now.opens in
    (omega (arith, ap length c.symbols-symbols.ensures, symbols-few ws d.0 d.1), c.requires.0)

pub loop-cell-preserved : goal.loop-cell-preserved
loop-cell-preserved c =
    let l = c.loop-cell in
    let cells = take (length c.clause_cells.result.now - 1) (drop 1 c.clause_cells.result.now) in
    let m = best-more c.args.words.now (symbols_of c.symbols-symbols.result.now) cells l.cell-index l.best _ c.loop-cell-test.true l.invariant in
    rw (c.max-best.ensures ∙ max-is l.best c.value.result, c.value.ensures) m

pub returns : goal.returns
returns c d b e p =
    let l = c.loop-cell in
    let ws = c.args.deck.now.words.now in
    let cells = take (length c.clause_cells.result.now - 1) (drop 1 c.clause_cells.result.now) in
    let S = symbols_of c.symbols-symbols.result.now in
    let all : greatest (number c.args.words.now) (beginning S cells) ≡ greatest (number c.args.words.now) b.body =
    ap (λ x. greatest (number c.args.words.now) (beginning S x)) (body-part c.clause_cells.result.now)
    ∙ clause-value ws d c.args.i b _ _ c.args.words.now e p (c.clause_cells.ensures d b e p) c.symbols-symbols.ensures in
    omega (arith, l.invariant, all, cells-end (number c.args.words.now) S cells l.cell-index (omega (arith, c.loop-cell-test.false)))
