-- The shares, each at most 32 bytes, and two bytes more where two literals or more begin.
use Prim.Native.Nat.{◌≤◌}
use mathlib.Core.Path.{◌≡◌, refl}
use native.Mathlib.Omega.{arith}
use lib.ListN.{length}
use Rattle.rules.specs.Decks.{clause_words, term_cells}
use Rattle.deck.specs.Rows.{row_at}
use Rattle.writing.specs.Writes.{symbols_in}
use Rattle.writing.specs.Lengths.{row_bytes, literal_cells}
use Rattle.writing.proofs.DeckLaws.{known-symbols, clause-count, row-short}
use Rattle.writing.proofs.LengthLaws.{row-sum, row-short as cells-short, literals-count, body-none, body-some}
use Rattle.writing.proofs.lengths.clause_length.Goals as goal
use Rattle.writing.proofs.lengths.clause_length.Goals.{After-clause-cells, After-literal_count}

short : (c : After-clause-cells) → length c.clause-cells.result.now ≤ 256
short c =
    let ws = c.args.deck.now.words.now in
    row-short ws c.args.deck.now.opens c.args.i (omega (arith, c.requires, clause-count ws c.args.deck.now.opens)) c.clause-cells.result.now c.clause-cells.ensures

shares :
    (c : After-literal_count) → let row = row_at (term_cells c.args.deck.now.words.now) (clause_words c.args.deck.now.words.now) c.args.i in let S = symbols_in c.args.deck.now.words.now in
    (c.row_length-bytes.result ≡ row_bytes S row) × (row_bytes S row ≤ 8192) × (c.literal_count.result ≡ literal_cells S row)
shares c =
    let ws = c.args.deck.now.words.now in
    let S = symbols_in ws in
    let row = row_at (term_cells ws) (clause_words ws) c.args.i in
    let r = rw c.clause-cells.ensures at c.row_length-bytes.ensures in
    let n = rw c.clause-cells.ensures at c.literal_count.ensures in
    let l = row-short ws c.args.deck.now.opens c.args.i (omega (arith, c.requires, clause-count ws c.args.deck.now.opens)) row refl in
    (omega (arith, r, row-sum S row), omega (arith, cells-short S (known-symbols ws c.args.deck.now.opens) row, l), omega (arith, n, literals-count S row))

pub row_length-bytes-requires : goal.row_length-bytes-requires
row_length-bytes-requires c = short (goal.at.row_length-bytes-requires c).After-clause-cells

pub overflow_add-result : goal.overflow_add-result
overflow_add-result c = let s = shares (goal.at.overflow_add-result c).After-literal_count in omega (arith, s.0, s.1)

pub returns-then-literal_count-lt2 : goal.returns-then-literal_count-lt2
returns-then-literal_count-lt2 c =
    let s = shares (goal.at.returns-then-literal_count-lt2 c).After-literal_count in
    let ws = c.args.deck.now.words.now in
    (omega (arith, s.0, body-none (literal_cells (symbols_in ws) (row_at (term_cells ws) (clause_words ws) c.args.i)) (omega (arith, s.2, c.if-literal_count-lt2.true))), omega (arith, s.0, s.1))

pub returns : goal.returns
returns c =
    let s = shares (goal.at.returns c).After-literal_count in
    let ws = c.args.deck.now.words.now in
    (omega (arith, s.0, body-some (literal_cells (symbols_in ws) (row_at (term_cells ws) (clause_words ws) c.args.i)) (omega (arith, s.2, c.if-literal_count-lt2.false))), omega (arith, s.0, s.1))
