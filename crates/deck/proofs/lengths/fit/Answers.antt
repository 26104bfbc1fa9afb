-- `lengths::fit`: each row is short.
use Rattle.std.proofs.Common.{leb, length, refl, arith, rules, tests}
use Rattle.std.proofs.iter.Yields.{nat_range_steps}
use Rattle.std.specs.List.{range_with_len}
use Rattle.std.proofs.lemmas.Iterator.{YieldsList, YieldsList-from_range}
use Rattle.std.proofs.lemmas.Iterator.Search.{all_from_yields_List}
use Rattle.rules.specs.Decks.{rows_short}
use Rattle.deck.specs.Rows.{row_at}
use Rattle.deck.proofs.RowLaws.{each-row}
use Rattle.deck.proofs.lengths.fit.Goals as goal

pub returns : goal.returns
unfolding rows_short
returns c =
    let rows = c.args.rows.now in
    let n = length rows.starts.now in
    let numbers : YieldsList nat_range_steps (λ x. x) (record { start = 0; end = n }) (range_with_len 0 n) = YieldsList-from_range 0 n n refl (omega arith) in
    each-row (λ row. leb (length row) 256) rows_short refl (λ row rows. refl) rows.cells.now rows.starts.now c.all.result
    (all_from_yields_List (λ i. leb (length (row_at rows.cells.now rows.starts.now i)) 256) _ _ c.all.result c.all.ensures.ran numbers (λ x b q k. search (rules, tests)))
