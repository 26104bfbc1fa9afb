-- `clauses::fit`: each row is a clause.
use Rattle.std.proofs.Common.{length, refl, arith, rules, tests}
use Rattle.std.proofs.iter.Yields.{nat_range_steps}
use Rattle.std.specs.List.{range_with_len}
use Rattle.std.proofs.lemmas.Iterator.{YieldsList, YieldsList-from_range}
use Rattle.std.proofs.lemmas.Iterator.Search.{all_from_yields_List}
use Rattle.rules.specs.Decks.{read_all, read_clause}
use Rattle.deck.specs.Answers.{found}
use Rattle.deck.specs.Kinds.{symbols_of}
use Rattle.deck.specs.Rows.{row_at}
use Rattle.deck.proofs.BoolLaws.{found-cons}
use Rattle.deck.proofs.RowLaws.{each-row}
use Rattle.deck.proofs.clauses.fit.Goals as goal

pub returns : goal.returns
unfolding found read_all
returns c =
    let rows = c.args.rows.now in
    let n = length rows.starts.now in
    let numbers : YieldsList nat_range_steps (λ x. x) (record { start = 0; end = n }) (range_with_len 0 n) = YieldsList-from_range 0 n n refl (omega arith) in
    let read = read_clause (symbols_of c.args.symbols.now) in
    each-row (λ row. found (read row)) (λ rows. found (read_all read rows)) refl (found-cons read) rows.cells.now rows.starts.now c.all.result
    (all_from_yields_List (λ i. found (read (row_at rows.cells.now rows.starts.now i))) _ _ c.all.result c.all.ensures.ran numbers (λ x b q k. search (rules, tests)))
