-- The refusals are the rules', in their order.
use Rattle.listing.specs.Printed.{file_of}
use Rattle.std.proofs.Common.{rules}
use Rattle.std.proofs.lemmas.Result.{err_from_is_err_and}
use Rattle.rules.specs.Preview.{open_copy}
use Rattle.deck.proofs.RefusalLaws.{number-accepts, number-refuses}
use Rattle.preview_program.proofs.PartLaws.{preview-deck, preview-copy, preview-query, preview-listed}
use Rattle.preview_program.proofs.asked.Goals as goal

pub returns-in_err-deck : goal.returns-in_err-deck
returns-in_err-deck c =
    let a = c.args in
    let p = err_from_is_err_and c.from_residual.result c.from_residual.ensures.1 in
    rw (p.1, p.2) (preview-deck (file_of a.deck) (file_of a.clause) a.query.now (file_of a.bars) _ c.in_err-deck.ensures, search rules)

pub returns-in_err-check : goal.returns-in_err-check
returns-in_err-check c =
    let a = c.args in
    let p = err_from_is_err_and c.from_residual-in_err-check.result c.from_residual-in_err-check.ensures.1 in
    let r = number-refuses _ (open_copy _ _) (rw c.clause_words-clause.ensures at c.in_err-check.ensures) in
    rw (p.1, p.2) (preview-copy (file_of a.deck) (file_of a.clause) a.query.now (file_of a.bars) _ c.in_ok-deck.ensures _ r, search rules)

pub returns-in_err-query : goal.returns-in_err-query
returns-in_err-query c =
    let a = c.args in
    let p = err_from_is_err_and c.from_residual-in_err-query.result c.from_residual-in_err-query.ensures.1 in
    let o = number-accepts (open_copy _ _) (rw c.clause_words-clause.ensures at c.in_ok-check.ensures) in
    rw (p.1, p.2) (preview-query (file_of a.deck) (file_of a.clause) a.query.now (file_of a.bars) _ c.in_ok-deck.ensures o.0 o.1 _ c.in_err-query.ensures, search rules)

pub returns : goal.returns
returns c =
    let a = c.args in
    let o = number-accepts (open_copy _ _) (rw c.clause_words-clause.ensures at c.in_ok-check.ensures) in
    rw (preview-listed (file_of a.deck) (file_of a.clause) a.query.now (file_of a.bars) _ c.in_ok-deck.ensures o.0 o.1 _ c.in_ok-query.ensures)
    (rw c.clause_words-clause.ensures at c.listed.ensures)
