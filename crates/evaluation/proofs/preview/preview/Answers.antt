-- `preview`: a deck or a clause that is refused is, and over the copy the run is what is returned and left.
use Rattle.std.proofs.lemmas.Result.{err_from_is_err_and}
use Rattle.rules.specs.Preview.{preview_on}
use Rattle.evaluation.specs.Results.{slices}
use Rattle.evaluation.proofs.RunLaws.{gives-refused}
use Rattle.evaluation.proofs.PreviewLaws.{copy-refused, copy-ran}
use Rattle.evaluation.proofs.preview.preview.Goals as goal

pub returns-in_err-opened : goal.returns-in_err-opened
returns-in_err-opened c =
    let a = c.args in
    let s = slices a.answers.now a.store.now a.scratch.now in
    let p = err_from_is_err_and c.from_residual.result c.from_residual.ensures.1 in
    rw (p.1, p.2)
    (gives-refused (preview_on a.deck.now a.clause.now a.query.now a.bars.now a.budget s) s c.in_err-opened.field-0.0
    (copy-refused a.deck.now a.clause.now a.query.now a.bars.now a.budget s c.in_err-opened.field-0.0 c.in_err-opened.ensures.number))

pub returns : goal.returns
returns c =
    let a = c.args in
    copy-ran a.deck.now a.clause.now a.query.now a.bars.now a.budget (slices a.answers.now a.store.now a.scratch.now) _ _ c.in_ok-opened.ensures.number
    (rw c.in_ok-opened.ensures.words at c.run_opened.ensures)
