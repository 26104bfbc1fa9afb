-- `run`: a deck that is refused is, and over one that opens the run is what is returned and left.
use lib.ListN.{length}
use Rattle.std.proofs.lemmas.Result.{err_from_is_err_and}
use Rattle.rules.specs.Run.{run_on}
use Rattle.evaluation.specs.Results.{slices}
use Rattle.evaluation.proofs.RunLaws.{deck-refused, gives-refused}
use Rattle.evaluation.proofs.run.Goals as goal

pub returns-in_err-opened : goal.returns-in_err-opened
unfolding run_on
returns-in_err-opened c =
    let a = c.args in
    let p = err_from_is_err_and c.from_residual.result c.from_residual.ensures.1 in
    rw (p.1, p.2)
    (gives-refused (run_on a.deck.now a.query.now a.bars.now a.budget (slices a.answers.now a.store.now a.scratch.now)) (slices a.answers.now a.store.now a.scratch.now) c.in_err-opened.field-0.0
    (deck-refused a.deck.now a.query.now a.bars.now a.budget (length a.answers.now) (length a.store.now) (length a.scratch.now) c.in_err-opened.field-0.0 c.in_err-opened.ensures.number))

pub returns : goal.returns
returns c = rw c.in_ok-opened.ensures.words at c.run_opened.ensures
