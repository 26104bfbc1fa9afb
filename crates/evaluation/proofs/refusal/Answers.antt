-- `refusal`: the checks, one after the other.
use mathlib.Core.Path.{◌∙◌}
use Rattle.std.proofs.lemmas.Result.{err_from_is_err_and}
use Rattle.deck.proofs.RefusalLaws.{number-accepts}
use Rattle.rules.specs.Decks.{read_query}
use Rattle.rules.specs.Run.{check_sizes}
use Rattle.evaluation.proofs.RunLaws.{query-refused, sizes-refused, looseness-left}
use Rattle.evaluation.proofs.refusal.Goals as goal

pub returns-in_err-check_query : goal.returns-in_err-check_query
returns-in_err-check_query c d o =
    let a = c.args in
    let p = err_from_is_err_and c.from_residual.result c.from_residual.ensures.1 in
    rw (p.1, p.2) (query-refused d a.query.now a.store a.scratch c.in_err-check_query.field-0.0 (c.in_err-check_query.ensures d o))

pub returns-in_err-sizes : goal.returns-in_err-sizes
returns-in_err-sizes c d o =
    let a = c.args in
    let p = err_from_is_err_and c.from_residual-in_err-sizes.result c.from_residual-in_err-sizes.ensures.1 in
    let q = number-accepts (read_query d a.query.now) (c.in_ok-check_query.ensures d o) in
    rw (p.1, p.2) (sizes-refused d a.query.now a.store a.scratch q.0 q.1 c.in_err-sizes.field-0.0 c.in_err-sizes.ensures)

pub returns : goal.returns
returns c d o =
    let a = c.args in
    let q = number-accepts (read_query d a.query.now) (c.in_ok-check_query.ensures d o) in
    let s = number-accepts (check_sizes a.store a.scratch) c.in_ok-sizes.ensures in
    c.check.ensures d q.0 o q.1 ∙ looseness-left d a.query.now a.store a.scratch q.0 q.1 s.0 s.1
