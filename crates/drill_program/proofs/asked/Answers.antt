-- The refusals are the rules', in their order.
use Rattle.std.proofs.Common.{rules}
use Rattle.std.proofs.lemmas.Result.{err_from_is_err_and}
use Rattle.deck.proofs.RefusalLaws.{number-accepts, number-refuses}
use Rattle.listing.specs.Printed.{file_of}
use Rattle.drill_program.proofs.PartLaws.{drill_run-unread, drill_run-unopened, drill_run-unasked, drill_run-words}
use Rattle.drill_program.proofs.asked.Goals as goal

pub returns-in_err-deck : goal.returns-in_err-deck
returns-in_err-deck c =
    let p = err_from_is_err_and c.from_residual.result c.from_residual.ensures.1 in
    rw (p.1, p.2) (drill_run-unread (file_of c.args.file) c.args.input.now _ c.in_err-deck.ensures, search rules)

pub returns-in_err-open : goal.returns-in_err-open
returns-in_err-open c =
    let p = err_from_is_err_and c.from_residual-in_err-open.result c.from_residual-in_err-open.ensures.1 in
    rw (p.1, p.2) (drill_run-unopened (file_of c.args.file) c.args.input.now _ c.in_ok-deck.ensures _ (number-refuses c.in_err-open.field-0.0 _ c.in_err-open.ensures), search rules)

pub returns-in_err-input : goal.returns-in_err-input
returns-in_err-input c =
    let p = err_from_is_err_and c.from_residual-in_err-input.result c.from_residual-in_err-input.ensures.1 in
    let d = number-accepts _ c.in_ok-open.ensures in
    rw (p.1, p.2) (drill_run-unasked (file_of c.args.file) c.args.input.now _ c.in_ok-deck.ensures d.0 d.1 _ c.in_err-input.ensures.comes, search rules)

pub returns : goal.returns
returns c =
    let d = number-accepts _ c.in_ok-open.ensures in
    rw (drill_run-words (file_of c.args.file) c.args.input.now _ c.in_ok-deck.ensures d.0 d.1 _ c.in_ok-input.ensures.comes) c.listed.ensures
