-- The refusals are the rules', in their order.
use Rattle.listing.specs.Printed.{file_of}
use Rattle.std.proofs.Common.{rules}
use Rattle.std.proofs.lemmas.Result.{err_from_is_err_and}
use Rattle.carry_program.proofs.RunLaws.{open_run-deck, open_run-query, open_run-words}
use Rattle.carry_program.proofs.asked.Goals as goal

pub returns-in_err-deck : goal.returns-in_err-deck
returns-in_err-deck c =
    let p = err_from_is_err_and c.from_residual.result c.from_residual.ensures.1 in
    rw (p.1, p.2) (open_run-deck (file_of c.args.deck) (file_of c.args.bars) c.args.budget c.args.query.now _ c.in_err-deck.ensures, search rules, search rules)

pub returns-in_err-query : goal.returns-in_err-query
returns-in_err-query c =
    let p = err_from_is_err_and c.from_residual-in_err-query.result c.from_residual-in_err-query.ensures.1 in
    rw (p.1, p.2) (open_run-query (file_of c.args.deck) (file_of c.args.bars) c.args.budget _ c.in_ok-deck.ensures c.args.query.now _ c.in_err-query.ensures, search rules, search rules)

pub returns : goal.returns
returns c = rw (open_run-words (file_of c.args.deck) (file_of c.args.bars) c.args.budget _ c.in_ok-deck.ensures c.args.query.now _ c.in_ok-query.ensures) c.open_run.ensures
