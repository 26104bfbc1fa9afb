-- The refusals are the rules', in their order.
use Rattle.listing.specs.Printed.{file_of}
use Rattle.std.proofs.Common.{rules}
use Rattle.std.proofs.lemmas.Result.{err_from_is_err_and}
use Rattle.carry_program.proofs.RunLaws.{carry_run-deck, carry_run-goals, carry_run-bytes}
use Rattle.carry_program.proofs.carried.Goals as goal

pub returns-in_err-deck : goal.returns-in_err-deck
returns-in_err-deck c =
    let p = err_from_is_err_and c.from_residual.result c.from_residual.ensures.1 in
    rw (p.1, p.2) (carry_run-deck (file_of c.args.deck) (file_of c.args.bars) c.args.budget (file_of c.args.goals) _ c.in_err-deck.ensures, search rules, search rules)

pub returns-in_err-goals : goal.returns-in_err-goals
returns-in_err-goals c =
    let p = err_from_is_err_and c.from_residual-in_err-goals.result c.from_residual-in_err-goals.ensures.1 in
    rw (p.1, p.2) (carry_run-goals (file_of c.args.deck) (file_of c.args.bars) c.args.budget _ c.in_ok-deck.ensures (file_of c.args.goals) _ c.in_err-goals.ensures.comes, search rules, search rules)

pub returns : goal.returns
returns c = rw (carry_run-bytes (file_of c.args.deck) (file_of c.args.bars) c.args.budget _ c.in_ok-deck.ensures (file_of c.args.goals) _ c.in_ok-goals.ensures.comes) c.carry_run.ensures
