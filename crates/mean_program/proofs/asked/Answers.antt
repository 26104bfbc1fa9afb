-- The refusals are the rules', in their order.
use Rattle.std.proofs.Common.{rules, sym, ◌∙◌, ap}
use Rattle.std.proofs.lemmas.Result.{err_from_is_err_and}
use Rattle.rules.specs.Program.{query_input}
use Rattle.mean_program.specs.MeanProgram.{words_mean}
use Rattle.listing.specs.Printed.{file_of}
use Rattle.mean_program.proofs.InputLaws.{mean_run-deck, mean_run-query, mean_run-words}
use Rattle.mean_program.proofs.asked.Goals as goal

pub returns-in_err-deck : goal.returns-in_err-deck
returns-in_err-deck c =
    let p = err_from_is_err_and c.from_residual.result c.from_residual.ensures.1 in
    rw (p.1, p.2) (mean_run-deck (file_of c.args.deck) c.args.input.now _ c.in_err-deck.ensures, search rules)

pub returns-in_err-query : goal.returns-in_err-query
returns-in_err-query c =
    let p = err_from_is_err_and c.from_residual-in_err-query.result c.from_residual-in_err-query.ensures.1 in
    rw (p.1, p.2) (mean_run-query (file_of c.args.deck) c.args.input.now _ c.in_ok-deck.ensures _ (ap query_input (sym c.behind.ensures) ∙ c.in_err-query.ensures), search rules)

pub returns-in_err-told : goal.returns-in_err-told
returns-in_err-told c =
    let a = c.args in
    let p = err_from_is_err_and c.from_residual-in_err-told.result c.from_residual-in_err-told.ensures.1 in
    let q = mean_run-words (file_of a.deck) a.input.now _ c.in_ok-deck.ensures _ (ap query_input (sym c.behind.ensures) ∙ c.in_ok-query.ensures) in
    rw (p.1, p.2) (q ∙ ap (λ n. words_mean n c.in_ok-deck.deck.now c.in_ok-query.query.now) (sym c.place.ensures) ∙ c.in_err-told.ensures, search rules)

pub returns : goal.returns
returns c =
    let a = c.args in
    let q = mean_run-words (file_of a.deck) a.input.now _ c.in_ok-deck.ensures _ (ap query_input (sym c.behind.ensures) ∙ c.in_ok-query.ensures) in
    let t = c.in_ok-told.ensures in
    rw (q ∙ ap (λ n. words_mean n c.in_ok-deck.deck.now c.in_ok-query.query.now) (sym c.place.ensures) ∙ t.1) (c.put_line.ensures t.0 t.2)
