-- `check`: a deck that is refused decides the answer, and over one that opens the query does.
use mathlib.Core.Path.{ap, sym, ◌∙◌}
use Rattle.std.proofs.lemmas.Result.{err_from_is_err_and}
use Rattle.rules.specs.Decks.{open_deck}
use Rattle.deck.proofs.RefusalLaws.{refused-number}
use Rattle.deck.proofs.OpenLaws.{refused-query, accepted-deck, accepted-query}
use Rattle.deck.proofs.check.Goals as goal

pub returns-in_err-opened-clause-number : goal.returns-in_err-opened-clause-number
returns-in_err-opened-clause-number c =
    let a = c.args in
    let p = err_from_is_err_and c.from_residual.result c.from_residual.ensures.1 in
    rw (p.1, p.2) (sym (refused-query a.deck.now a.query.now _ (sym c.in_err-opened.ensures.number) (refused-number c.in_err-opened.field-0.0)))

pub returns-in_err-check_query-clause-number : goal.returns-in_err-check_query-clause-number
returns-in_err-check_query-clause-number c =
    let a = c.args in
    let p = err_from_is_err_and c.from_residual-in_err-check_query.result c.from_residual-in_err-check_query.ensures.1 in
    let d = accepted-deck a.deck.now (sym c.in_ok-opened.ensures.number) in
    rw (p.1, p.2) (c.in_err-check_query.ensures d.0 (ap open_deck c.in_ok-opened.ensures.words ∙ d.1) ∙ sym (accepted-query a.deck.now a.query.now d.0 d.1))

pub returns-clause-number : goal.returns-clause-number
returns-clause-number c =
    let a = c.args in
    let d = accepted-deck a.deck.now (sym c.in_ok-opened.ensures.number) in
    c.in_ok-check_query.ensures d.0 (ap open_deck c.in_ok-opened.ensures.words ∙ d.1) ∙ sym (accepted-query a.deck.now a.query.now d.0 d.1)
