-- `check_query`: what the words are refused for, and loose variables where they are not.
use mathlib.Core.Path.{ap, sym, ◌∙◌}
use Rattle.std.proofs.lemmas.Result.{err_from_is_err_and}
use Rattle.rules.specs.Decks.{open_deck}
use Rattle.deck.proofs.RefusalLaws.{refused-number}
use Rattle.loose.proofs.LooseLaws.{words-refused, words-read}
use Rattle.loose.proofs.check_query.Goals as goal

pub returns-in_err-opened : goal.returns-in_err-opened
returns-in_err-opened c =
    let a = c.args in
    let p = err_from_is_err_and c.from_residual.result c.from_residual.ensures.1 in
    rw (p.1, p.2) (sym (words-refused a.deck.now a.query.now _ (sym c.in_err-opened.ensures.number) (refused-number c.in_err-opened.field-0.0)))

pub returns : goal.returns
returns c =
    let a = c.args in
    let g = words-read a.deck.now a.query.now (sym c.in_ok-opened.ensures.number) in
    c.check-2.ensures g.deck g.query (ap open_deck c.in_ok-opened.ensures.words ∙ g.opens) g.reads ∙ sym g.checks
