-- `check`: a deck that is refused decides the answer, and over one that opens the clause does.
use mathlib.Core.Path.{ap, sym, ◌∙◌}
use Rattle.std.proofs.lemmas.Result.{err_from_is_err_and}
use Rattle.rules.specs.Decks.{open_deck}
use Rattle.deck.proofs.RefusalLaws.{refused-number}
use Rattle.deck.proofs.OpenLaws.{accepted-deck}
use Rattle.lengthening.proofs.LengthLaws.{refused-copy, added-number}
use Rattle.lengthening.proofs.check.Goals as goal

pub returns-in_err-opened : goal.returns-in_err-opened
returns-in_err-opened c =
    let p = err_from_is_err_and c.from_residual.result c.from_residual.ensures.1 in
    rw (p.1, p.2) (sym (refused-copy c.args.deck.now c.args.cells.now _ (sym c.in_err-opened.ensures.number) (refused-number c.in_err-opened.field-0.0)))

pub returns : goal.returns
returns c =
    let ws = c.args.deck.now in
    let cells = c.args.cells.now in
    let d = accepted-deck ws (sym c.in_ok-opened.ensures.number) in
    let e = ap open_deck c.in_ok-opened.ensures.words ∙ d.1 in
    rw c.in_ok-opened.ensures.words at (c.addable.ensures d.0 e) ∙ sym (added-number ws cells d.0 d.1)
