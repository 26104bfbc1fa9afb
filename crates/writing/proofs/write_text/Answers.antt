-- The deck's refusal, or what writing an opened deck comes to.
use Rattle.std.proofs.lemmas.Result.{err_from_is_err_and}
use Rattle.deck.proofs.RefusalLaws.{number-refuses}
use Rattle.rules.specs.Decks.{open_deck}
use Rattle.writing.proofs.DeckLaws.{wrote-closed}
use Rattle.writing.proofs.write_text.Goals as goal

pub returns-in_err-opened : goal.returns-in_err-opened
returns-in_err-opened c =
    let ws = c.args.deck.now in
    let p = err_from_is_err_and c.from_residual.result c.from_residual.ensures.1 in
    rw (p.1, p.2) (wrote-closed ws c.args.text.now _ (number-refuses c.in_err-opened.field-0.0 (open_deck ws) c.in_err-opened.ensures.number))

pub returns : goal.returns
returns c = rw c.in_ok-opened.ensures.words at c.write_open.ensures
