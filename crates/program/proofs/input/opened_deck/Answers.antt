-- The words are read, and open.
use Rattle.listing.specs.Printed.{file_of}
use Rattle.std.proofs.lemmas.Result.{err_from_is_err_and}
use Rattle.deck.proofs.RefusalLaws.{number-accepts, number-refuses}
use Rattle.program.proofs.InputLaws.{deck_input-unread, deck_input-unopened, deck_input-opened}
use Rattle.program.proofs.input.opened_deck.Goals as goal

pub returns-in_err-words : goal.returns-in_err-words
returns-in_err-words c =
    let p = err_from_is_err_and c.from_residual.result c.from_residual.ensures.1 in
    rw (p.1, p.2) (deck_input-unread (file_of c.args.file) _ c.in_err-words.ensures)

pub returns-in_err-open : goal.returns-in_err-open
returns-in_err-open c =
    let p = err_from_is_err_and c.from_residual-in_err-open.result c.from_residual-in_err-open.ensures.1 in
    rw (p.1, p.2) (deck_input-unopened (file_of c.args.file) _ c.in_ok-words.ensures _ (number-refuses c.in_err-open.field-0.0 _ c.in_err-open.ensures))

pub returns : goal.returns
returns c =
    let d = number-accepts _ c.in_ok-open.ensures in
    deck_input-opened (file_of c.args.file) _ c.in_ok-words.ensures d.0 d.1
