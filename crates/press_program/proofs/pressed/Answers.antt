-- The deck's refusals, and then those of the display's file; each leaves the output as it was.
use Rattle.std.proofs.Common.{rules}
use Rattle.std.proofs.lemmas.Result.{err_from_is_err_and}
use Rattle.listing.specs.Printed.{file_of}
use Rattle.press_program.proofs.PressLaws.{press_run-deck, press_run-display, press_run-bytes}
use Rattle.press_program.proofs.pressed.Goals as goal

pub returns-in_err-deck : goal.returns-in_err-deck
returns-in_err-deck c =
    let p = err_from_is_err_and c.from_residual.result c.from_residual.ensures.1 in
    rw (p.1, p.2) (press_run-deck (file_of c.args.deck) (file_of c.args.bars) c.args.budget (file_of c.args.display) _ c.in_err-deck.ensures, search rules)

pub returns-in_err-display : goal.returns-in_err-display
returns-in_err-display c =
    let p = err_from_is_err_and c.from_residual-in_err-display.result c.from_residual-in_err-display.ensures.1 in
    rw (p.1, p.2) (press_run-display (file_of c.args.deck) (file_of c.args.bars) c.args.budget _ c.in_ok-deck.ensures (file_of c.args.display) _ c.in_err-display.ensures.comes, search rules)

pub returns : goal.returns
returns c = rw (press_run-bytes (file_of c.args.deck) (file_of c.args.bars) c.args.budget _ c.in_ok-deck.ensures (file_of c.args.display) _ c.in_ok-display.ensures.comes) c.press_bytes.ensures
