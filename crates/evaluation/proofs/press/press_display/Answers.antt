-- `press_display`: the press on the display's goal counts, and the record after it.
use Rattle.std.proofs.lemmas.Result.{err_from_is_err_and}
use Rattle.evaluation.specs.Results.{slices}
use Rattle.evaluation.specs.Displays.{display_of}
use Rattle.evaluation.proofs.PressLaws.{display-refused, display-accepted}
use Rattle.evaluation.proofs.press.press_display.Goals as goal

pub returns-in_err-pressed : goal.returns-in_err-pressed
returns-in_err-pressed c =
    let a = c.args in
    let z = c.press.new in
    let p = err_from_is_err_and c.from_residual.result c.from_residual.ensures.1 in
    rw (p.1, p.2) (display-refused a.deck.now a.terms a.bars.now a.budget (slices a.answers.now a.store.now a.scratch.now) (slices z.answers z.store z.scratch) (display_of a.display.now) _ c.in_err-pressed.ensures)

pub returns : goal.returns
returns c =
    let a = c.args in
    let z = c.press.new in
    display-accepted a.deck.now a.terms a.bars.now a.budget (slices a.answers.now a.store.now a.scratch.now) (slices z.answers z.store z.scratch) (display_of a.display.now) c.in_ok-pressed.pressed _
    c.in_ok-pressed.ensures c.after.ensures
