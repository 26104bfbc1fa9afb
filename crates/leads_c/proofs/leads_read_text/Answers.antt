-- What reading promises, with the number of words or the place of refusal 10 behind its pointer.
use Rattle.std.proofs.Common.{Err, ap, ◌∙◌}
use Rattle.leads_c.proofs.TextLaws.{read_done, read-unreadable, read-refused}
use Rattle.leads_c.proofs.leads_read_text.Goals as goal

pub returns-in-Ok : goal.returns-in-Ok
returns-in-Ok c = read_done {r = c.read_text.result} c.read_text.ensures _ _ c.in-Ok.n c.in-Ok.is

pub returns-in-Err-Unreadable : goal.returns-in-Err-Unreadable
returns-in-Err-Unreadable c =
    let arm = c.in-Err-Unreadable in
    read-unreadable {r = c.read_text.result} c.read_text.ensures _ _ arm.at _ (arm.is ∙ ap Err arm.field-0-is) c.from.ensures

pub returns-in-Err-Refused : goal.returns-in-Err-Refused
returns-in-Err-Refused c =
    let arm = c.in-Err-Refused in
    read-refused {r = c.read_text.result} c.read_text.ensures _ _ arm.why _ (arm.is ∙ ap Err arm.field-0-is) (rw arm.why-is at c.from-in-Err-Refused.ensures)
