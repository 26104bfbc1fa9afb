-- What writing promises, with the number of bytes behind the pointer.
use Rattle.leads_c.proofs.TextLaws.{write-refused, write_done}
use Rattle.leads_c.proofs.leads_write_text.Goals as goal

pub returns-in-Err : goal.returns-in-Err
returns-in-Err c = write-refused {r = c.write_text.result} c.write_text.ensures _ c.in-Err.why _ c.in-Err.is c.from.ensures

pub returns-in-Ok : goal.returns-in-Ok
returns-in-Ok c = write_done {r = c.write_text.result} c.write_text.ensures _ c.in-Ok.n c.in-Ok.is
