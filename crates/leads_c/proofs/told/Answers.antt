-- The refusal's number, or the report's numbers.
use Rattle.leads_c.proofs.CallLaws.{tells-refused, tells-done}
use Rattle.leads_c.proofs.told.Goals as goal

pub returns-in-Err : goal.returns-in-Err
returns-in-Err c = tells-refused _ c.in-Err.why _ _ c.in-Err.is c.from-in-Err.ensures

pub returns-in-Ok : goal.returns-in-Ok
returns-in-Ok c = tells-done _ c.in-Ok.report _ _ c.in-Ok.is c.from.ensures
