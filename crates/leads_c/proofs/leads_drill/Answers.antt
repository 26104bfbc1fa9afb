-- What the public call promises, with the number of terms behind the pointer.
use Rattle.leads_c.proofs.DrillLaws.{drill-refused, drill-done}
use Rattle.leads_c.proofs.leads_drill.Goals as goal

pub returns-in-Err : goal.returns-in-Err
returns-in-Err c =
    let d = c.drill in
    drill-refused _ _ _ _ _ d.result d.ensures.answers d.ensures.out_after _ c.in-Err.why _ c.in-Err.is c.from.ensures

pub returns-in-Ok : goal.returns-in-Ok
returns-in-Ok c =
    let d = c.drill in
    drill-done _ _ _ _ _ d.result d.ensures.answers d.ensures.out_after _ c.in-Ok.terms c.in-Ok.is
