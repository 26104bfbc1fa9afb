-- What the public call promises, with the number of the predicate that is named behind the pointer.
use Rattle.leads_c.proofs.LevelLaws.{levels-refused, levels-done}
use Rattle.leads_c.proofs.leads_levels.Goals as goal

pub returns-in-Err : goal.returns-in-Err
returns-in-Err c =
    let l = c.levels in
    levels-refused _ _ _ l.result l.ensures _ c.in-Err.why _ c.in-Err.is c.from.ensures

pub returns-in-Ok : goal.returns-in-Ok
returns-in-Ok c =
    let l = c.levels in
    levels-done _ _ _ l.result l.ensures _ c.in-Ok.named _ c.in-Ok.is c.number.ensures
