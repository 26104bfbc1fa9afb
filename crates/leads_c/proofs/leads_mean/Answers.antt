-- What the public call promises, with the mean's numbers behind the pointers.
use mathlib.Core.Path.{◌≡◌}
use native.Mathlib.Omega.{arith}
use mir.Syntax.{w64}
use mir.Val.{to_z, of_z}
use Rattle.std.proofs.lemmas.Int.{to_z-of_z}
use Rattle.leads_c.proofs.MeanLaws.{mean-refused, mean-done}
use Rattle.leads_c.proofs.leads_mean.Goals as goal

pub returns-in-Err : goal.returns-in-Err
returns-in-Err c =
    let l = c.column in
    mean-refused _ l.result l.ensures _ c.in-Err.why _ c.in-Err.is c.from.ensures

pub returns-in-Ok : goal.returns-in-Ok
returns-in-Ok c =
    let l = c.column in
    let m = c.in-Ok.mean in
    let f = rw c.in-Ok.is at l.type_inv in
    let sum : to_z w64 (of_z w64 m.sum) ≡ m.sum = to_z-of_z w64 m.sum (record { sfits = omega arith }) in
    let whole : to_z w64 (of_z w64 m.whole) ≡ m.whole = to_z-of_z w64 m.whole (record { sfits = omega arith }) in
    rw (sum, whole) (mean-done _ l.result l.ensures _ m c.in-Ok.is)
