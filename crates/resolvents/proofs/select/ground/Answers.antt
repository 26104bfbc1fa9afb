-- `select::ground` meets its contract.
use Rattle.std.proofs.Common.{ltb, rules, tests}
use Rattle.std.proofs.lemmas.Iterator.{YieldsList-from_slice}
use Rattle.std.proofs.lemmas.Iterator.Search.{all_from_yields_List}
use Rattle.resolvents.proofs.VariableLaws.{none-of}
use Rattle.resolvents.proofs.select.ground.Goals as goal

pub returns : goal.returns
returns c =
    let e = all_from_yields_List (λ k. ltb k 32768) _ _ c.all.result c.all.ensures.ran (YieldsList-from_slice c.args.cells.now cc) (λ x b q k. search (rules, tests)) in
    rw e (none-of c.args.cells.now)
