-- `any_barred` meets its contract.
use Rattle.std.proofs.Common.{rules, tests, sym, ◌∙◌}
use Rattle.std.proofs.lemmas.Iterator.{YieldsList-from_slice}
use Rattle.std.proofs.lemmas.Iterator.Search.{any_from_yields_List}
use Rattle.rules.specs.Rights.{barred}
use Rattle.rights.proofs.AnyLaws.{any-list}
use Rattle.rights.proofs.reached.Reached.any_barred.Goals as goal

pub returns : goal.returns
returns c =
    let list = c.args.self.now.list.items in
    any_from_yields_List (barred c.args.bars.now) _ _ c.any.result c.any.ensures.ran (YieldsList-from_slice list (c.iter.ensures.rest ∙ c.deref.ensures.0)) (λ x b q k. search (rules, tests)) ∙ sym (any-list c.args.bars.now list)
