-- The names in order, up to the first one that has another arity.
use mathlib.Core.Path.{◌≡◌}
use mathlib.Core.Bool.{true, false}
use Rattle.std.proofs.Common.{rules, tests}
use Rattle.std.proofs.lemmas.Iterator.{first_from_Range}
use Rattle.uses.specs.Batches.{agrees_at}
use Rattle.uses.proofs.ArityLaws.{first-from}
use Rattle.uses.proofs.arities.first_other.Goals as goal

pub returns : goal.returns
returns c =
    let found = c.args.found.now in
    let t = c.args.names.now in
    first-from found t c.len.result c.find.result c.len.ensures.equal
    (first_from_Range _ _ _ _ (λ i. agrees_at found t i ≡ false) (λ i. agrees_at found t i ≡ true) c.find.ensures.ran (λ x q h. search (rules, tests)) (λ x q h. search (rules, tests)))
