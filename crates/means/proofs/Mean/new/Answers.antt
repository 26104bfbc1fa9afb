-- `new`: Euclidean division by the count.
use mathlib.Core.Path.{◌≡◌, ◌∙◌, ap, ap₂}
use lib.IntN.{pos}
use mir.Syntax.{w64}
use mir.Val.{to_z, of_z}
use Rattle.std.specs.Int.{int_div_euclid, int_rem_euclid}
use Rattle.std.specs.Int.RustNames.{unsigned_abs}
use Rattle.std.proofs.lemmas.Int.{to_z-of_z}
use Rattle.rules.specs.Column.{whole_part, remainder, mean}
use Rattle.means.proofs.MeanLaws.{whole-is, remainder-is}
use Rattle.means.proofs.Mean.new.Goals as goal

pub returns : goal.returns
unfolding mean
returns c =
    let z = c.args.sum in
    let n = c.args.count in
    let sum : to_z w64 (of_z w64 z) ≡ z = to_z-of_z w64 z c.ranges.sum in
    let number : to_z w64 (of_z w64 c.from-number.result) ≡ pos n = to_z-of_z w64 _ (record { sfits = c.from-number.type_inv }) ∙ c.from-number.ensures in
    let whole : to_z w64 (of_z w64 c.div_euclid.result) ≡ whole_part z n =
    to_z-of_z w64 _ (record { sfits = c.div_euclid.type_inv }) ∙ c.div_euclid.ensures ∙ ap₂ int_div_euclid sum number ∙ whole-is z n in
    let rest : c.unsigned_abs.result ≡ remainder z n =
    c.unsigned_abs.ensures.value
    ∙ ap unsigned_abs (to_z-of_z w64 _ (record { sfits = c.rem_euclid.type_inv }) ∙ c.rem_euclid.ensures.value ∙ ap₂ int_rem_euclid sum number)
    ∙ remainder-is z n in
    λ i. record { sum = sum i; whole = whole i; remainder = rest i }
