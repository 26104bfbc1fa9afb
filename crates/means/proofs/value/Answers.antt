-- `value`: a word of 16 bits as a number with a sign.
use mathlib.Core.Path.{◌∙◌}
use mir.Syntax.{w16, w64}
use Rattle.std.proofs.lemmas.Int.{to_z-of_z}
use Rattle.means.proofs.MeanLaws.{value-is}
use Rattle.means.proofs.value.Goals as goal

pub returns : goal.returns
returns c =
    to_z-of_z w64 _ (record { sfits = c.from.type_inv })
    ∙ c.from.ensures
    ∙ to_z-of_z w16 _ (record { sfits = c.cast_signed.type_inv })
    ∙ c.cast_signed.ensures
    ∙ value-is c.args.word c.ranges.word.fits
