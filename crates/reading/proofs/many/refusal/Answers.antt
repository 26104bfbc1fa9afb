-- By the sizes.
use mathlib.Core.Path.{refl, ap, ◌∙◌}
use native.Mathlib.Omega.{arith}
use Rattle.deck.specs.declared.Refusal.TheVariants.{Header}
use Rattle.reading.proofs.ResultLaws.{fitting, fits-fitting, did-full, did-refuse, many-symbols}
use Rattle.reading.proofs.many.refusal.Goals as goal

pub returns-then-fits : goal.returns-then-fits
returns-then-fits c = λ before e.
    let a = c.args in
    let t = a.all.text.text.now in
    let f = ap (fitting t) e ∙ fits-fitting t c.sizes_of-s.result c.sizes_of-s.ensures a.words c.fits.result c.fits.ensures ∙ c.if-fits.true in
    did-refuse t before c.requires.0 f before Header (many-symbols t (omega (arith, c.requires.1, a.all.counted.count))) refl

pub returns-else-fits : goal.returns-else-fits
returns-else-fits c = λ before e.
    let a = c.args in
    let t = a.all.text.text.now in
    did-full t before c.requires.0
    (ap (fitting t) e ∙ fits-fitting t c.sizes_of-s.result c.sizes_of-s.ensures a.words c.fits.result c.fits.ensures ∙ c.if-fits.false)
