-- `resume`: the parked goals reversed, and then all of them.
use mathlib.Core.Path.{◌∙◌, ap}
use Rattle.words.proofs.Reverse.{rev, put_reversed, front_reversed}
use Rattle.top_level.proofs.StoredLaws.{resumed}
use Rattle.top_level.proofs.resume.Goals as goal

pub returns : goal.returns
returns c =
    let a = c.args in
    λ S gs ms o.
    resumed o _
    (front_reversed a.until _ c.reverse-2.new.self c.reverse-2.ensures.after
    ∙ ap (rev 0 a.until) (put_reversed a.held a.until a.store.now c.reverse.new.self c.requires.0 c.reverse.ensures.after))
