-- `copy`: one word more at each turn, and at the end all of them.
use Prim.Native.Nat.{◌+◌}
use mathlib.Core.Path.{◌≡◌, ap, ◌∙◌}
use native.Mathlib.Omega.{arith}
use lib.ListN.{length-set}
use lib.Seq.{sets}
use Rattle.std.proofs.lemmas.List.{take_all}
use Rattle.words.proofs.Sets.{sets_more, sets-whole}
use Rattle.words.proofs.copy.Goals as goal

pub loop-i-preserved : goal.loop-i-preserved
loop-i-preserved c =
    let l = c.loop-i in
    let g = c.args in
    let step = sets_more g.to.now g.from.now 0 l.i (omega arith) in
    let here : 0 + l.i ≡ l.i = omega arith in
    (length-set _ _ _ ∙ l.invariant.0, rw l.invariant.1 (rw here at step))

pub returns : goal.returns
returns c =
    let l = c.loop-i in
    let g = c.args in
    l.invariant.1 ∙ ap (sets g.to.now 0) (take_all l.i g.from.now (omega arith)) ∙ sets-whole g.from.now g.to.now c.requires
