-- `move_down`: one word more at each turn.
use native.Mathlib.Omega.{arith}
use borrow.Author.Rules.{rules}
use Rattle.words.proofs.Sets.{down-more}
use Rattle.words.proofs.move_down.Goals as goal

pub loop-j-preserved : goal.loop-j-preserved
loop-j-preserved c =
    let l = c.loop-j in
    let g = c.args in
    let step = down-more g.s.now g.a g.d l.j (omega arith) (omega arith) (omega arith) in
    (omega arith, omega arith, search rules, cc)
