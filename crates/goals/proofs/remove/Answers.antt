use Prim.Native.Nat.{◌-◌}
use mathlib.Core.Path.{sym}
use mathlib.Core.List.{reverse, reverse-reverse}
use native.Mathlib.Omega.{arith}
use lib.ListN.{get_or, take}
use Rattle.goals.proofs.MirrorLaws.{taken_out}
use Rattle.goals.proofs.remove.Goals as goal

pub returns : goal.returns
returns c =
    let a = c.args in
    let words = a.store.now in
    rw (c.move_down.ensures, c.from-length.ensures)
    (taken_out words (reverse (take a.held words)) a.held a.s a.e (get_or words (a.held - 1) 0 - (a.e - a.s)) (omega arith) (omega arith) (omega arith)
    (sym (reverse-reverse (take a.held words))))
