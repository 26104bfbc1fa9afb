use Prim.Native.Nat.{◌+◌, ◌-◌}
use mathlib.Core.Path.{◌≡◌, refl}
use native.Mathlib.Omega.{arith}
use lib.ListN.{length, length-set}
use Rattle.words.proofs.Sets.{put_sets}
use lib.ListN.{length-reverse}
use mathlib.Core.List.{reverse}
use Rattle.goals.proofs.MirrorLaws.{two-more}
use Rattle.goals.proofs.restore.Goals as goal

pub bounds-store-held-2 : goal.bounds-store-held-2
bounds-store-held-2 c = simp length-set (omega arith)

pub returns : goal.returns
returns c =
    let a = c.args in
    let n = length a.cells.now in
    let fits : n ≡ a.held - 2 - (a.held - 2 - n) = omega arith in
    rw (c.mirror.ensures, ← fits, put_sets a.store.now (reverse a.cells.now) (a.held - 2 - n) n (omega arith) (length-reverse a.cells.now))
    (two-more a.store.now a.cells.now (a.held - 2 - n) a.held n a.answer_cells (n + 2) (omega arith) refl)
