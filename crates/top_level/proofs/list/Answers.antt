-- `list`: the first pending goal's words are read from the end, and are copied if there is room.
use Prim.Native.Nat.{◌+◌, ◌-◌, ◌≤◌}
use mathlib.Core.Path.{ap, sym, ◌∙◌}
use native.Mathlib.Omega.{arith}
use lib.ListN.{length}
use borrow.Rule.Slice.PartMut.{mid_len}
use Rattle.words.proofs.StoreLaws.{image-copied}
use Rattle.rules.specs.Evaluation.{Account}
use Rattle.top_level.proofs.StoredLaws.{Sized, sized}
use Rattle.top_level.proofs.TopLaws.{bare-held, stops-unlisted, goes-listed}
use Rattle.top_level.proofs.list.Goals as goal
use Rattle.top_level.proofs.list.Goals.{Start}

-- What is known of the first pending goal.
known : (s : goal.Start) → let a = s.args in Sized a.store.now a.at.parts.parked a.at.parts.held
known s = let b = s.requires.is in sized b.goes.stored (bare-held b)

pub overflow_sub-end : goal.overflow_sub-end
overflow_sub-end c = omega (arith, bare-held c.requires.is)

pub bounds-store-end : goal.bounds-store-end
bounds-store-end c = omega (arith, (known (goal.at.bounds-store-end c).Start).whole, bare-held c.requires.is)

pub overflow_sub-answers : goal.overflow_sub-answers
overflow_sub-answers c = c.requires.is.goes.inside

pub returns-then-answers-at : goal.returns-then-answers-at
returns-then-answers-at c = λ s again b. stops-unlisted b (omega (arith, c.if-answers-at.true, c.from-n.ensures))

pub overflow_sub-end-2 : goal.overflow_sub-end-2
overflow_sub-end-2 c = omega (arith, c.from-n.ensures, (known (goal.at.overflow_sub-end-2 c).Start).within)

pub mirror-requires : goal.mirror-requires
mirror-requires c =
    let p = c.args.at in
    let n = c.from-n.result in
    let end = p.parts.parked + p.parts.held in
    let k = known (goal.at.mirror-requires c).Start in
    mid_len p.filled (p.filled + n) c.args.answers.now (omega (arith, c.if-answers-at.false, c.requires.is.goes.inside))
    ∙ omega (arith, c.from-n.ensures, k.within)
    ∙ sym (mid_len (end - n) end c.args.store.now k.whole)

pub overflow_sub-result : goal.overflow_sub-result
overflow_sub-result c =
    omega (arith, c.from-n.ensures, (known (goal.at.overflow_sub-result c).Start).within)

pub pay_one-requires : goal.pay_one-requires
pay_one-requires c = c.requires.is.pays

pub returns : goal.returns
returns c =
    let p = c.args.at in
    let w = c.from-n in
    let k = known (goal.at.returns c).Start in
    let room : p.filled + w.result ≤ length c.args.answers.now = omega (arith, c.if-answers-at.false, c.requires.is.goes.inside) in
    let copied = image-copied c.args.answers.now c.args.store.now c.mirror.new.to p.filled (p.parts.parked + p.parts.held) w.result (omega (arith, w.ensures, k.within)) k.whole room c.mirror.ensures in
    λ s again b. (
      omega (arith, b.pays, ap (λ (x : Account). x.left) c.pay_one.ensures),
      rw (w.ensures, c.pay_one.ensures) (goes-listed b _ (omega (arith, w.ensures, room)) (rw w.ensures at copied)),
    )
