-- `park`: two reversals put the first goal behind the parked ones, and its mark is added.
use Prim.Native.Nat.{ℕ, ◌+◌, ◌-◌, ◌≤◌}
use mathlib.Core.Path.{◌≡◌, sym, ◌∙◌, ap}
use mathlib.Core.List.{List}
use native.Mathlib.Omega.{arith}
use lib.ListN.{get_or}
use borrow.Rule.Slice.PartMut.{put_mid}
use Rattle.words.proofs.Reverse.{rev, put_reversed}
use Rattle.goals.specs.Store.{mark_of}
use Rattle.top_level.proofs.StoredLaws.{Sized, sized, first_fits, first_word, goal-parked, mark-small}
use Rattle.top_level.proofs.park.Goals as goal
use Rattle.top_level.proofs.park.Goals.{After-reverse-2, Start}

-- Of the level that is known to be there.
known : (c : goal.Start) → Sized c.args.store.now c.args.parts.parked c.args.parts.held
known c = sized c.requires.stored.stored c.requires.pending

-- What the two reversals leave.
abbrev left : goal.After-reverse-2 → List ℕ
left c =
    let p = c.args.parts in
    let end = p.parked + p.held in
    let a = p.parked + c.from-length.result in
    put_mid a (end - a) (put_mid p.parked (end - p.parked) c.args.store.now c.reverse.new.self) c.reverse-2.new.self

reversed : (c : goal.After-reverse-2) → c.from-length.result ≤ c.args.parts.held →
    let p = c.args.parts in
    left c
    ≡ rev (p.parked + get_or c.args.store.now (p.parked + p.held - 1) 0) (p.parked + p.held) (rev p.parked (p.parked + p.held) c.args.store.now)
reversed c h =
    let p = c.args.parts in
    let end = p.parked + p.held in
    put_reversed (p.parked + c.from-length.result) end _ c.reverse-2.new.self (omega arith) c.reverse-2.ensures.after
    ∙ ap (rev (p.parked + c.from-length.result) end) (put_reversed p.parked end c.args.store.now c.reverse.new.self (omega arith) c.reverse.ensures.after)
    ∙ ap (λ (n : ℕ). rev (p.parked + n) end (rev p.parked end c.args.store.now)) c.from-length.ensures

pub overflow_add-store : goal.overflow_add-store
overflow_add-store c =
    let k = known (goal.at.overflow_add-store c).Start in
    omega (arith, k.most, k.kept _ (reversed (goal.at.overflow_add-store c).After-reverse-2 (omega (arith, k.within, c.from-length.ensures))), c.from.ensures, mark-small (mark_of c.args.mark))

pub slice_bounds-reverse-start-2 : goal.slice_bounds-reverse-start-2
slice_bounds-reverse-start-2 c = omega (arith, (known (goal.at.slice_bounds-reverse-start-2 c).Start).within, c.from-length.ensures)

pub slice_bounds-reverse-count-2 : goal.slice_bounds-reverse-count-2
slice_bounds-reverse-count-2 c = omega (arith, (known (goal.at.slice_bounds-reverse-count-2 c).Start).within, c.from-length.ensures)

pub returns : goal.returns
returns c =
    λ S l g gs p h.
    let a = c.args.parts in
    let n = c.from-length.ensures ∙ first_word h g gs p in
    let within : c.from-length.result ≤ a.held = omega (arith, n, first_fits h g gs p) in
    let t = left (goal.at.returns c).After-reverse-2 in
    let e = reversed (goal.at.returns c).After-reverse-2 within ∙ ap (λ (k : ℕ). rev (a.parked + k) (a.parked + a.held) (rev a.parked (a.parked + a.held) c.args.store.now)) (first_word h g gs p) in
    (n, within, rw (sym n) at (goal-parked h g gs p t e (mark_of c.args.mark) _ (ap (λ (k : ℕ). get_or t a.parked 0 + k) c.from.ensures)))
