-- `order_goals`: two reversals put the pending goals first, in order, and the parked ones behind them.
use Prim.Native.Nat.{◌+◌, ◌-◌}
use mathlib.Core.Path.{◌≡◌, ◌∙◌, ap}
use mathlib.Core.List.{◌++◌}
use native.Mathlib.Omega.{arith}
use lib.ListN.{drop}
use borrow.Rule.Slice.PartMut.{put_mid}
use Rattle.words.proofs.Reverse.{rev, put_reversed, front_reversed}
use Rattle.rules.specs.Goals.{unmarked}
use Rattle.top_level.proofs.StoredLaws.{pending-written, parked-written, ordered}
use Rattle.top_level.proofs.order_goals.Goals as goal
use Rattle.top_level.proofs.order_goals.Goals.{After-reverse-2}

-- What the two reversals leave.
reversed : (c : goal.After-reverse-2) →
    let p = c.args.parts in
    let end = p.parked + p.held in
    put_mid p.held (end - p.held) (c.reverse.new.self ++ drop end c.args.store.now) c.reverse-2.new.self ≡ rev p.held end (rev 0 end c.args.store.now)
reversed c =
    let p = c.args.parts in
    let end = p.parked + p.held in
    put_reversed p.held end _ c.reverse-2.new.self (omega arith) c.reverse-2.ensures.after
    ∙ ap (rev p.held end) (front_reversed end c.args.store.now c.reverse.new.self c.reverse.ensures.after)

pub count_goals-requires : goal.count_goals-requires
count_goals-requires c =
    let t = c.requires in
    record { symbols = t.symbols; goals = unmarked t.level.pending; written = pending-written t.stored _ (reversed (goal.at.count_goals-requires c).After-reverse-2) }

pub count_goals-requires-2 : goal.count_goals-requires-2
count_goals-requires-2 c =
    let t = c.requires in
    record { symbols = t.symbols; goals = t.level.parked; written = parked-written t.stored _ (reversed (goal.at.count_goals-requires-2 c).After-reverse-2) }

pub returns-clause-ordered : goal.returns-clause-ordered
returns-clause-ordered c =
    λ S l h.
    let e = reversed (goal.at.returns-clause-ordered c).After-reverse-2 in
    ordered h _ e _ (c.count_goals.ensures.count S (unmarked l.pending) (pending-written h _ e)) (c.count_goals-2.ensures.count S l.parked (parked-written h _ e))
