-- `follow`: by what the step came to.
use native.Mathlib.Omega.{arith}
use mathlib.Core.Path.{◌≡◌, ◌∙◌, ap}
use Rattle.std.specs.Prelude.{Result, Ok, Err, MatchResult, IsErrAnd}
use Rattle.top_level.specs.Top.{Started, Again, Stepped, Waits}
use Rattle.top_level.proofs.StoredLaws.{stored-inside}
use Rattle.top_level.proofs.TopLaws.{waits-held, parks-within, goes-parked}
use Rattle.top_level.proofs.follow.Goals as goal
use Rattle.top_level.proofs.follow.Goals.{In-Park}

-- What is not an error stays as it is where an error is turned into another.
ok-kept : {T E D : Type 0} (P : E → D → Type 0) (r : Result T E) (q : Result T D) (x : T) → MatchResult r (λ t. q ≡ Ok t) (λ e. IsErrAnd q (P e)) → q ≡ Ok x → r ≡ Ok x
ok-kept P (Ok t) q x h e = let z : t ≡ x = cc in ap Ok z
ok-kept P (Err y) q x h e = absurd (rw e at h)

-- The goal is to be parked.
waits : (c : goal.In-Park) → let a = c.args in (x : Started) (again : Again) → Stepped x again a.answers.now a.store.now a.at a.taken
    → Waits x again a.answers.now a.store.now a.at c.in-Park.mark c.in-Park.account
waits c x again h = rw (ok-kept _ c.args.taken c.map_err.result _ c.map_err.ensures.cases (c.in_ok-map_err.was ∙ ap Ok c.in-Park.is)) at h

known : (c : goal.In-Park) → let a = c.args in Waits c.requires.started c.requires.again a.answers.now a.store.now a.at c.in-Park.mark c.in-Park.account
known c = waits c c.requires.started c.requires.again c.requires.is

pub park-n-requires-clause-pending : goal.park-n-requires-clause-pending
park-n-requires-clause-pending c = waits-held (known (goal.at.park-n-requires-clause-pending c).In-Park)

pub overflow_add-parts : goal.overflow_add-parts
overflow_add-parts c =
    let w = known (goal.at.overflow_add-parts c).In-Park in
    omega (arith, parks-within w _ _ c.park-n.ensures, stored-inside w.goes.stored)

pub overflow_sub-parts : goal.overflow_sub-parts
overflow_sub-parts c = parks-within (known (goal.at.overflow_sub-parts c).In-Park) _ _ c.park-n.ensures

pub returns-in-Park : goal.returns-in-Park
returns-in-Park c = λ s again h. let w = waits (goal.at.returns-in-Park c).In-Park s again h in (w.less, goes-parked w _ _ c.park-n.ensures c.park-n.auto.store)
