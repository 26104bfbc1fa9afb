-- `turn`: what a step came to past the parked goals, put back.
use Prim.Native.Nat.{◌+◌, ◌-◌}
use mathlib.Core.Path.{◌≡◌}
use native.Mathlib.Omega.{arith}
use lib.ListN.{length}
use borrow.Rule.Slice.PartMut.{put_mid}
use Rattle.std.specs.Prelude.{Ok}
use Rattle.std.proofs.lemmas.Result.{err_from_is_err_and}
use Rattle.rules.specs.Refusals.{accepted}
use Rattle.rules.specs.Decks.{open_deck}
use Rattle.top_level.specs.Top.{Started, Again, step_then, Goes, Stepped, Due}
use Rattle.top_level.proofs.TopLaws.{some_first, stepped}
use Rattle.top_level.proofs.turn.Goals as goal
use Rattle.top_level.proofs.turn.Goals.{In_ok-due, After-take_step-taken}

-- A step is due, and so of the run that is known to be there.
ready : (c : goal.In_ok-due) → let a = c.args in (s : Started) (again : Again) → Goes s (step_then s again) a.answers.now a.store.now a.at
    → Due s (step_then s again) (a.at.account.left + 1) a.answers.now a.store.now a.at (Ok tt)
ready c s again g = rw c.in_ok-due.was at (c.due.ensures s again (c.args.at.account.left + 1) _ _ (omega arith, g))

known : (c : goal.In_ok-due) → let a = c.args in Due c.requires.started (step_then c.requires.started c.requires.again) (a.at.account.left + 1) a.answers.now a.store.now a.at (Ok tt)
known c = ready c c.requires.started c.requires.again c.requires.is

-- What the step came to.
took : (c : goal.After-take_step-taken) → let a = c.args in let p = a.at in (s : Started) (again : Again) → open_deck a.clauses.now.deck.words.now ≡ accepted s.deck
    → Goes s (step_then s again) a.answers.now a.store.now p → Stepped s again a.answers.now (put_mid p.parts.parked (length a.store.now - p.parts.parked) a.store.now c.take_step-taken.new.store) p c.take_step-taken.result
took c s again o g =
    let t = c.take_step-taken in
    let u : Due s (step_then s again) (c.args.at.account.left + 1) c.args.answers.now c.args.store.now c.args.at (Ok tt) =
    rw c.in_ok-due.was at (c.due.ensures s again (c.args.at.account.left + 1) _ _ (omega arith, g)) in
    stepped again u.3 u.1 u.2 _ o t.new.store t.auto.store t.result t.ensures

pub take_step-taken-requires : goal.take_step-taken-requires
take_step-taken-requires c =
    let u = known (goal.at.take_step-taken-requires c).In_ok-due in
    record { first = some_first c.requires.again u.3 u.1 _ c.requires.opens; pays = u.2 }

pub follow-requires : goal.follow-requires
follow-requires c =
    let g = c.requires in
    record { started = g.started; again = g.again; is = took (goal.at.follow-requires c).After-take_step-taken g.started g.again g.opens g.is }

pub returns-in_err-due : goal.returns-in_err-due
returns-in_err-due c =
    let p = err_from_is_err_and c.from_residual.result c.from_residual.ensures.1 in
    rw (p.1, p.2) (λ s again o g. rw c.in_err-due.was at (c.due.ensures s again (c.args.at.account.left + 1) _ _ (omega arith, g)))

pub returns : goal.returns
returns c = λ s again o g. c.follow.ensures s again (took (goal.at.returns c).After-take_step-taken s again o g)
