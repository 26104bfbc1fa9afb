-- `top`: in each turn the evaluation comes to what it comes to from the level that the store and the answer list hold.
use mathlib.Core.Path.{◌≡◌, refl}
use mathlib.Core.List.{List}
use Rattle.std.specs.Prelude.{Ok}
use Rattle.rules.specs.Syntax.{Deck, Goal}
use Rattle.rules.specs.Refusals.{accepted}
use Rattle.rules.specs.Decks.{open_deck}
use Rattle.rules.specs.Goals.{Marked}
use Rattle.top_level.specs.Top.{Stored, opening, evaluates, Goes, Stops, Follows}
use Rattle.top_level.proofs.TopLaws.{goes_first, run_from, goes-one_step}
use Rattle.top_level.proofs.top.Goals as goal
use Rattle.top_level.proofs.top.Goals.{At-loop-next, In-Ok, In-Err}

-- The run that is known to be there.
known : (c : goal.At-loop-next) → let a = c.args in let p = c.requires.opening in
    let s = run_from p.deck a.answers.now a.store.now p.goals p.parked_goals a.start.budget in Goes s (evaluates s) c.loop-next.answers c.loop-next.store c.loop-next.at
known c = let p = c.requires.opening in c.loop-next.invariant p.deck p.goals p.parked_goals p.opens p.stored

-- IT GOES ON
further : (c : goal.In-Ok) (d : Deck) (gs : List Goal) (ms : List Marked) → let a = c.args in open_deck a.clauses.now.deck.words.now ≡ accepted d → Stored d.symbols a.store.now a.start.parts.parked a.start.parts.held (opening gs ms)
    → let s = run_from d a.answers.now a.store.now gs ms a.start.budget in Follows s (evaluates s) c.loop-next.at.account.left c.turn.new.answers c.turn.new.store (Ok c.in-Ok.next)
further c d gs ms o h =
    let s = run_from d c.args.answers.now c.args.store.now gs ms c.args.start.budget in
    rw c.in-Ok.is at (c.turn.ensures s (evaluates s) o (goes-one_step (c.loop-next.invariant d gs ms o h)))

-- IT ENDS
over : (c : goal.In-Err) (d : Deck) (gs : List Goal) (ms : List Marked) → let a = c.args in open_deck a.clauses.now.deck.words.now ≡ accepted d → Stored d.symbols a.store.now a.start.parts.parked a.start.parts.held (opening gs ms)
    → Stops (run_from d a.answers.now a.store.now gs ms a.start.budget) c.turn.new.answers c.turn.new.store c.in-Err.end
over c d gs ms o h =
    let s = run_from d c.args.answers.now c.args.store.now gs ms c.args.start.budget in
    rw c.in-Err.is at (c.turn.ensures s (evaluates s) o (goes-one_step (c.loop-next.invariant d gs ms o h)))

ends : (c : goal.In-Err) → let a = c.args in let p = c.requires.opening in
    Stops (run_from p.deck a.answers.now a.store.now p.goals p.parked_goals a.start.budget) c.turn.new.answers c.turn.new.store c.in-Err.end
ends c = let p = c.requires.opening in over c p.deck p.goals p.parked_goals p.opens p.stored

pub loop-next-init : goal.loop-next-init
loop-next-init c = λ d gs ms o h. rw c.first-at.ensures (goes_first c.args.start (evaluates (run_from d c.args.answers.now c.args.store.now gs ms c.args.start.budget)) refl h)

pub turn-requires : goal.turn-requires
turn-requires c =
    let p = c.requires.opening in
    let s = run_from p.deck c.args.answers.now c.args.store.now p.goals p.parked_goals c.args.start.budget in
    record { started = s; again = evaluates s; opens = p.opens; is = goes-one_step (known (goal.at.turn-requires c).At-loop-next) }

pub loop-next-smaller : goal.loop-next-smaller
loop-next-smaller c = let p = c.requires.opening in (further (goal.at.loop-next-smaller c).In-Ok p.deck p.goals p.parked_goals p.opens p.stored).0

pub loop-next-preserved : goal.loop-next-preserved
loop-next-preserved c = λ d gs ms o h. (further (goal.at.loop-next-preserved c).In-Ok d gs ms o h).1

pub report-requires-clause-stops : goal.report-requires-clause-stops
report-requires-clause-stops c =
    let p = c.requires.opening in
    record { started = run_from p.deck _ _ p.goals p.parked_goals _; answers = c.turn.new.answers; is = ends (goal.at.report-requires-clause-stops c).In-Err }

pub report-requires-clause-within_budget : goal.report-requires-clause-within_budget
report-requires-clause-within_budget c = (ends (goal.at.report-requires-clause-within_budget c).In-Err).paid

pub returns-in-Err : goal.returns-in-Err
returns-in-Err c = λ d gs ms o h. c.report.ensures (run_from d _ _ gs ms _) _ refl (over (goal.at.returns-in-Err c).In-Err d gs ms o h)
