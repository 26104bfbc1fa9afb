-- `press`: one turn from the goals stored, and where it has brought level 0.
use mathlib.Core.Path.{◌≡◌}
use mathlib.Core.List.{List}
use Rattle.rules.specs.Syntax.{Deck, Goal}
use Rattle.rules.specs.Refusals.{accepted}
use Rattle.rules.specs.Decks.{open_deck}
use Rattle.rules.specs.Goals.{Marked}
use Rattle.rules.specs.Evaluation.{succeeded, ended}
use Rattle.report.specs.Reports.{ending_of}
use Rattle.top_level.specs.Top.{Stored, opening, Rests}
use Rattle.top_level.proofs.TopLaws.{goes-press, press_from, rests-advanced, topped}
use Rattle.top_level.proofs.press.Goals as goal
use Rattle.top_level.proofs.press.Goals.{After-advanced-advance}

-- And after it.
rests : (c : goal.After-advanced-advance) (d : Deck) (gs : List Goal) (ms : List Marked) → let a = c.args in open_deck a.clauses.now.deck.words.now ≡ accepted d
    → Stored d.symbols a.store.now a.start.parts.parked a.start.parts.held (opening gs ms)
    → let s = press_from d a.answers.now a.store.now gs ms a.start.budget in
    Rests s (ending_of c.advanced-advance.result.0) c.turn-taken.new.answers c.turn-taken.new.store c.advanced-advance.result.1
rests c d gs ms o h =
    let s = press_from d c.args.answers.now c.args.store.now gs ms c.args.start.budget in
    rw c.advanced-advance.ensures (rests-advanced s _ c.turn-taken.result
    (c.turn-taken.ensures s (ended succeeded) o (rw c.first.ensures (goes-press d c.args.answers.now c.args.store.now gs ms c.args.start h))))

known : (c : goal.After-advanced-advance) → let a = c.args in let p = c.requires.opening in
    let s = press_from p.deck a.answers.now a.store.now p.goals p.parked_goals a.start.budget in
    Rests s (ending_of c.advanced-advance.result.0) c.turn-taken.new.answers c.turn-taken.new.store c.advanced-advance.result.1
known c = let p = c.requires.opening in rests c p.deck p.goals p.parked_goals p.opens p.stored

pub turn-taken-requires : goal.turn-taken-requires
turn-taken-requires c =
    let p = c.requires.opening in
    let a = c.args in
    record {
      started = press_from p.deck a.answers.now a.store.now p.goals p.parked_goals a.start.budget;
      again = ended succeeded;
      opens = p.opens;
      is = rw c.first.ensures (goes-press p.deck a.answers.now a.store.now p.goals p.parked_goals a.start p.stored);
    }

pub order_and_count-steps-requires-clause-stored : goal.order_and_count-steps-requires-clause-stored
order_and_count-steps-requires-clause-stored c =
    let r = known (goal.at.order_and_count-steps-requires-clause-stored c).After-advanced-advance in
    record { symbols = c.requires.opening.deck.symbols; level = r.level; stored = r.stored }

pub order_and_count-steps-requires-clause-within_budget : goal.order_and_count-steps-requires-clause-within_budget
order_and_count-steps-requires-clause-within_budget c = (known (goal.at.order_and_count-steps-requires-clause-within_budget c).After-advanced-advance).paid

pub returns : goal.returns
returns c =
    λ d gs ms o h.
    topped (press_from d _ _ gs ms _) _ _ (rests (goal.at.returns c).After-advanced-advance d gs ms o h) (λ S l z. c.order_and_count-steps.ensures S l z)
