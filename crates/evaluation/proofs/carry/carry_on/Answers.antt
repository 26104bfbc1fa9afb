-- `carry_on`: the refusal of the checks, or the run from the goals.
use mathlib.Core.Path.{◌∙◌, ap}
use native.Mathlib.Omega.{arith}
use lib.ListN.{length}
use Rattle.std.specs.Prelude.{Ok}
use Rattle.std.proofs.lemmas.Result.{err_from_is_err_and}
use Rattle.rules.specs.Decks.{open_deck}
use Rattle.rules.specs.Run.{carry}
use Rattle.evaluation.specs.Results.{CarriedAs, admitted}
use Rattle.evaluation.proofs.RunLaws.{topped-as}
use Rattle.evaluation.proofs.CarryLaws.{ran-on-refused, carried-sizes, carried-opens, carried-inside, ran-on-accepted}
use Rattle.evaluation.proofs.carry.carry_on.Goals as goal
use Rattle.evaluation.proofs.carry.carry_on.Goals.{In_ok-open}

pub returns-in_err-open : goal.returns-in_err-open
returns-in_err-open c =
    let a = c.args in
    let p = err_from_is_err_and c.from_residual.result c.from_residual.ensures.1 in
    rw (p.1, p.2) (ran-on-refused a.deck.now a.pending a.parked a.terms a.store.now a.scratch.now a.bars.now a.budget a.answers.now _ c.in_err-open.ensures.goals)

-- The goals that are let through.
let-through : (c : goal.In_ok-open) → let a = c.args in
    CarriedAs (admitted (carry a.deck.now a.pending a.parked a.terms a.store.now (length a.scratch.now)) a.bars.now) a.store.now (Ok ((c.in_ok-open.open.held, c.in_ok-open.open.end)))
let-through c = c.in_ok-open.ensures.goals

pub resume-start-requires : goal.resume-start-requires
resume-start-requires c =
    let a = c.args in
    carried-inside a.deck.now a.pending a.parked a.terms a.store.now (length a.scratch.now) a.bars.now _ (let-through (goal.at.resume-start-requires c).In_ok-open)

pub from_goals-requires-clause-opening : goal.from_goals-requires-clause-opening
from_goals-requires-clause-opening c =
    let k = goal.at.from_goals-requires-clause-opening c in
    let a = c.args in
    let h = let-through k.In_ok-open in
    record {
      deck = h.0.deck;
      goals = h.0.goals.pending;
      parked_goals = h.0.goals.parked;
      opens = ap open_deck c.in_ok-open.ensures.words ∙ carried-opens a.deck.now a.pending a.parked a.terms a.store.now (length a.scratch.now) a.bars.now _ h;
      stored = c.resume-start.ensures.stored h.0.deck.symbols h.0.goals.pending h.0.goals.parked h.2;
    }

pub from_goals-requires-clause-short_store : goal.from_goals-requires-clause-short_store
from_goals-requires-clause-short_store c =
    let a = c.args in
    omega (
      arith,
      c.resume-start.auto.store,
      (carried-sizes a.deck.now a.pending a.parked a.terms a.store.now (length a.scratch.now) a.bars.now _ (let-through (goal.at.from_goals-requires-clause-short_store c).In_ok-open)).1,
    )

pub from_goals-requires-clause-room : goal.from_goals-requires-clause-room
from_goals-requires-clause-room c =
    let a = c.args in
    (carried-sizes a.deck.now a.pending a.parked a.terms a.store.now (length a.scratch.now) a.bars.now _ (let-through (goal.at.from_goals-requires-clause-room c).In_ok-open)).0

pub returns : goal.returns
returns c =
    let a = c.args in
    let z = c.from_goals in
    let r = c.resume-start in
    let h = let-through (goal.at.returns c).In_ok-open in
    let d = h.0.deck in
    let gs = h.0.goals.pending in
    let ms = h.0.goals.parked in
    let opens = ap open_deck c.in_ok-open.ensures.words ∙ carried-opens a.deck.now a.pending a.parked a.terms a.store.now (length a.scratch.now) a.bars.now _ h in
    ran-on-accepted a.deck.now a.pending a.parked a.terms a.store.now a.scratch.now a.bars.now a.budget a.answers.now _ h
    z.new.answers z.new.store z.new.scratch z.result (z.auto.store ∙ r.auto.store) z.auto.scratch
    (topped-as d gs ms z.result r.auto.store (rw r.ensures.budget at (z.ensures d gs ms opens (r.ensures.stored d.symbols gs ms h.2))))
