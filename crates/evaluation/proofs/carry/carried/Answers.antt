-- `carried`: the refusals one after the other, or the open goals.
use mathlib.Core.Path.{◌≡◌, sym, ◌∙◌, ap}
use mathlib.Core.List.{◌++◌}
use lib.ListN.{length}
use Rattle.std.proofs.lemmas.Result.{err_from_is_err_and}
use Rattle.rules.specs.Syntax.{Deck}
use Rattle.rules.specs.Refusals.{accepted}
use Rattle.rules.specs.Decks.{open_deck}
use Rattle.rules.specs.Goals.{unmarked}
use Rattle.deck.proofs.OpenLaws.{accepted-deck}
use Rattle.evaluation.proofs.CarryLaws.{goals-are, deck-refused, sizes-refused, goals-refused, refused-first, barred, let-through}
use Rattle.evaluation.proofs.carry.carried.Goals as goal
use Rattle.evaluation.proofs.carry.carried.Goals.{In_ok-opened}

pub returns-in_err-opened-clause-goals : goal.returns-in_err-opened-clause-goals
returns-in_err-opened-clause-goals c =
    let a = c.args in
    let p = err_from_is_err_and c.from_residual.result c.from_residual.ensures.1 in
    rw (p.1, p.2) (refused-first a.deck.now a.counts.pending a.counts.parked a.counts.terms a.store.now (length a.scratch.now) a.bars.now _
    (deck-refused a.deck.now a.counts.pending a.counts.parked a.counts.terms a.store.now (length a.scratch.now) _ c.in_err-opened.ensures.number))

-- The deck that opened.
deck : (c : goal.In_ok-opened) → (d : Deck) × (open_deck c.args.deck.now ≡ accepted d)
deck c = let d = accepted-deck c.in_ok-opened.opened.words.now c.in_ok-opened.opened.opens in (d.0, ap open_deck (sym c.in_ok-opened.ensures.words) ∙ d.1)

pub returns-in_err-sizes-clause-goals : goal.returns-in_err-sizes-clause-goals
returns-in_err-sizes-clause-goals c =
    let a = c.args in
    let d = deck (goal.at.returns-in_err-sizes-clause-goals c).In_ok-opened in
    let p = err_from_is_err_and c.from_residual-in_err-sizes.result c.from_residual-in_err-sizes.ensures.1 in
    rw (p.1, p.2) (refused-first a.deck.now a.counts.pending a.counts.parked a.counts.terms a.store.now (length a.scratch.now) a.bars.now _
    (sizes-refused a.deck.now a.counts.pending a.counts.parked a.counts.terms a.store.now (length a.scratch.now) d.0 d.1 _ c.in_err-sizes.ensures))

pub returns-in_err-held-clause-goals : goal.returns-in_err-held-clause-goals
returns-in_err-held-clause-goals c =
    let a = c.args in
    let d = deck (goal.at.returns-in_err-held-clause-goals c).In_ok-opened in
    let p = err_from_is_err_and c.from_residual-in_err-held.result c.from_residual-in_err-held.ensures.1 in
    rw (p.1, p.2) (refused-first a.deck.now a.counts.pending a.counts.parked a.counts.terms a.store.now (length a.scratch.now) a.bars.now _
    (goals-refused a.deck.now a.counts.pending a.counts.parked a.counts.terms a.store.now (length a.scratch.now) d.0 d.1 c.in_ok-sizes.ensures _
    (c.in_err-held.ensures d.0 (ap open_deck c.in_ok-opened.ensures.words ∙ d.1))))

pub check_goals-requires : goal.check_goals-requires
check_goals-requires c = λ d e.
    let o = c.in_ok-held.ensures d (sym (ap open_deck c.new-clauses.ensures) ∙ e) in
    record { goals = unmarked o.0.pending ++ o.0.parked; are = goals-are o.2 }

pub returns-in_err-check_goals-clause-goals : goal.returns-in_err-check_goals-clause-goals
returns-in_err-check_goals-clause-goals c =
    let a = c.args in
    let d = deck (goal.at.returns-in_err-check_goals-clause-goals c).In_ok-opened in
    let opens = ap open_deck c.in_ok-opened.ensures.words ∙ d.1 in
    let h = c.in_ok-held.ensures d.0 opens in
    let p = err_from_is_err_and c.from_residual-in_err-check_goals.result c.from_residual-in_err-check_goals.ensures.1 in
    rw (p.1, p.2) (barred a.deck.now a.counts.pending a.counts.parked a.counts.terms a.store.now (length a.scratch.now) d.0 d.1 c.in_ok-sizes.ensures a.bars.now _ h _
    (c.in_err-check_goals.ensures d.0 _ (ap open_deck c.new-clauses.ensures ∙ opens) (goals-are h.2)))

pub returns-clause-goals : goal.returns-clause-goals
returns-clause-goals c =
    let a = c.args in
    let d = deck (goal.at.returns-clause-goals c).In_ok-opened in
    let opens = ap open_deck c.in_ok-opened.ensures.words ∙ d.1 in
    let h = c.in_ok-held.ensures d.0 opens in
    let-through a.deck.now a.counts.pending a.counts.parked a.counts.terms a.store.now (length a.scratch.now) d.0 d.1 c.in_ok-sizes.ensures a.bars.now _ h
    (c.in_ok-check_goals.ensures d.0 _ (ap open_deck c.new-clauses.ensures ∙ opens) (goals-are h.2))
