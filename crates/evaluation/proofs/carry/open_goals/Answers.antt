-- `open_goals`: the goals that were found on a deck without loose variables, refusal 13, or refusal 12.
use mathlib.Core.Path.{sym, ◌∙◌, ap}
use Rattle.std.specs.Result.{result_ok}
use Rattle.std.proofs.lemmas.Result.{err_from_is_err_and}
use Rattle.evaluation.proofs.CarryLaws.{goals-loose, open-as, not-open}
use Rattle.evaluation.proofs.carry.open_goals.Goals as goal

pub returns-in_err-goals : goal.returns-in_err-goals
returns-in_err-goals c =
    let a = c.args in
    let p = err_from_is_err_and c.from_residual.result c.from_residual.ensures.1 in
    rw (p.1, p.2) (λ d e. not-open d a.store.now a.counts.pending a.counts.parked a.counts.terms _ _ (sym c.ok_or.ensures.value ∙ c.in_err-goals.was) (c.deck_goals.ensures d e))

pub returns-then-not-clauses_tight : goal.returns-then-not-clauses_tight
returns-then-not-clauses_tight c =
    let a = c.args in
    let t = c.clauses_tight in
    λ d e. goals-loose d a.store.now a.counts.pending a.counts.parked a.counts.terms _ _ t.result (c.ok_or.ensures.ok_part ∙ ap result_ok c.in_ok-goals.was) (c.deck_goals.ensures d e)
    (t.ensures d e) c.if-not-clauses_tight.true

pub returns : goal.returns
returns c =
    let a = c.args in
    let t = c.clauses_tight in
    λ d e. open-as d a.store.now a.counts.pending a.counts.parked a.counts.terms _ _ t.result (c.ok_or.ensures.ok_part ∙ ap result_ok c.in_ok-goals.was) (c.deck_goals.ensures d e)
    (t.ensures d e) c.if-not-clauses_tight.false
