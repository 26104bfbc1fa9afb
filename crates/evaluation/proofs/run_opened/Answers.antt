-- `run_opened`: the refusal of the checks; or the first goal is held, and the evaluation from it is what the run gives.
use mathlib.Core.Path.{◌≡◌, ◌∙◌, ap}
use mathlib.Core.List.{[], ◌∷◌}
use native.Mathlib.Omega.{arith}
use lib.ListN.{length}
use Rattle.std.proofs.lemmas.Result.{err_from_is_err_and}
use Rattle.rules.specs.Syntax.{Deck}
use Rattle.rules.specs.Refusals.{accepted}
use Rattle.rules.specs.Decks.{symbol_words, open_deck}
use Rattle.rules.specs.Goals.{first_goal}
use Rattle.rules.specs.Run.{run_on}
use Rattle.deck.proofs.OpenLaws.{accepted-deck}
use Rattle.top_level.specs.Top.{Stored, opening}
use Rattle.top_level.proofs.StoredLaws.{stored-first}
use Rattle.evaluation.specs.Results.{slices}
use Rattle.evaluation.proofs.RunLaws.{Fresh, fresh-passes, asked-query, run-refused, run-next, from-refused, from-accepted, gives-refused, topped-as, gives-accepted}
use Rattle.evaluation.proofs.run_opened.Goals as goal
use Rattle.evaluation.proofs.run_opened.Goals.{Start, In_ok-refusal, After-new-clauses, After-first-held}

-- The deck, and the query that is let through.
deck_of : (c : goal.Start) → (d : Deck) × (open_deck c.args.opened.words.now ≡ accepted d)
deck_of c = accepted-deck c.args.opened.words.now c.args.opened.opens

pub returns-in_err-refusal : goal.returns-in_err-refusal
unfolding run_on
returns-in_err-refusal c =
    let a = c.args in
    let d = deck_of (goal.at.returns-in_err-refusal c).Start in
    let p = err_from_is_err_and c.from_residual.result c.from_residual.ensures.1 in
    rw (p.1, p.2)
    (gives-refused (run_on a.opened.words.now a.query.now a.bars.now a.budget (slices a.answers.now a.store.now a.scratch.now)) (slices a.answers.now a.store.now a.scratch.now) c.in_err-refusal.field-0.0
    (run-refused a.opened.words.now a.query.now a.bars.now a.budget (length a.answers.now) (length a.store.now) (length a.scratch.now) d.0 d.1 c.in_err-refusal.field-0.0 (c.in_err-refusal.ensures d.0 d.1)))

given : (c : goal.In_ok-refusal) (d : Deck) → let a = c.args in open_deck a.opened.words.now ≡ accepted d → Fresh d a.query.now (length a.store.now) (length a.scratch.now)
given c d o = let a = c.args in fresh-passes d a.query.now (length a.store.now) (length a.scratch.now) (c.in_ok-refusal.ensures d o)

opens : (c : goal.After-new-clauses) (d : Deck) → open_deck c.args.opened.words.now ≡ accepted d → open_deck c.new-clauses.result.deck.words.now ≡ accepted d
opens c d o = ap open_deck c.new-clauses.ensures ∙ o

pub returns-in_err-check_query : goal.returns-in_err-check_query
unfolding run_on
returns-in_err-check_query c =
    let a = c.args in
    let at = goal.at.returns-in_err-check_query c in
    let d = deck_of at.Start in
    let g = given at.In_ok-refusal d.0 d.1 in
    let p = err_from_is_err_and c.from_residual-in_err-check_query.result c.from_residual-in_err-check_query.ensures.1 in
    rw (p.1, p.2)
    (gives-refused (run_on a.opened.words.now a.query.now a.bars.now a.budget (slices a.answers.now a.store.now a.scratch.now)) (slices a.answers.now a.store.now a.scratch.now) c.in_err-check_query.field-0.0
    (run-next a.opened.words.now a.query.now a.bars.now a.budget (length a.answers.now) (length a.store.now) (length a.scratch.now) d.0 d.1 g
    ∙ from-refused d.0 a.bars.now (first_goal g.query ∷ []) [] a.budget (length a.answers.now) (length a.store.now) c.in_err-check_query.field-0.0
    (c.in_err-check_query.ensures d.0 g.query (opens at.After-new-clauses d.0 d.1) g.asks)))

pub first-held-requires-clause-query : goal.first-held-requires-clause-query
first-held-requires-clause-query c =
    let a = c.args in
    let at = goal.at.first-held-requires-clause-query c in
    let d = deck_of at.Start in
    let g = given at.In_ok-refusal d.0 d.1 in
    record {
      symbol_words = symbol_words a.opened.words.now;
      symbols = d.0.symbols;
      query = g.query;
      queries = asked-query d.0 a.query.now (length a.store.now) (length a.scratch.now) a.opened.words.now d.1 g;
    }

pub first-held-requires-clause-room : goal.first-held-requires-clause-room
first-held-requires-clause-room c =
    let at = goal.at.first-held-requires-clause-room c in
    let d = deck_of at.Start in
    (given at.In_ok-refusal d.0 d.1).least

-- The first goal is held, and nothing is parked.
held : (c : goal.After-first-held) (d : Deck) (o : open_deck c.args.opened.words.now ≡ accepted d) → let a = c.args in (g : Fresh d a.query.now (length a.store.now) (length a.scratch.now))
    → Stored d.symbols c.first-held.new.store 0 c.first-held.result (opening (first_goal g.query ∷ []) [])
held c d o g =
    let a = c.args in
    stored-first (c.first-held.ensures (symbol_words a.opened.words.now) d.symbols g.query (asked-query d a.query.now (length a.store.now) (length a.scratch.now) a.opened.words.now o g))

pub from_goals-requires-clause-opening : goal.from_goals-requires-clause-opening
from_goals-requires-clause-opening c =
    let k = goal.at.from_goals-requires-clause-opening c in
    let d = deck_of k.Start in
    let g = given k.In_ok-refusal d.0 d.1 in
    record { deck = d.0; goals = first_goal g.query ∷ []; parked_goals = []; opens = opens k.After-new-clauses d.0 d.1; stored = held k.After-first-held d.0 d.1 g }

pub from_goals-requires-clause-short_store : goal.from_goals-requires-clause-short_store
from_goals-requires-clause-short_store c =
    let k = goal.at.from_goals-requires-clause-short_store c in
    let d = deck_of k.Start in
    omega (arith, (given k.In_ok-refusal d.0 d.1).most, c.first-held.auto.store)

pub from_goals-requires-clause-room : goal.from_goals-requires-clause-room
from_goals-requires-clause-room c =
    let k = goal.at.from_goals-requires-clause-room c in
    let d = deck_of k.Start in
    (given k.In_ok-refusal d.0 d.1).scratch

pub returns : goal.returns
unfolding run_on
returns c =
    let a = c.args in
    let at = goal.at.returns c in
    let d = deck_of at.Start in
    let g = given at.In_ok-refusal d.0 d.1 in
    let k = c.first-held in
    let t = c.from_goals in
    gives-accepted d.0 (first_goal g.query ∷ []) [] a.budget a.answers.now a.store.now a.scratch.now
    t.new.answers t.new.store t.new.scratch t.result
    (run_on a.opened.words.now a.query.now a.bars.now a.budget (slices a.answers.now a.store.now a.scratch.now))
    (run-next a.opened.words.now a.query.now a.bars.now a.budget (length a.answers.now) (length a.store.now) (length a.scratch.now) d.0 d.1 g
    ∙ from-accepted d.0 a.bars.now (first_goal g.query ∷ []) [] a.budget (length a.answers.now) (length a.store.now)
    (c.in_ok-check_query.ensures d.0 g.query (opens at.After-new-clauses d.0 d.1) g.asks))
    (t.auto.store ∙ k.auto.store) t.auto.scratch
    (topped-as d.0 (first_goal g.query ∷ []) [] t.result k.auto.store (t.ensures d.0 (first_goal g.query ∷ []) [] (opens at.After-new-clauses d.0 d.1) (held at.After-first-held d.0 d.1 g)))
