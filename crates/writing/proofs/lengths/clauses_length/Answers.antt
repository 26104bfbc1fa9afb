-- The sum of the clauses' shares.
use Prim.Native.Nat.{◌≤◌}
use mathlib.Core.Path.{◌≡◌, ◌∙◌}
use native.Mathlib.Omega.{arith}
use lib.ListN.{length}
use Rattle.text_rules.specs.TextWriter.{clauses_text}
use Rattle.std.specs.Prelude.{sum_by}
use Rattle.std.specs.List.{range_with_len}
use Rattle.std.proofs.Common.{rules}
use Rattle.std.proofs.lemmas.Iterator.{serves_from_Range}
use Rattle.writing.specs.Writes.{deck_of}
use Rattle.writing.specs.Lengths.{clause_bytes_at}
use Rattle.writing.proofs.DeckLaws.{clause-count, few-clauses, clauses-sum}
use Rattle.writing.proofs.SumLaws.{range-fits, range-sum}
use Rattle.writing.proofs.lengths.clauses_length.Goals as goal
use Rattle.writing.proofs.lengths.clauses_length.Goals.{After-clause_count}

-- What the sum is, and that it is small.
total :
    (c : After-clause_count) → let text = length (clauses_text (deck_of c.args.deck.now.words.now).clauses) in
    (sum_by (clause_bytes_at c.args.deck.now.words.now) (range_with_len 0 c.clause_count.result) ≡ text) × (text ≤ 134250496)
total c =
    let ws = c.args.deck.now.words.now in
    let k = c.args.deck.now.opens in
    let e : c.clause_count.result ≡ length (deck_of ws).clauses = c.clause_count.ensures ∙ clause-count ws k in
    let s = clauses-sum ws k c.clause_count.result 0 (omega (arith, e)) in
    (s.0, omega (arith, s.1, e, few-clauses ws k))

pub sum-requires-clause-can : goal.sum-requires-clause-can
sum-requires-clause-can c = (tt, serves_from_Range (λ x q k. search rules) (λ x l u. search (rules, arith, c.map.ensures.source)))

pub sum-requires-clause-fits : goal.sum-requires-clause-fits
sum-requires-clause-fits c =
    let t = total (goal.at.sum-requires-clause-fits c).After-clause_count in
    range-fits _ (clause_bytes_at c.args.deck.now.words.now) (c.clause_count.result) c.map.ensures.source c.map.ensures.closure (λ x r q k. search rules) _ (omega (arith, t.0, t.1))

pub returns : goal.returns
returns c =
    let t = total (goal.at.returns c).After-clause_count in
    let s = range-sum _ (clause_bytes_at c.args.deck.now.words.now) (c.clause_count.result) c.map.ensures.source c.map.ensures.closure (λ x r q k. search rules) _ c.sum.ensures.ran in
    (s ∙ t.0, omega (arith, s, t.0, t.1))
