-- The sum of the lines' lengths.
use Prim.Native.Nat.{◌≤◌}
use mathlib.Core.Path.{◌≡◌, ap, ◌∙◌}
use native.Mathlib.Omega.{arith}
use lib.ListN.{length}
use Rattle.std.specs.Prelude.{sum_by}
use Rattle.std.specs.List.{range_with_len}
use Rattle.std.proofs.Common.{rules}
use Rattle.std.proofs.lemmas.Iterator.{serves_from_Range}
use Rattle.writing.specs.Writes.{lines_of}
use Rattle.writing.specs.Lengths.{symbol_bytes_at}
use Rattle.writing.proofs.DeckLaws.{few-symbols, symbols-sum}
use Rattle.writing.proofs.SumLaws.{range-fits, range-sum}
use Rattle.writing.proofs.lengths.symbols_length.Goals as goal
use Rattle.writing.proofs.lengths.symbols_length.Goals.{After-symbols}

-- What the sum is, and that it is small.
total :
    (c : After-symbols) → let text = length (lines_of c.args.deck.now.words.now) in
    (sum_by (symbol_bytes_at c.args.deck.now.words.now) (range_with_len 0 (length c.symbols.result.now)) ≡ text) × (text ≤ 73728)
total c =
    let ws = c.args.deck.now.words.now in
    let k = c.args.deck.now.opens in
    let e = ap length c.symbols.ensures in
    let s = symbols-sum ws k (length c.symbols.result.now) 0 (omega (arith, e)) in
    (s.0, omega (arith, s.1, e, few-symbols ws k))

pub sum-requires-clause-can : goal.sum-requires-clause-can
sum-requires-clause-can c = (tt, serves_from_Range (λ x q k. search rules) (λ x l u. search (rules, arith, c.map.ensures.source)))

pub sum-requires-clause-fits : goal.sum-requires-clause-fits
sum-requires-clause-fits c =
    let t = total (goal.at.sum-requires-clause-fits c).After-symbols in
    range-fits _ (symbol_bytes_at c.args.deck.now.words.now) (length c.symbols.result.now) c.map.ensures.source c.map.ensures.closure (λ x r q k. search rules) _ (omega (arith, t.0, t.1))

pub returns : goal.returns
returns c =
    let t = total (goal.at.returns c).After-symbols in
    let s = range-sum _ (symbol_bytes_at c.args.deck.now.words.now) (length c.symbols.result.now) c.map.ensures.source c.map.ensures.closure (λ x r q k. search rules) _ c.sum.ensures.ran in
    (s ∙ t.0, omega (arith, s, t.0, t.1))
