-- `kinds`: each place is written with its word of kind, and at the end the places are all of them.
use Rattle.std.proofs.Common.{◌≡◌, ◌<◌, ◌≤◌, ◌≢◌, ◌/◌, length, take, arith, sym, ◌∙◌, below_more, get_or-set_same, get_or-set_other}
use Rattle.std.proofs.lemmas.List.{ext_get_or}
use lib.ListN.{length-set}
use lib.Seq.{get_or-take, length-take-le}
use Rattle.rules.specs.Decks.{kind_words}
use Rattle.deck.proofs.PairLaws.{kinds-at, kinds-length}
use Rattle.deck.proofs.pairs.kinds.Goals as goal

pub loop-i-preserved : goal.loop-i-preserved
loop-i-preserved c = (
  length-set c.loop-i.table c.loop-i.i c.kind.result ∙ c.loop-i.invariant.0,
  below_more _ _
      (λ k h. let ne : k ≢ c.loop-i.i = omega arith in rw get_or-set_other (c.loop-i.invariant.1 k h))
      (let l : c.loop-i.i < length c.loop-i.table = omega (arith, c.requires, c.loop-i-test.true, c.loop-i.invariant.0) in
      rw get_or-set_same (c.kind.ensures ∙ sym (kinds-at c.args.pairs.now c.loop-i.i c.loop-i-test.true))),
)

pub returns : goal.returns
returns c =
    let n = length c.args.pairs.now / 2 in
    let inside : n ≤ length c.loop-i.table = omega (arith, c.requires, c.loop-i.invariant.0) in
    let many : length (take n c.loop-i.table) ≡ n = length-take-le n c.loop-i.table inside in
    ext_get_or 0 (take n c.loop-i.table) (kind_words c.args.pairs.now) (many ∙ sym (kinds-length c.args.pairs.now))
    (λ i h. let l : i < n = omega (arith, h, many) in get_or-take n c.loop-i.table i 0 l ∙ c.loop-i.invariant.1 i (omega (arith, l, c.loop-i-test.false)))
