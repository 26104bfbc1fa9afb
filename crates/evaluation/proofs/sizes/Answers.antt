-- `sizes`: the store's two limits, then the scratch's.
use Prim.Native.Nat.{ℕ}
use mathlib.Core.Path.{◌≡◌, sym, ◌∙◌}
use mathlib.Core.Bool.{◌&&◌}
use lib.Dec.{leb}
use Rattle.std.specs.Range.{range_inclusive_start, range_inclusive_end}
use Rattle.evaluation.proofs.RunLaws.{is_le-leb, store-refused, scratch-small, sizes-fit}
use Rattle.evaluation.proofs.sizes.Goals as goal
use Rattle.evaluation.proofs.sizes.Goals.{After-contains}

-- What the range's test says, of its ends.
tested : (c : goal.After-contains) (a b : ℕ) → range_inclusive_start c.new.result ≡ a → range_inclusive_end c.new.result ≡ b
    → c.contains.result ≡ (leb a c.args.store && leb c.args.store b)
tested c a b s e = rw (s, e, c.new.ensures.exhausted, is_le-leb a c.args.store, is_le-leb c.args.store b) at c.contains.ensures.value

pub returns-then-not-contains : goal.returns-then-not-contains
returns-then-not-contains c =
    let r = c.new.ensures in
    store-refused c.args.store c.args.scratch (sym (tested (goal.at.returns-then-not-contains c).After-contains _ _ r.start r.end) ∙ c.if-not-contains.true)

pub returns-then-scratch-lt8192 : goal.returns-then-scratch-lt8192
returns-then-scratch-lt8192 c =
    let r = c.new.ensures in
    scratch-small c.args.store c.args.scratch
    (sym (tested (goal.at.returns-then-scratch-lt8192 c).After-contains _ _ r.start r.end) ∙ c.if-not-contains.false) c.if-scratch-lt8192.true

pub returns : goal.returns
returns c =
    let r = c.new.ensures in
    sizes-fit c.args.store c.args.scratch (sym (tested (goal.at.returns c).After-contains _ _ r.start r.end) ∙ c.if-not-contains.false) c.if-scratch-lt8192.false
