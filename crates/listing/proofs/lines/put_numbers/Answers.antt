-- The invariant: the numbers from the place on are still to be put.
use Prim.Native.Nat.{◌+◌}
use mathlib.Core.List.{[], ◌∷◌, ◌++◌}
use native.Mathlib.Omega.{arith}
use lib.ListN.{get_or, drop}
use Rattle.rules.specs.Listing.{decimal}
use Rattle.listing.specs.Shown.{numbers_text}
use Rattle.listing.proofs.PutLaws.{Left, left-room, rest-room, put_some, put_last}
use Rattle.listing.proofs.LineLaws.{numbers-next, numbers-end}
use Rattle.listing.proofs.lines.put_numbers.Goals as goal
use Rattle.listing.proofs.lines.put_numbers.Goals.{In-loop-n, After-loop-n}

-- The next number in front of the others, and the end.
next :
    (c : In-loop-n) → let ns = c.args.numbers.now in let i = c.loop-n.n-index in
    Left c.args.out.now (numbers_text ns) c.loop-n.out ((32 ∷ decimal (get_or ns i 0) []) ++ numbers_text (drop (i + 1) ns))
next c = rw (numbers-next c.args.numbers.now c.loop-n.n-index c.loop-n-test.true) at c.loop-n.invariant

ending : (c : After-loop-n) → Left c.args.out.now (numbers_text c.args.numbers.now) c.loop-n.out (10 ∷ [])
ending c = rw (numbers-end c.args.numbers.now c.loop-n.n-index (omega arith)) at c.loop-n.invariant

pub put_prefixed-requires : goal.put_prefixed-requires
put_prefixed-requires c = left-room (32 ∷ decimal (get_or c.args.numbers.now c.loop-n.n-index 0) []) _ (next (goal.at.put_prefixed-requires c).In-loop-n) c.requires

pub loop-n-preserved : goal.loop-n-preserved
loop-n-preserved c = put_some (next (goal.at.loop-n-preserved c).In-loop-n) c.put_prefixed.ensures

pub put-requires : goal.put-requires
put-requires c = rest-room (ending (goal.at.put-requires c).After-loop-n) c.requires

pub returns : goal.returns
returns c = put_last (ending (goal.at.returns c).After-loop-n) c.put.ensures
