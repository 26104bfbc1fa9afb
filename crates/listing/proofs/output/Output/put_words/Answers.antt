-- The invariant: the bytes of the words from the place on are still to be put.
use Prim.Native.Nat.{◌+◌, ◌/◌, ◌%◌}
use mathlib.Core.Path.{◌≡◌}
use mathlib.Core.List.{◌++◌}
use native.Mathlib.Omega.{arith}
use lib.ListN.{get_or, drop}
use Rattle.rules.specs.Program.{bytes_from}
use Rattle.listing.proofs.PutLaws.{Left, left-room, put_some, none_left}
use Rattle.listing.proofs.ByteLaws.{bytes_next, bytes-end, bytes-length}
use Rattle.listing.proofs.output.Output.put_words.Goals as goal
use Rattle.listing.proofs.output.Output.put_words.Goals.{After-to_le_bytes}

-- The next word's bytes in front of the others.
next :
    (c : After-to_le_bytes)
    → Left c.args.self.now (bytes_from c.args.words.now) c.loop-word.self
    (c.to_le_bytes.result ++ bytes_from (drop (c.loop-word.word-index + 1) c.args.words.now))
next c =
    let w = get_or c.args.words.now c.loop-word.word-index 0 in
    let high : w / 256 ≡ w / 256 % 256 = omega (arith, (c.type_inv.words c.loop-word.word-index).fits) in
    rw c.to_le_bytes.ensures (rw (bytes_next c.args.words.now c.loop-word.word-index c.loop-word-test.true, high) at c.loop-word.invariant)

pub put-requires : goal.put-requires
put-requires c = left-room c.to_le_bytes.result _ (next (goal.at.put-requires c).After-to_le_bytes) c.requires

pub loop-word-preserved : goal.loop-word-preserved
loop-word-preserved c = put_some (next (goal.at.loop-word-preserved c).After-to_le_bytes) c.put.ensures

pub returns-clause-adds : goal.returns-clause-adds
returns-clause-adds c = none_left (rw (bytes-end c.args.words.now c.loop-word.word-index (omega arith)) at c.loop-word.invariant)

pub returns-clause-number : goal.returns-clause-number
returns-clause-number c = omega (arith, bytes-length c.args.words.now)
