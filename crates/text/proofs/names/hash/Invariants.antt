-- The invariant: the hash goes on from there.
use Rattle.std.proofs.Common.{◌≡◌, ◌<◌, drop}
use Rattle.text.specs.Hash.{hash_of}
use Rattle.text.proofs.names.hash.Given as goal

abbrev pub invariant-loop-b : goal.invariant-loop-b
invariant-loop-b l = (l.h < 1021) × (hash_of 0 l.bytes ≡ hash_of l.h (drop l.b-index l.bytes))
