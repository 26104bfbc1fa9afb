-- The invariant: the first misuse is at `at` or after it.
use Prim.Native.Nat.{◌-◌, ◌≤◌}
use mathlib.Core.Path.{◌≡◌}
use lib.ListN.{length}
use Rattle.uses.specs.Uses.{misuse_from}
use Rattle.uses.proofs.batch.misused_in_batches.Given as goal

abbrev pub invariant-loop-place : goal.invariant-loop-place
invariant-loop-place l = let text = l.all.text.text.now in (l.at ≤ length text) × (misuse_from text l.all.end ≡ misuse_from text l.at)

abbrev pub decreases-loop-place : goal.decreases-loop-place
decreases-loop-place l = length l.all.text.text.now - l.at
