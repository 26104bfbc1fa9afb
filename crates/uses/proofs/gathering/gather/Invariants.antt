-- The invariant: the names as far as `at` are gathered.
use mathlib.Core.Path.{◌≡◌}
use Rattle.uses.specs.Batches.{Gathered}
use Rattle.uses.proofs.gathering.gather.Given as goal

abbrev pub invariant-loop-u : goal.invariant-loop-u
invariant-loop-u l =
    (goal.iterator-loop-u).can_next l.u-iterator × (goal.iterator-loop-u).is_finite l.u-iterator
    × (l.names.text ≡ l.initial.names.text) × (l.u-iterator.text.text.now ≡ l.names.text) × (l.u-iterator.at ≡ l.at) × Gathered l.names l.start l.at
