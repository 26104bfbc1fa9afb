-- The invariant: the first misuse is still ahead.
use mathlib.Core.Path.{◌≡◌}
use Rattle.uses.specs.Uses.{misuse_from}
use Rattle.uses.proofs.checking.misused_in_table.Given as goal

abbrev pub invariant-loop-u : goal.invariant-loop-u
invariant-loop-u l =
    let text = l.names.all.text.text.now in
    (goal.iterator-loop-u).can_next l.u-iterator × (goal.iterator-loop-u).is_finite l.u-iterator
    × (l.u-iterator.text.text.now ≡ text) × (misuse_from text l.names.all.end ≡ misuse_from text l.u-iterator.at)
