-- The invariant: the declarations so far are looked up.
use mathlib.Core.Path.{◌≡◌}
use Rattle.uses.proofs.ArityLaws.{WalkedTo}
use Rattle.uses.proofs.arities.declared.Given as goal

abbrev pub invariant-loop-d : goal.invariant-loop-d
invariant-loop-d l =
    (goal.iterator-loop-d).can_next l.d-iterator × (goal.iterator-loop-d).is_finite l.d-iterator
    × (l.d-iterator.text.text.now ≡ l.names.text) × WalkedTo l.names l.found l.d-iterator.at
