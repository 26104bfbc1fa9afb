-- The invariant: the entries so far are counted.
use Rattle.text_rules.specs.Text.{text_entries}
use Rattle.encoding.proofs.WalkLaws.{Walked}
use Rattle.encoding.proofs.sizes.sizes_of.Given as goal

abbrev pub invariant-loop-entry : goal.invariant-loop-entry
invariant-loop-entry l =
    (goal.iterator-loop-entry).can_next l.entry-iterator × (goal.iterator-loop-entry).is_finite l.entry-iterator
    × Walked (text_entries l.all.text.text.now) l.entry-iterator l.s
