-- The invariant: no entry is passed.
use mathlib.Core.Path.{sym, ◌∙◌}
use Rattle.encoding.specs.Walk.{kind_before}
use Rattle.encoding.proofs.WalkLaws.{entries-end}
use Rattle.encoding.proofs.walk.EntriesIterator.next.Goals as goal

pub returns-in-Ending-clause-steps : goal.returns-in-Ending-clause-steps
returns-in-Ending-clause-steps c =
    let w = c.loop-self.self in
    let inv = c.loop-self.invariant in
    record { text = inv.0; next = sym inv.2 ∙ entries-end w.text.now w.at c.next_token-t.result c.next_token-t.ensures (kind_before w.place) c.in-Ending.is }
