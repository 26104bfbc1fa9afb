-- The invariant: the name is looked for along the chain of its bucket.
use Rattle.text.specs.Names.{slot_name}
use Rattle.text.proofs.NameLaws.{Chain, one_more}
use Rattle.text.proofs.names.Names.find.Given as goal

abbrev pub invariant-loop-next : goal.invariant-loop-next
invariant-loop-next g l = Chain (slot_name l.self-inside.text.now l.self-inside.slots.row) l.bytes l.self-inside.count (one_more l.next)

abbrev pub decreases-loop-next : goal.decreases-loop-next
decreases-loop-next g l = one_more l.next
