-- The invariant: the text is read as far as the walk has come.
use Rattle.std.proofs.Common.{◌≡◌}
use Rattle.text.specs.Steps.{state_of}
use Rattle.text.proofs.ReadLaws.{ReadTo}
use Rattle.text.proofs.grammar.unreadable.Given as goal

abbrev pub invariant-loop-t : goal.invariant-loop-t
invariant-loop-t l = record { same : l.t-iterator.text.now ≡ l.text; read : ReadTo l.text (state_of l.s) l.t-iterator.at }
