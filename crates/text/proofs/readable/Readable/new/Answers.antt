-- A text with no place where it stops is in the grammar.
use Rattle.std.proofs.Common.{◌∙◌, ap}
use Rattle.text.specs.Steps.{option_of}
use Rattle.text.proofs.ReadLaws.{no_place}
use Rattle.text.proofs.readable.Readable.new.Goals as goal

pub invariant_of-result : goal.invariant_of-result
invariant_of-result c = record { starts = c.of-start.ensures; in_grammar = no_place c.args.text.now _ (c.unreadable.ensures ∙ ap option_of c.in-None.is) }
