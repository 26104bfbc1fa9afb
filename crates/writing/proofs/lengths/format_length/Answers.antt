-- Four bytes, or none.
use mathlib.Core.Path.{ap, sym, ◌∙◌}
use native.Mathlib.Omega.{arith}
use lib.ListN.{length}
use Rattle.writing.specs.Writes.{format_of}
use Rattle.writing.proofs.TextParts.{format-line, no-format-line}
use Rattle.writing.proofs.lengths.format_length.Goals as goal

pub returns-then-is_second : goal.returns-then-is_second
returns-then-is_second c = (sym (ap length (format-line (format_of c.args.deck.now.words.now) (sym c.is_second.ensures ∙ c.if-is_second.true))), omega arith)

pub returns-else-is_second : goal.returns-else-is_second
returns-else-is_second c = (sym (ap length (no-format-line (format_of c.args.deck.now.words.now) (sym c.is_second.ensures ∙ c.if-is_second.false))), omega arith)
