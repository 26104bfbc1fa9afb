-- A line, or nothing.
use mathlib.Core.Path.{sym, ◌∙◌}
use Rattle.listing.proofs.PutLaws.{adds_nothing}
use Rattle.writing.specs.Writes.{format_of}
use Rattle.writing.proofs.TextParts.{format-line, no-format-line}
use Rattle.writing.proofs.symbols.put_format.Goals as goal

pub put-requires : goal.put-requires
put-requires c = rw (format-line (format_of c.args.deck.now.words.now) (sym c.is_second.ensures ∙ c.if-is_second.true)) at c.requires

pub returns-then-is_second : goal.returns-then-is_second
returns-then-is_second c = rw (format-line (format_of c.args.deck.now.words.now) (sym c.is_second.ensures ∙ c.if-is_second.true)) c.put.ensures

pub returns-else-is_second : goal.returns-else-is_second
returns-else-is_second c = rw (no-format-line (format_of c.args.deck.now.words.now) (sym c.is_second.ensures ∙ c.if-is_second.false)) (adds_nothing c.args.out.now)
