-- The line of the format, then those of the symbols.
use mathlib.Core.Path.{refl}
use mathlib.Core.List.{[]}
use Rattle.text_rules.specs.TextWriter.{format_text}
use Rattle.listing.proofs.PutLaws.{all_left, left-room, rest-room, put_some, put_last}
use Rattle.writing.specs.Writes.{format_of, lines_of}
use Rattle.writing.proofs.symbols.put_declarations.Goals as goal

pub put_format-requires : goal.put_format-requires
put_format-requires c =
    let ws = c.args.deck.now.words.now in left-room (format_text (format_of ws) []) (lines_of ws) (all_left c.args.out.now refl) c.requires

pub put_symbols-requires : goal.put_symbols-requires
put_symbols-requires c = rest-room (put_some (all_left c.args.out.now refl) c.put_format.ensures) c.requires

pub returns : goal.returns
returns c = put_last (put_some (all_left c.args.out.now refl) c.put_format.ensures) c.put_symbols.ensures
