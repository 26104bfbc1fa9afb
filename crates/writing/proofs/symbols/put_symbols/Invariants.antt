-- The invariant: the lines of the symbols from n on are still to be written.
use mathlib.Core.List.{[]}
use lib.ListN.{drop}
use Rattle.rules.specs.Decks.{symbol_words}
use Rattle.text_rules.specs.TextWriter.{symbols_text}
use Rattle.deck.specs.Kinds.{symbols_of}
use Rattle.listing.proofs.PutLaws.{Left}
use Rattle.writing.specs.Writes.{format_of, lines_of}
use Rattle.writing.proofs.symbols.put_symbols.Given as goal

abbrev pub invariant-loop-n : goal.invariant-loop-n
invariant-loop-n l =
    Left l.initial.out (lines_of l.deck.words.now) l.out (symbols_text (format_of l.deck.words.now) l.n (symbols_of (drop l.n (symbol_words l.deck.words.now))) [])
