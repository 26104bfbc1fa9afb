-- The line of the format, the symbols' lines and the clauses'.
use mathlib.Core.Path.{ap}
use mathlib.Core.List.{[], ◌++◌}
use native.Mathlib.Omega.{arith}
use lib.ListN.{length, length-append}
use Rattle.text_rules.specs.TextWriter.{symbols_text, format_text, clauses_text}
use Rattle.writing.specs.Writes.{deck_of}
use Rattle.writing.proofs.TextParts.{deck-parts}
use Rattle.writing.proofs.DeckLaws.{same-symbols}
use Rattle.writing.proofs.lengths.deck_length.Goals as goal

pub returns : goal.returns
returns c =
    let ws = c.args.deck.now.words.now in
    let d = deck_of ws in
    let lines = symbols_text d.format 0 d.symbols [] in
    let r = rw (← same-symbols ws c.args.deck.now.opens) at c.symbols_length.ensures.0 in
    omega (
      arith,
      r,
      c.format_length.ensures.0,
      c.clauses_length.ensures.0,
      ap length (deck-parts d),
      length-append (format_text d.format [] ++ lines) (clauses_text d.clauses),
      length-append (format_text d.format []) lines,
    )
