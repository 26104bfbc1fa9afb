-- By the value that the deck has for the symbol.
use mathlib.Core.Path.{◌≡◌}
use mathlib.Core.List.{[]}
use native.Mathlib.Omega.{arith}
use Rattle.rules.specs.Decks.{symbol_words}
use Rattle.rules.specs.Column.{number_word}
use Rattle.text_rules.specs.TextWriter.{symbol_text, number_text}
use Rattle.deck.specs.Kinds.{symbol_of}
use Rattle.signature.specs.Symbols.{symbol_word}
use Rattle.writing.specs.Writes.{format_of, line_at}
use Rattle.writing.proofs.DeckLaws.{few-symbols, value-some, value-none}
use Rattle.writing.proofs.TextParts.{plain-line, value-line}
use Rattle.writing.proofs.symbols.put_declaration.Goals as goal
use Rattle.writing.proofs.symbols.put_declaration.Goals.{In-Some, In-None}

number : (k : In-Some) → let ws = k.args.deck.now.words.now in line_at ws k.args.n ≡ number_text k.in-Some.word k.args.n []
number k =
    let deck = k.args.deck.now in
    let ws = deck.words.now in
    value-line (symbol_of (symbol_word (symbol_words ws) k.args.n)) (number_word (format_of ws) k.args.n) k.args.n k.in-Some.word
    (value-some ws deck.opens k.parts.result.words.now k.parts.ensures k.args.n k.value.result k.value.ensures k.in-Some.word k.in-Some.is)

plain : (k : In-None) → let ws = k.args.deck.now.words.now in line_at ws k.args.n ≡ symbol_text (symbol_of (symbol_word (symbol_words ws) k.args.n)) k.args.n []
plain k =
    let deck = k.args.deck.now in
    let ws = deck.words.now in
    plain-line (symbol_of (symbol_word (symbol_words ws) k.args.n)) (number_word (format_of ws) k.args.n) k.args.n
    (value-none ws deck.opens k.parts.result.words.now k.parts.ensures k.args.n k.value.result k.value.ensures k.in-None.is)

pub put_number-requires-clause-small : goal.put_number-requires-clause-small
put_number-requires-clause-small c = omega (arith, few-symbols c.args.deck.now.words.now c.args.deck.now.opens, c.requires.symbol)

pub put_number-requires-clause-room : goal.put_number-requires-clause-room
put_number-requires-clause-room c = rw (number (goal.at.put_number-requires-clause-room c).In-Some) at c.requires.room

pub returns-in-Some : goal.returns-in-Some
returns-in-Some c = rw (number (goal.at.returns-in-Some c).In-Some) c.put_number.ensures

pub put_symbol-requires-clause-room : goal.put_symbol-requires-clause-room
put_symbol-requires-clause-room c = rw (plain (goal.at.put_symbol-requires-clause-room c).In-None) at c.requires.room

pub returns-in-None : goal.returns-in-None
returns-in-None c = rw (plain (goal.at.returns-in-None c).In-None) c.put_symbol.ensures
