-- Seven bytes, the symbol's number, and its arity or value.
use native.Mathlib.Omega.{arith}
use lib.ListN.{length}
use mathlib.Core.Path.{ap}
use mathlib.Core.List.{[]}
use Rattle.rules.specs.Decks.{symbol_words}
use Rattle.rules.specs.Column.{number_word}
use Rattle.rules.specs.Listing.{decimal}
use Rattle.signature.specs.Symbols.{symbol_word}
use Rattle.writing.specs.Writes.{format_of}
use Rattle.writing.proofs.DeckLaws.{few-symbols, value-some, value-none}
use Rattle.writing.proofs.LengthLaws.{line-none, line-some}
use Rattle.writing.proofs.lengths.symbol_length.Goals as goal

pub digits-requires : goal.digits-requires
digits-requires c = omega (arith, few-symbols c.args.deck.now.words.now c.args.deck.now.opens, c.requires)

pub digits-requires-in-None : goal.digits-requires-in-None
digits-requires-in-None c = omega (arith, few-symbols c.args.deck.now.words.now c.args.deck.now.opens, c.requires)

pub returns-in-Some : goal.returns-in-Some
returns-in-Some c =
    let deck = c.args.deck.now in
    let ws = deck.words.now in
    let n = c.args.n in
    let v = value-some ws deck.opens c.parts.result.words.now c.parts.ensures n c.value.result c.value.ensures c.in-Some.word c.in-Some.is in (
      omega (arith, line-some (symbol_word (symbol_words ws) n) n c.in-Some.word (number_word (format_of ws) n) v, c.digits.ensures.0, c.value_length.ensures.0),
      omega (arith, c.digits.ensures.1, c.value_length.ensures.1),
    )

pub returns-in-None : goal.returns-in-None
returns-in-None c =
    let deck = c.args.deck.now in
    let ws = deck.words.now in
    let n = c.args.n in
    let w = symbol_word (symbol_words ws) n in
    let v = value-none ws deck.opens c.parts.result.words.now c.parts.ensures n c.value.result c.value.ensures c.in-None.is in (
      omega (arith, line-none w n (number_word (format_of ws) n) v, c.digits-in-None.ensures.0, c.digits-in-None-2.ensures.0, ap (λ x. length (decimal x [])) (rw c.symbols.ensures at c.arity.ensures)),
      omega (arith, c.digits-in-None.ensures.1, c.digits-in-None-2.ensures.1),
    )
