-- The header's first word.
use native.Mathlib.Omega.{arith}
use Rattle.writing.proofs.DeckLaws.{long-enough, second-format}
use Rattle.writing.proofs.symbols.is_second.Goals as goal

pub bounds-deck-0 : goal.bounds-deck-0
bounds-deck-0 c = omega (arith, long-enough c.args.deck.now.words.now c.args.deck.now.opens)

pub returns : goal.returns
returns c = second-format c.args.deck.now.words.now c.args.deck.now.opens
