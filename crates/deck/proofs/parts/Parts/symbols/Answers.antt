-- `symbols`: the table has room, and the words are those of the format.
use mathlib.Core.Path.{sym, ◌∙◌, ap}
use borrow.Author.Tests.{eq-eqb, ne_eqb}
use Rattle.rules.specs.Decks.{kind_words, symbol_words}
use Rattle.deck.proofs.HeaderLaws.{part-short}
use Rattle.deck.proofs.parts.Parts.symbols.Goals as goal

pub kinds-requires : goal.kinds-requires
kinds-requires c = rw c.symbol_part-part.ensures (part-short c.args.self.now.words.now c.args.self.now.fits)

pub returns-then-self-eq2 : goal.returns-then-self-eq2
unfolding symbol_words
returns-then-self-eq2 c =
    c.kinds.ensures ∙ ap kind_words c.symbol_part-part.ensures ∙ sym (rw (eq-eqb _ 2 c.if-self-eq2.true, symbol_words))

pub returns-else-self-eq2 : goal.returns-else-self-eq2
unfolding symbol_words
returns-else-self-eq2 c = c.symbol_part-part.ensures ∙ sym (rw (ne_eqb _ 2 c.if-self-eq2.false, symbol_words))
