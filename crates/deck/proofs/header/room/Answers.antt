-- `room`: two words a symbol in format 2, else one.
use mathlib.Core.Path.{refl}
use Rattle.rules.specs.Decks.{symbol_room}
use borrow.Author.Tests.{eq-eqb, ne_eqb}
use Rattle.deck.proofs.header.room.Goals as goal

pub returns-then-format-eq2-clause-words : goal.returns-then-format-eq2-clause-words
unfolding symbol_room
returns-then-format-eq2-clause-words c = rw (eq-eqb c.args.format 2 c.if-format-eq2.true, symbol_room) refl

pub returns-else-format-eq2-clause-words : goal.returns-else-format-eq2-clause-words
unfolding symbol_room
returns-else-format-eq2-clause-words c = rw (ne_eqb c.args.format 2 c.if-format-eq2.false, symbol_room) refl
