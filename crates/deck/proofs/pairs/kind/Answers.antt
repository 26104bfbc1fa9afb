-- `kind`: a number is taken for a functor of arity 0.
use mathlib.Core.Path.{refl}
use Rattle.rules.specs.Decks.{kind_word}
use borrow.Author.Tests.{eq-eqb, ne_eqb}
use Rattle.deck.proofs.pairs.kind.Goals as goal

pub returns-then-word-eq512 : goal.returns-then-word-eq512
unfolding kind_word
returns-then-word-eq512 c = rw (eq-eqb c.args.word 512 c.if-word-eq512.true, kind_word) refl

pub returns-else-word-eq512 : goal.returns-else-word-eq512
unfolding kind_word
returns-else-word-eq512 c = rw (ne_eqb c.args.word 512 c.if-word-eq512.false, kind_word) refl
