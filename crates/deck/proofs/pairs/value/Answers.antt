-- `value`: no symbol, one that is no number, and a number.
use mathlib.Core.Path.{sym, ap}
use Rattle.deck.specs.Pairs.{known_word}
use Rattle.deck.proofs.PairLaws.{value-past, value-plain, value-number}
use Rattle.deck.proofs.pairs.value.Goals as goal

pub returns-then-pairs-f : goal.returns-then-pairs-f
returns-then-pairs-f c vs e = ap known_word (sym (value-past c.args.pairs.now vs e c.args.f c.if-pairs-f.true))

pub returns-then-pairs-f-ne512 : goal.returns-then-pairs-f-ne512
returns-then-pairs-f-ne512 c vs e = ap known_word (sym (value-plain c.args.pairs.now vs e c.args.f c.if-pairs-f.false c.if-pairs-f-ne512.true))

pub returns : goal.returns
returns c vs e = ap known_word (sym (value-number c.args.pairs.now vs e c.args.f c.if-pairs-f.false c.if-pairs-f-ne512.false))
