-- `value`: a deck of format 1 has no numbers; in format 2 the words of its symbols say it.
use mathlib.Core.Path.{sym, ◌∙◌, ap}
use Rattle.rules.specs.Decks.{read_values}
use Rattle.rules.specs.Column.{number_word}
use Rattle.deck.specs.Pairs.{known_word}
use Rattle.deck.proofs.ValueLaws.{format-values, format-1-values}
use Rattle.deck.proofs.parts.Parts.value.Goals as goal

pub returns-then-self-ne2 : goal.returns-then-self-ne2
returns-then-self-ne2 c d e = ap known_word (sym (format-1-values c.args.self.now.words.now d e c.if-self-ne2.true c.args.f))

pub returns : goal.returns
returns c d e =
    let v = format-values c.args.self.now.words.now d e c.if-self-ne2.false in
    c.value.ensures v.0 (ap read_values c.symbol_part.ensures ∙ v.1) ∙ ap (λ F. known_word (number_word F c.args.f)) v.2
