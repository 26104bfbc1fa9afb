-- `word`: a variable is no number; a symbol is one if it has a value.
use mathlib.Core.Path.{sym, ◌∙◌, ap}
use Rattle.rules.specs.Column.{number_word}
use Rattle.rules.specs.Decks.{open_deck}
use Rattle.deck.specs.Pairs.{known_word}
use Rattle.column.proofs.EntryLaws.{variable-word, symbol-word}
use Rattle.column.proofs.entries.word.Goals as goal

pub returns-then-cell-ge-VARIABLE : goal.returns-then-cell-ge-VARIABLE
returns-then-cell-ge-VARIABLE c d us e = ap known_word (sym (variable-word d.format c.args.cell us c.if-cell-ge-VARIABLE.true))

pub returns : goal.returns
returns c d us e =
    c.value.ensures d (ap open_deck c.parts.ensures ∙ e)
    ∙ ap (λ f. known_word (number_word d.format f)) c.from.ensures
    ∙ ap known_word (sym (symbol-word d.format c.args.cell us c.if-cell-ge-VARIABLE.false))
