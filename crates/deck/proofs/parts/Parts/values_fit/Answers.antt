-- `values_fit`: in format 1 there is nothing to look at.
use mathlib.Core.Path.{refl, sym, ◌∙◌, ap}
use borrow.Author.Tests.{eq-eqb, ne_eqb}
use Rattle.rules.specs.Decks.{read_values, keep_distinct, read_format}
use Rattle.deck.specs.Answers.{found}
use Rattle.deck.proofs.parts.Parts.values_fit.Goals as goal

pub returns-then-self-ne2 : goal.returns-then-self-ne2
unfolding read_format found
returns-then-self-ne2 c = rw (ne_eqb _ 2 c.if-self-ne2.true, read_format) refl

pub returns-else-self-ne2 : goal.returns-else-self-ne2
unfolding read_format
returns-else-self-ne2 c =
    c.fit.ensures ∙ ap (λ part. found (keep_distinct (read_values part))) c.symbol_part.ensures ∙ ap found (sym (rw (eq-eqb _ 2 c.if-self-ne2.false, read_format)))
