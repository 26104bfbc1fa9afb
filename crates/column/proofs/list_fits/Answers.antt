-- `list_fits`: the open goals that the list begins with, and whether they are bare.
use mathlib.Core.Path.{sym, ◌∙◌}
use Rattle.deck.proofs.OpenLaws.{accepted-deck}
use Rattle.column.proofs.ListLaws.{nothing-found, goals-found}
use Rattle.column.proofs.list_fits.Goals as goal

pub returns-then-is_none : goal.returns-then-is_none
returns-then-is_none c d e = sym (nothing-found d _ _ _ _ c.if-is_none.ensures (c.deck_goals.ensures d e))

pub bare-requires : goal.bare-requires
bare-requires c =
    let d = accepted-deck c.args.deck.now.words.now c.args.deck.now.opens in
    let f = goals-found d.0 _ _ _ _ c.if-is_none.ensures (c.deck_goals.ensures d.0 d.1) in
    (f.0, f.1, f.2)

pub returns : goal.returns
returns c d e =
    let f = goals-found d _ _ _ _ c.if-is_none.ensures (c.deck_goals.ensures d e) in
    c.bare.ensures f.0 f.1 f.2 ∙ sym f.3
