-- `starts::rise`: the starts so far rise up to `last`, so the rest depends on those after them.
use mathlib.Core.Path.{◌≡◌}
use lib.ListN.{drop}
use Rattle.rules.specs.Decks.{rising}
use Rattle.deck.proofs.starts.rise.Given as goal

abbrev pub invariant-loop-start : goal.invariant-loop-start
invariant-loop-start l = rising l.total l.before l.starts ≡ rising l.total l.last (drop l.start-index l.starts)
