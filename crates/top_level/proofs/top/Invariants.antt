-- `top`: in each turn the evaluation comes to what it comes to from the level that the store and the answer list hold.
use mathlib.Core.Path.{◌≡◌}
use mathlib.Core.List.{List}
use Rattle.rules.specs.Syntax.{Deck, Goal}
use Rattle.rules.specs.Refusals.{accepted}
use Rattle.rules.specs.Decks.{open_deck}
use Rattle.rules.specs.Goals.{Marked}
use Rattle.top_level.specs.Top.{Stored, opening, evaluates, Goes}
use Rattle.top_level.proofs.TopLaws.{run_from}
use Rattle.top_level.proofs.top.Given as goal

abbrev pub invariant-loop-next : goal.invariant-loop-next
invariant-loop-next l =
    (d : Deck) (gs : List Goal) (ms : List Marked) → open_deck l.clauses.deck.words.now ≡ accepted d → Stored d.symbols l.initial.store l.fn.start.parts.parked l.fn.start.parts.held (opening gs ms)
    → let s = run_from d l.initial.answers l.initial.store gs ms l.fn.start.budget in Goes s (evaluates s) l.answers l.store l.at

abbrev pub decreases-loop-next : goal.decreases-loop-next
decreases-loop-next l = l.at.account.left
