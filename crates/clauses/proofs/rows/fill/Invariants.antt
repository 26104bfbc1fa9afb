-- `fill` meets its contract. The loop's invariant: the clauses so far are in their rows. Assumes nothing.
use Rattle.std.proofs.Common.{◌≡◌}
use Rattle.rules.specs.Syntax.{Deck}
use Rattle.rules.specs.Refusals.{accepted}
use Rattle.rules.specs.Decks.{open_deck}
use Rattle.rules.specs.Resolution.{clauses_about}
use Rattle.clauses.proofs.RowLaws.{Rowing}
use Rattle.clauses.proofs.rows.fill.Given as goal

abbrev pub invariant-loop-k : goal.invariant-loop-k
invariant-loop-k l = (d : Deck) → open_deck l.deck.words.now ≡ accepted d → Rowing (clauses_about l.p d.clauses) l.k l.rows
