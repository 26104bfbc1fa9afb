-- `raise_all`: the clauses before i are done.
use Rattle.std.proofs.Common.{◌≡◌, length}
use Rattle.rules.specs.Syntax.{Deck}
use Rattle.rules.specs.Refusals.{accepted}
use Rattle.rules.specs.Decks.{open_deck}
use Rattle.ranks.proofs.RaiseLaws.{Done}
use Rattle.ranks.proofs.raising.raise_all.Given as goal

abbrev pub invariant-loop-i : goal.invariant-loop-i
invariant-loop-i l = (length l.words ≡ 4096) × ((d : Deck) → open_deck l.deck.words.now ≡ accepted d → Done d.clauses l.initial.words l.words l.done l.i)
