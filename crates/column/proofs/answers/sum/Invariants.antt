-- `sum`: the sum so far, with the words of the answers that are left, is the column's.
use Prim.Native.Nat.{ℕ, ◌+◌}
use mathlib.Core.Path.{◌≡◌}
use mathlib.Core.List.{List}
use lib.ListN.{length}
use lib.IntN.{ℤ, pos}
use Rattle.rules.specs.Syntax.{Format, Deck, Goal}
use Rattle.rules.specs.Refusals.{accepted}
use Rattle.rules.specs.Decks.{symbol_words, open_deck}
use Rattle.rules.specs.Column.{column_words}
use Rattle.column.specs.Entries.{ColumnAt}
use Rattle.column.proofs.SumLaws.{add_to, Within}
use Rattle.column.proofs.answers.sum.Given as goal

pub record AnswersLeft (symbols : List ℕ) (F : Format) (place n i : ℕ) (sum : ℤ) (rest : List ℕ) (gs : List Goal) : Type 0 where
  pub others : List Goal
  pub standing : ColumnAt symbols rest others place
  pub many : i + length others ≡ n
  pub left : add_to (pos 0) (column_words F place gs) ≡ add_to sum (column_words F place others)

abbrev pub invariant-loop-i : goal.invariant-loop-i
invariant-loop-i l =
    Within l.sum l._i
    × ((d : Deck) (gs : List Goal) → open_deck l.deck.words.now ≡ accepted d → ColumnAt (symbol_words l.deck.words.now) l.list gs l.place → length gs ≡ l.count
    → AnswersLeft (symbol_words l.deck.words.now) d.format l.place l.count l._i l.sum l.rest gs)
