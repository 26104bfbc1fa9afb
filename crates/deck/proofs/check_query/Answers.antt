-- `check_query`: the query's two tests are the rules'.
use Prim.Native.Nat.{ℕ, ◌≤◌}
use mathlib.Core.Path.{◌≡◌, sym, ◌∙◌}
use mathlib.Core.Bool.{Bool}
use mathlib.Core.List.{List}
use lib.ListN.{length}
use borrow.Author.Tests.{le-leb, lt-leb}
use Rattle.rules.specs.Syntax.{Deck}
use Rattle.rules.specs.Cells.{read_literals}
use Rattle.rules.specs.Refusals.{accepted, checked_number}
use Rattle.rules.specs.Decks.{symbol_words, open_deck, read_query}
use Rattle.deck.specs.Answers.{found}
use Rattle.deck.specs.Kinds.{symbols_of}
use Rattle.deck.proofs.OpenLaws.{passes, fails, literals_number, read-number}
use Rattle.deck.proofs.check_query.Goals as goal

-- The query is not too long.
after-length :
    (ws qs : List ℕ) (d : Deck) → open_deck ws ≡ accepted d → length qs ≤ 500 → checked_number (read_query d qs) ≡ literals_number ws qs
after-length ws qs d o l = read-number ws qs d o ∙ passes _ 6 _ (le-leb _ 500 l)

literals-test :
    (ws qs words : List ℕ) (r : Bool) → words ≡ symbol_words ws → r ≡ found (read_literals (symbols_of words) qs)
    → found (read_literals (symbols_of (symbol_words ws)) qs) ≡ r
literals-test ws qs words r w e = rw (← w) (sym e)

pub returns-then-query-gt500 : goal.returns-then-query-gt500
returns-then-query-gt500 c d o = sym (read-number _ _ d o ∙ fails _ 6 _ (lt-leb _ 500 c.if-query-gt500.true))

pub returns-then-not-literals : goal.returns-then-not-literals
returns-then-not-literals c d o =
    sym (after-length _ _ d o c.if-query-gt500.false ∙ fails _ 7 _ (literals-test _ _ _ _ c.symbols.ensures c.literals.ensures ∙ c.if-not-literals.true))

pub returns : goal.returns
returns c d o =
    sym (after-length _ _ d o c.if-query-gt500.false ∙ passes _ 7 _ (literals-test _ _ _ _ c.symbols.ensures c.literals.ensures ∙ c.if-not-literals.false))
