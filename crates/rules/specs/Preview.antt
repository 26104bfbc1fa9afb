-- A query's result as if one clause were added at the deck's end (document 02, U11).
use Rattle.std.specs.Prelude.{ℕ, ◌+◌, List, [], ◌∷◌, ◌++◌, length, leb}
use Rattle.rules.specs.Syntax.{Clause, Deck}
use Rattle.rules.specs.Refusals.{bad_header, bad_starts, long_clause, bad_clause, Checked, accepted, and_then as ◌>>=◌, require, obtain}
use Rattle.rules.specs.Decks.{header_words, header, symbol_part, clause_words, term_cells, read_clause, open_deck}
use Rattle.rules.specs.Evaluation.{Outcome}
use Rattle.rules.specs.Run.{run, Report, Slices, Gives}

-- The lengthened copy of a deck's words: one clause start and the clause's cells more, each after the deck's own. The clause starts where those end.
unfoldable pub lengthened : List ℕ → List ℕ → List ℕ
lengthened ws cells =
    header_words (header ws 0) (header ws 1) (header ws 3 + 1) (header ws 5 + length cells)
    ++ (symbol_part ws ++ ((clause_words ws ++ (header ws 5 ∷ [])) ++ (term_cells ws ++ cells)))

-- The deck alone is first checked by 1 to 5. Then the copy is opened.
unfoldable pub open_copy : List ℕ → List ℕ → Checked Deck
open_copy ws cells = do
  _ ← open_deck ws
  open_deck (lengthened ws cells)

-- The preview equals opening a lengthened copy and running there.
unfoldable pub preview : List ℕ → List ℕ → List ℕ → List ℕ → ℕ → ℕ → ℕ → ℕ → Checked Outcome
preview deck_words added_cells query_words bars budget answer_room store_size scratch_size = do
  _ ← open_deck deck_words
  run (lengthened deck_words added_cells) query_words bars budget answer_room store_size scratch_size

unfoldable pub preview_on : List ℕ → List ℕ → List ℕ → List ℕ → ℕ → Slices → Checked Outcome
preview_on deck_words added_cells query_words bars budget s =
    preview deck_words added_cells query_words bars budget (length s.answers) (length s.store) (length s.scratch)

-- All that the call promises: what it returns, and what it leaves in each slice.
abbrev pub Previewed : List ℕ → List ℕ → List ℕ → List ℕ → ℕ → Slices → Checked Report → Slices → Type 0
Previewed deck_words added_cells query_words bars budget entry result exit =
    Gives (preview_on deck_words added_cells query_words bars budget entry) entry result exit

-- A deck with one clause more; and what opening the copy of a deck of so many words comes to (theorem `CopyLaws.copy-opens`): over 16,384 words,
-- no cells, over 256 cells, not a clause.
abbrev pub with_clause : Deck → Clause → Deck
with_clause d c = record { format = d.format; symbols = d.symbols; clauses = d.clauses ++ (c ∷ []) }

unfoldable pub add_clause : ℕ → Deck → List ℕ → Checked Deck
add_clause words d cells = do
  _ ← require bad_header (leb (words + 1 + length cells) 16384)
  _ ← require bad_starts (leb 1 (length cells))
  _ ← require long_clause (leb (length cells) 256)
  c ← obtain bad_clause (read_clause d.symbols cells)
  accepted (with_clause d c)
