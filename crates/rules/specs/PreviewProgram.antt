-- What the program that tries a clause prints, for the bytes of its inputs (document 02, U11), and for whom (U9).
use Rattle.std.specs.Prelude.{ℕ, true, false, List, [], length, take}
use Rattle.std.proofs.Math.Option.{Option, none, some}
use Rattle.rules.specs.Refusals.{Checked, and_then as ◌>>=◌}
use Rattle.rules.specs.Decks.{open_deck}
use Rattle.rules.specs.Evaluation.{Outcome}
use Rattle.rules.specs.Preview.{open_copy, preview}
use Rattle.rules.specs.Listing.{listing}
use Rattle.rules.specs.Program.{words_from, even, query_input}
use Rattle.rules.specs.CarryProgram.{deck_input, bars_from}

-- The clause from the bytes of a file: its first 16,384 cells, as with so many the copy is too long (1) whatever follows.
-- A missing file and an odd byte count up to there are no cells.
unfoldable pub clause_from : Option (List ℕ) → List ℕ
clause_from none = []
clause_from (some bytes) = let first = take 32768 bytes in elim (even first) [ true ↦ words_from first | false ↦ [] ]

-- As the program, with the clause at the deck's end and a member's list.
unfoldable pub preview_words : List ℕ → List ℕ → List ℕ → Option (List ℕ) → Checked Outcome
preview_words deck_words added_cells query_words bars = do
  deck ← open_deck deck_words
  preview deck_words added_cells query_words (bars_from (length deck.symbols) bars) 100000 8192 16384 8192

-- The deck and then the copy are refused before anything is said of the query.
unfoldable pub preview_run : Option (List ℕ) → Option (List ℕ) → List ℕ → Option (List ℕ) → Checked Outcome
preview_run file clause input bars = do
  deck_words ← deck_input file
  _ ← open_copy deck_words (clause_from clause)
  query_words ← query_input input
  preview_words deck_words (clause_from clause) query_words bars

-- The deck file's bytes and the clause's, if there are such files, the bytes of standard input, and those of the member's list, if there is one.
unfoldable pub preview_program : Option (List ℕ) → Option (List ℕ) → List ℕ → Option (List ℕ) → List ℕ
preview_program file clause input bars = listing (preview_run file clause input bars)
