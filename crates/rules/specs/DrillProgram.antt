-- What the program that lists drill terms prints for the bytes of its two inputs (document 02, U12).
use Rattle.std.specs.Prelude.{ℕ, ◌&&◌, List, [], ◌∷◌, length, drop, get_or, leb}
use Rattle.std.proofs.Math.Option.{Option, none, some}
use Rattle.rules.specs.Terms.{Terms, nil, cons}
use Rattle.rules.specs.Cells.{Row, row, read_row}
use Rattle.rules.specs.Refusals.{bad_drill, Checked, refused, accepted, and_then as ◌>>=◌, require}
use Rattle.rules.specs.Decks.{open_deck}
use Rattle.rules.specs.Listing.{print_term, listing}
use Rattle.rules.specs.Program.{words_from, even, deck_file}
use Rattle.rules.specs.Drill.{drill, joined}

-- Standard input is words: N and the given term. No word, an odd byte count or a given term of over 8 cells is 19.
unfoldable pub drill_input : List ℕ → Checked (List ℕ)
drill_input bytes = do
  _ ← require bad_drill (even bytes && (leb 2 (length bytes) && leb (length bytes) 18))
  accepted (words_from bytes)

-- The terms that cells are.
unfoldable pub row_terms : Option Row → Terms
row_terms none = nil
row_terms (some (row ts ls)) = ts

-- As many terms as fit in 4,096 words. The deck is refused before anything is said of the input.
unfoldable pub drill_run : Option (List ℕ) → List ℕ → Checked Terms
drill_run file input = do
  deck_words ← deck_file file
  deck ← open_deck deck_words
  asked ← drill_input input
  terms ← drill deck_words (get_or asked 0 0) (drop 1 asked) 4096
  accepted (row_terms (read_row deck.symbols (joined terms)))

-- One line a term, written as in a listing.
abbrev pub print_lines : Terms → List ℕ
print_lines nil = []
print_lines (cons t ts) = print_term t (10 ∷ print_lines ts)

unfoldable pub drill_prints : Checked Terms → List ℕ
drill_prints (refused n) = listing (refused n)
drill_prints (accepted ts) = print_lines ts

-- The deck file's bytes, if there is one, and the bytes of standard input.
unfoldable pub drill_program : Option (List ℕ) → List ℕ → List ℕ
drill_program file input = drill_prints (drill_run file input)
