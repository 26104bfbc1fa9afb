-- What the two programs over texts print for the bytes of their input (document 02, U1).
use Rattle.std.specs.Prelude.{ℕ, true, false, List, [], ◌∷◌, ◌++◌, length, leb}
use Rattle.std.proofs.Math.Option.{Option, none, some}
use Rattle.rules.specs.Refusals.{bad_text, no_room, refusal_number, Checked, refused, accepted, and_then as ◌>>=◌}
use Rattle.rules.specs.Listing.{refused_text, decimal, listing}
use Rattle.rules.specs.Program.{deck_file, bytes_from}
use Rattle.text_rules.specs.Text.{bad_place, read_text, write_text}

-- `refused 10 ` and the place.
unfoldable pub place_line : ℕ → List ℕ
place_line place = refused_text ++ decimal (refusal_number bad_text) (32 ∷ decimal place (10 ∷ []))

-- A refusal is printed as in a listing, but 10 with its place; else the words are printed.
unfoldable pub read_prints : Option ℕ → Checked (List ℕ) → List ℕ
read_prints (some place) read = place_line place
read_prints none (refused n) = listing (refused n)
read_prints none (accepted words) = bytes_from words

-- The bytes of standard input. Over 262,144 bytes is 11. The deck has room for 16,384 words.
unfoldable pub read_program : List ℕ → List ℕ
read_program text =
    elim (leb (length text) 262144) [
      | true ↦ read_prints (bad_place text) (read_text text 16384)
      | false ↦ listing (refused no_room)
    ]

-- The deck file's words as text, in 262,144 bytes.
unfoldable pub write_run : Option (List ℕ) → Checked (List ℕ)
write_run file = do
  words ← deck_file file
  write_text words 262144

unfoldable pub write_prints : Checked (List ℕ) → List ℕ
write_prints (refused n) = listing (refused n)
write_prints (accepted text) = text

-- The deck file's bytes, if there is one.
unfoldable pub write_program : Option (List ℕ) → List ℕ
write_program file = write_prints (write_run file)
