-- What the program that presses once prints for the bytes of its inputs (document 02, U14).
use Rattle.std.specs.Prelude.{ℕ, ◌&&◌, List, [], ◌∷◌, ◌++◌, length, drop, leb}
use Rattle.std.proofs.Math.Option.{Option}
use Rattle.rules.specs.Refusals.{bad_goals, Checked, refused, accepted, and_then as ◌>>=◌, require, obtain}
use Rattle.rules.specs.Decks.{open_deck}
use Rattle.rules.specs.Run.{carry, store_start}
use Rattle.rules.specs.Press.{Advance, stepped, prevented, Pressed, press_once, counted, left_by, Display, displayed}
use Rattle.rules.specs.Listing.{stop_text, listing}
use Rattle.rules.specs.Program.{words_from, bytes_from, even}
use Rattle.rules.specs.CarryProgram.{number_bytes, number_from, deck_input, bars_from, store_from}

-- What a press came to, the display after it, and the number of answer terms of its goals.
pub record Shown : Type 0 where
  pub pressed : Pressed
  pub display : Display
  pub terms : ℕ

-- The file of a display has its five counts and the number of answer terms, each of 64 bits, and then the goals' words. A missing file, an odd byte
-- count, fewer bytes than the six numbers take or more than fit the store are 12.
unfoldable pub display_input : Option (List ℕ) → Checked (List ℕ)
display_input file = do
  bytes ← obtain bad_goals file
  _ ← require bad_goals (even bytes && (leb 48 (length bytes) && leb (length bytes) 32816))
  accepted bytes

unfoldable pub display_from : List ℕ → Display
display_from bytes = record {
  steps = number_from 8 bytes;
  cost = number_from 8 (drop 8 bytes);
  answers = number_from 8 (drop 16 bytes);
  pending = number_from 8 (drop 24 bytes);
  parked = number_from 8 (drop 32 bytes);
}

-- One press on the goals of the file, for a member.
unfoldable pub press_bytes : List ℕ → List ℕ → Option (List ℕ) → ℕ → Checked Shown
press_bytes deck_words bytes bars budget = do
  deck ← open_deck deck_words
  let d = display_from bytes
  let terms = number_from 8 (drop 40 bytes)
  let store = store_from (words_from (drop 48 bytes))
  let list = bars_from (length deck.symbols) bars
  pressed ← press_once (carry deck_words d.pending d.parked terms store 8192) list budget 8192 16384
  accepted (record { pressed = pressed; display = displayed d (counted pressed); terms = terms })

unfoldable pub press_run : Option (List ℕ) → Option (List ℕ) → Option (List ℕ) → ℕ → Checked Shown
press_run file display bars budget = do
  deck_words ← deck_input file
  bytes ← display_input display
  press_bytes deck_words bytes bars budget

-- "stepped", or the stop
unfoldable pub advance_text : Advance → List ℕ
advance_text stepped = 115 ∷ 116 ∷ 101 ∷ 112 ∷ 112 ∷ 101 ∷ 100 ∷ []
advance_text (prevented s) = stop_text s

-- The file's six numbers.
unfoldable pub numbers_bytes : Display → ℕ → List ℕ
numbers_bytes d terms =
    number_bytes 8 d.steps
    ++ number_bytes 8 d.cost
    ++ number_bytes 8 d.answers
    ++ number_bytes 8 d.pending
    ++ number_bytes 8 d.parked
    ++ number_bytes 8 terms

-- A line with what the press came to, and then the file after it.
unfoldable pub press_text : Checked Shown → List ℕ
press_text (refused n) = listing (refused n)
press_text (accepted s) =
    advance_text s.pressed.advance ++ (10 ∷ []) ++ numbers_bytes s.display s.terms ++ bytes_from (store_start (left_by s.pressed))

-- The bytes of the deck file, of the display's and of the member's list, if there are such files, and a budget.
unfoldable pub press_program : Option (List ℕ) → Option (List ℕ) → Option (List ℕ) → ℕ → List ℕ
press_program file display bars budget = press_text (press_run file display bars budget)
