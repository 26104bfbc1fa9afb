-- Reading a text as a deck's words, and writing a deck as text, with their refusals (document 02, U1).
use Rattle.std.specs.Prelude.{ℕ, ◌-◌, Bool, true, false, ◌&&◌, List, length, leb}
use Rattle.std.proofs.Math.Option.{Option, none, some}
use Rattle.rules.specs.Refusals.{bad_text, no_room, Checked, accepted, and_then as ◌>>=◌, require}
use Rattle.rules.specs.Decks.{open_deck}
use Rattle.rules.specs.Syntax.{Format}
use Rattle.text_rules.specs.TextTokens.{dot, Token, tokens}
use Rattle.text_rules.specs.TextGrammar.{item, unread}
use Rattle.text_rules.specs.TextWords.{Declaration, begins_v2, items, declarations, clause_tokens, Entry, entries, declared_twice, misused, format_from, deck_from}
use Rattle.text_rules.specs.TextWriter.{deck_text}

-- Whether a text begins with `v2.`, and its tokens after that.
unfoldable pub numbers_in : List ℕ → Bool
numbers_in text = begins_v2 (tokens 0 text)

unfoldable pub text_items : List ℕ → List Token
text_items text = items (tokens 0 text)

unfoldable pub text_declarations : List ℕ → List Declaration
text_declarations text = declarations 0 (text_items text)

unfoldable pub text_entries : List ℕ → List Entry
text_entries text = entries dot (clause_tokens 0 (text_items text))

-- The first token that may not stand where it does.
unfoldable pub text_unread : List ℕ → Option ℕ
text_unread text = unread (item (numbers_in text)) (text_items text)

unfoldable pub text_format : List ℕ → Format
text_format text = format_from (numbers_in text) (text_declarations text)

-- The words that a text stands for, if it is not refused with 10.
unfoldable pub text_words : List ℕ → List ℕ
text_words text = deck_from (text_format text) (text_declarations text) (text_entries text)

unfoldable pub or_else : Option ℕ → Option ℕ → Option ℕ
or_else none other = other
or_else (some n) other = some n

-- Refusal 10, as the bytes left from the place on: text outside the grammar; a name declared twice; a name undeclared or used with another arity.
-- Each is looked for in the whole text before the next.
unfoldable pub bad_left : List ℕ → Option ℕ
bad_left text =
    let ds = text_declarations text in
    or_else (text_unread text) (or_else (declared_twice ds 0 ds) (misused ds (text_entries text)))

-- The place of refusal 10: the first byte of that token or name, or the text's length where it ends too early.
unfoldable pub place_of : List ℕ → Option ℕ → Option ℕ
place_of text none = none
place_of text (some left) = some (length text - left)

unfoldable pub bad_place : List ℕ → Option ℕ
bad_place text = place_of text (bad_left text)

unfoldable pub absent : Option ℕ → Bool
absent none = true
absent (some n) = false

-- Reading gives 10, 11, then 1 to 5. `room` is the length of the lent list.
unfoldable pub read_text : List ℕ → ℕ → Checked (List ℕ)
read_text text room = do
  _ ← require bad_text (absent (bad_place text))
  _ ← require no_room (leb (length (text_words text)) room && leb (length (text_words text)) 16384)
  _ ← open_deck (text_words text)
  accepted (text_words text)

-- Writing gives 1 to 5, then 11.
unfoldable pub write_text : List ℕ → ℕ → Checked (List ℕ)
write_text words room = do
  deck ← open_deck words
  _ ← require no_room (leb (length (deck_text deck)) room)
  accepted (deck_text deck)
