-- What writing a deck as text promises (document 02, U1).
use Rattle.std.specs.Prelude.{ℕ, ◌≡◌, Bool, true, false, List, [], ◌∷◌, ◌++◌, length, drop, Result, Ok, Err}
use Rattle.rules.specs.Syntax.{Symbol, Format, format1, format2, Deck}
use Rattle.rules.specs.Refusals.{Checked, refused, accepted}
use Rattle.rules.specs.Decks.{symbol_words, open_deck}
use Rattle.rules.specs.Column.{number_word}
use Rattle.rules.specs.Listing.{decimal}
use Rattle.text_rules.specs.TextWriter.{symbol_line, symbols_text, format_text}
use Rattle.signature.specs.Symbols.{symbol_word}
use Rattle.text_rules.specs.Text.{write_text}
use Rattle.deck.specs.declared.Refusal.{Refusal}
use Rattle.deck.specs.Answers.{refusal_for}
use Rattle.deck.specs.Kinds.{symbol_of, symbols_of}

-- What the call returns, in the rules' words; and the number of bytes that the rules say.
abbrev pub result_of : Result ℕ Refusal → Checked ℕ
result_of (Err why) = refused (refusal_for why)
result_of (Ok n) = accepted n

unfoldable pub bytes_of : Checked (List ℕ) → Checked ℕ
bytes_of (refused n) = refused n
bytes_of (accepted text) = accepted (length text)

-- The lent list afterwards: the text and then the bytes as they were; untouched on a refusal.
unfoldable pub text_after : Checked (List ℕ) → List ℕ → List ℕ
text_after (refused n) before = before
text_after (accepted text) before = text ++ drop (length text) before

-- THE CONTRACT of the public call: what it returns and what it leaves are what the rules say, for every list of words and every length of the lent list.
pub record Wrote (words before : List ℕ) (result : Checked ℕ) (after : List ℕ) : Type 0 where
  pub returns : result ≡ bytes_of (write_text words (length before))
  pub leaves : after ≡ text_after (write_text words (length before)) before

-- The deck that words open as; an empty one where they are refused.
unfoldable pub opened_as : Checked Deck → Deck
opened_as (refused n) = record { format = format1; symbols = []; clauses = [] }
opened_as (accepted d) = d

abbrev pub deck_of : List ℕ → Deck
deck_of words = opened_as (open_deck words)

abbrev pub Opens : List ℕ → Type 0
Opens words = open_deck words ≡ accepted (deck_of words)

-- The symbols of a deck's symbol words.
abbrev pub symbols_in : List ℕ → List Symbol
symbols_in words = symbols_of (symbol_words words)

-- Its format, and whether that is the second.
abbrev pub format_of : List ℕ → Format
format_of words = (deck_of words).format

abbrev pub is_second : Format → Bool
is_second format1 = false
is_second (format2 vs) = true

-- The line of symbol n, the lines of all symbols, and with them that of the format.
abbrev pub line_at : List ℕ → ℕ → List ℕ
line_at words n = symbol_line (symbol_of (symbol_word (symbol_words words) n)) (number_word (format_of words) n) n []

abbrev pub lines_of : List ℕ → List ℕ
lines_of words = symbols_text (format_of words) 0 (symbols_in words) []

abbrev pub declarations_of : List ℕ → List ℕ
declarations_of words = format_text (format_of words) [] ++ lines_of words

-- A declaration's line, after a key word and a space.
abbrev pub line_text : List ℕ → ℕ → ℕ → List ℕ
line_text key n arity = key ++ (115 ∷ decimal n (47 ∷ decimal arity (46 ∷ 10 ∷ [])))
