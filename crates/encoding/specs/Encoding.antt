-- Sizes of a text's deck that fit where its words are written.
use Rattle.std.specs.Prelude.{ℕ, ◌+◌, ◌≤◌, List, length}
use Rattle.rules.specs.Decks.{format_number, symbol_room}
use Rattle.text_rules.specs.Text.{text_format, text_declarations, text_entries}
use Rattle.naming.specs.declared.table.DeclaredNames.{DeclaredNames}
use Rattle.encoding.specs.declared.sizes.Sizes.{Sizes}
use Rattle.encoding.specs.Walk.{Sized}

-- How many words the symbols of a text take, and all of it.
abbrev pub room_of : List ℕ → ℕ
room_of text = symbol_room (format_number (text_format text)) (length (text_declarations text))

abbrev pub total : List ℕ → Sizes → ℕ
total text s = 8 + room_of text + s.clauses + s.cells

pub record Encodable (d : DeclaredNames) (s : Sizes) (room : ℕ) : Type 0 where
  pub sized : Sized (text_entries d.all.text.text.now) s
  pub fits : total d.all.text.text.now s ≤ room
  pub most : total d.all.text.text.now s ≤ 16384
