-- The two words of a symbol in format 2.
use Rattle.std.specs.Prelude.{ℕ, List, [], ◌∷◌}
use Rattle.rules.specs.Decks.{write_symbol}
use Rattle.text.specs.declared.names.Entry.{Entry}
use Rattle.naming.specs.declared.declarations.Symbol.{Symbol}
use Rattle.naming.specs.declared.declarations.Symbol.TheVariants.{Number}
use Rattle.naming.specs.Walks.{symbol_of}

abbrev pub first_word : Symbol → ℕ
first_word (Number w) = 512
first_word s = write_symbol (symbol_of s)

abbrev pub second_word : Symbol → ℕ
second_word (Number w) = w
second_word s = 0

abbrev pub pair_words : List (Entry Symbol) → List ℕ
pair_words [] = []
pair_words (e ∷ es) = first_word e.value ∷ second_word e.value ∷ pair_words es
