-- Symbols by their words (document 01, "The deck"): one word a symbol, its arity, and 256 more for a predicate.
use Rattle.std.specs.Prelude.{ℕ, ◌%◌, Bool, List, length, get_or, leb}

abbrev pub symbol_count : List ℕ → ℕ
symbol_count words = length words

abbrev pub symbol_word : List ℕ → ℕ → ℕ
symbol_word words n = get_or words n 0

abbrev pub arity_at : List ℕ → ℕ → ℕ
arity_at words n = symbol_word words n % 256

abbrev pub is_predicate : List ℕ → ℕ → Bool
is_predicate words n = leb 256 (symbol_word words n)
