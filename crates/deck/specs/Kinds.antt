-- What the code takes symbol words and cells for.
use Rattle.std.specs.Prelude.{ℕ, ◌%◌, Bool, true, false, List, map, leb}
use Rattle.rules.specs.Syntax.{Symbol, functor, predicate}
use Rattle.rules.specs.Cells.{Cell, variable, function, positive, negative, invalid}
use Rattle.deck.specs.declared.kinds.Kind.{Kind}
use Rattle.deck.specs.declared.kinds.Kind.TheVariants.{Variable, Function, Positive, Negative, Invalid}

-- The symbol of a word, and of words, whether or not they are symbol words; of those that are, it is the symbol read.
unfoldable pub symbol_of : ℕ → Symbol
symbol_of word = elim (leb 256 word) [ true ↦ predicate (word % 256) | false ↦ functor (word % 256) ]

unfoldable pub symbols_of : List ℕ → List Symbol
symbols_of words = map symbol_of words

-- A cell without its symbol's number.
abbrev pub kind_of : Cell → Kind
kind_of (variable v) = Variable v
kind_of (function f k) = Function k
kind_of (positive p k) = Positive k
kind_of (negative p k) = Negative k
kind_of invalid = Invalid

-- Whether a literal begins with a cell.
abbrev pub begins_literal : Kind → Bool
begins_literal (Variable v) = false
begins_literal (Function k) = false
begins_literal (Positive k) = true
begins_literal (Negative k) = true
begins_literal Invalid = false
