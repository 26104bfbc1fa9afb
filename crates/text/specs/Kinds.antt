-- The rules' kinds of tokens and classes of bytes, by the code's.
use Rattle.std.specs.Prelude.{ℕ, Option, Some, None}
use Rattle.text_rules.specs.TextTokens.{name, number, amount, variable, implies, slash, dot, opening, closing, comma, tilde, ending, invalid, no_class, space, letter, zero_digit, digit, underscore, colon, minus, mark}
use Rattle.text_rules.specs.TextTokens as rules
use Rattle.text.specs.declared.tokens.Kind.{Kind}
use Rattle.text.specs.declared.tokens.Kind.TheVariants.{Invalid, Ending, Name, Number, Amount, Variable, Implies, Slash, Dot, Opening, Closing, Comma, Tilde}
use Rattle.text.specs.declared.classes.Class.{Class}
use Rattle.text.specs.declared.classes.Class.TheVariants.{Unknown, Space, Letter, Zero, Digit, Underscore, Colon, Minus, Mark}

abbrev pub kind_of : Kind → rules.Kind
kind_of Invalid = invalid
kind_of Ending = ending
kind_of Name = name
kind_of (Number k) = number
kind_of (Amount w) = amount
kind_of (Variable v) = variable
kind_of Implies = implies
kind_of Slash = slash
kind_of Dot = dot
kind_of Opening = opening
kind_of Closing = closing
kind_of Comma = comma
kind_of Tilde = tilde

-- The word of the value that a token has, if it is one.
abbrev pub value_in : Kind → Option ℕ
value_in (Number k) = Some k
value_in (Amount w) = Some w
value_in _ = None

abbrev pub rule_class : Class → rules.Class
rule_class Unknown = no_class
rule_class Space = space
rule_class Letter = letter
rule_class Zero = zero_digit
rule_class Digit = digit
rule_class Underscore = underscore
rule_class Colon = colon
rule_class Minus = minus
rule_class (Mark k) = mark (kind_of k)
