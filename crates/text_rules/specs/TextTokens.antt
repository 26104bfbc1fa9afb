-- Text as tokens (document 02, U1). Bytes 32 and 10 may stand before, between and after tokens; each token is taken as long as it can be.
use Rattle.std.specs.Prelude.{ℕ, zero, suc, ◌+◌, ◌*◌, ◌-◌, Bool, true, false, ◌&&◌, ◌||◌, List, [], ◌∷◌, length, take, leb, eqb}

-- Kinds of tokens. A number is an arity, or one of the values 0 to 15; an amount is any other value, -32,768 to -1 and 16 to 32,767 (document 02, U10).
-- A variable is `_` and its number, `implies` is `:-`. After the last token stands `ending`; `invalid` are bytes that are no token, a value out of range,
-- `-0` and a variable over 1,023.
pub data Kind : Type 0 where
  name number amount variable implies slash dot opening closing comma tilde ending invalid : Kind

abbrev pub kind_number : Kind → ℕ
kind_number invalid = 0
kind_number ending = 1
kind_number name = 2
kind_number number = 3
kind_number variable = 4
kind_number implies = 5
kind_number slash = 6
kind_number dot = 7
kind_number opening = 8
kind_number closing = 9
kind_number comma = 10
kind_number tilde = 11
kind_number amount = 12

-- Classes of bytes. A mark is a token by itself.
pub data Class : Type 0 where
  no_class space letter zero_digit digit underscore colon minus : Class
  mark : Kind → Class

abbrev pub class_number : Class → ℕ
class_number no_class = 0
class_number space = 1
class_number letter = 2
class_number zero_digit = 3
class_number digit = 4
class_number underscore = 5
class_number colon = 6
class_number minus = 7
class_number (mark k) = 16 + kind_number k

pub data Range : Type 0 where
  range : ℕ → ℕ → Class → Range

-- From the first byte to the last one.
unfoldable pub ranges : List Range
ranges =
    range 10 10 space ∷ range 32 32 space ∷ range 40 40 (mark opening) ∷ range 41 41 (mark closing) ∷ range 44 44 (mark comma)
    ∷ range 45 45 minus ∷ range 46 46 (mark dot) ∷ range 47 47 (mark slash) ∷ range 48 48 zero_digit ∷ range 49 57 digit ∷ range 58 58 colon
    ∷ range 95 95 underscore ∷ range 97 122 letter ∷ range 126 126 (mark tilde) ∷ []

unfoldable pub class_in : List Range → ℕ → Class
class_in [] b = no_class
class_in (range first last c ∷ rs) b = elim (leb first b && leb b last) [ true ↦ c | false ↦ class_in rs b ]

unfoldable pub class_of : ℕ → Class
class_of b = class_in ranges b

unfoldable pub is_class : Class → ℕ → Bool
is_class c b = eqb (class_number (class_of b)) (class_number c)

unfoldable pub digit_byte : ℕ → Bool
digit_byte b = is_class zero_digit b || is_class digit b

unfoldable pub word_byte : ℕ → Bool
word_byte b = is_class letter b || digit_byte b

-- The longest front of such bytes.
unfoldable pub longest : (ℕ → Bool) → List ℕ → List ℕ
longest such [] = []
longest such (b ∷ bs) = elim (such b) [ true ↦ b ∷ longest such bs | false ↦ [] ]

-- The number in front, without leading zeros; nothing where there is none.
unfoldable pub numeral : List ℕ → List ℕ
numeral [] = []
numeral (b ∷ bs) = elim (is_class zero_digit b) [ true ↦ b ∷ [] | false ↦ longest digit_byte (b ∷ bs) ]

-- The value of decimal digits, `n` being that of the digits before them.
unfoldable pub value : ℕ → List ℕ → ℕ
value n [] = n
value n (b ∷ bs) = value (10 * n + (b - 48)) bs

-- A token: its kind, its bytes, and how many bytes are left in the text from its first one on.
pub record Token : Type 0 where
  pub kind : Kind
  pub bytes : List ℕ
  pub left : ℕ

abbrev pub token : Kind → List ℕ → ℕ → Token
token k bs n = record { kind = k; bytes = bs; left = n }

unfoldable pub at_most : ℕ → Kind → ℕ → Kind
at_most most k n = elim (leb n most) [ true ↦ k | false ↦ invalid ]

unfoldable pub number_kind : ℕ → Kind
number_kind n = elim (leb n 15) [ true ↦ number | false ↦ at_most 32767 amount n ]

unfoldable pub number_token : List ℕ → ℕ → Token
number_token digits left = token (number_kind (value 0 digits)) digits left

-- `-` and a number other than 0 are one token.
unfoldable pub negative_kind : ℕ → Kind
negative_kind n = elim (leb 1 n) [ true ↦ at_most 32768 amount n | false ↦ invalid ]

unfoldable pub negative_token : ℕ → List ℕ → ℕ → Token
negative_token b [] left = token invalid (b ∷ []) left
negative_token b (d ∷ ds) left = token (negative_kind (value 0 (d ∷ ds))) (b ∷ d ∷ ds) left

unfoldable pub variable_token : ℕ → List ℕ → ℕ → Token
variable_token b [] left = token invalid (b ∷ []) left
variable_token b (d ∷ ds) left = token (at_most 1023 variable (value 0 (d ∷ ds))) (b ∷ d ∷ ds) left

unfoldable pub implies_token : ℕ → List ℕ → ℕ → Token
implies_token b [] left = token invalid (b ∷ []) left
implies_token b (c ∷ bs) left = elim (is_class minus c) [ true ↦ token implies (b ∷ c ∷ []) left | false ↦ token invalid (b ∷ []) left ]

-- The token that begins with byte b, by its class. A name is a letter and up to 15 letters or digits.
unfoldable pub token_from : Class → ℕ → List ℕ → Token
token_from letter b bs = token name (b ∷ take 15 (longest word_byte bs)) (length (b ∷ bs))
token_from zero_digit b bs = number_token (numeral (b ∷ bs)) (length (b ∷ bs))
token_from digit b bs = number_token (numeral (b ∷ bs)) (length (b ∷ bs))
token_from underscore b bs = variable_token b (numeral bs) (length (b ∷ bs))
token_from colon b bs = implies_token b bs (length (b ∷ bs))
token_from (mark k) b bs = token k (b ∷ []) (length (b ∷ bs))
token_from minus b bs = negative_token b (numeral bs) (length (b ∷ bs))
token_from space b bs = token invalid (b ∷ []) (length (b ∷ bs))
token_from no_class b bs = token invalid (b ∷ []) (length (b ∷ bs))

abbrev pub end_token : Token
end_token = token ending [] 0

-- The tokens of a text, the first `skip` bytes of which belong to the token before.
unfoldable pub tokens : ℕ → List ℕ → List Token
tokens skip [] = end_token ∷ []
tokens (suc skip) (b ∷ bs) = tokens skip bs
tokens zero (b ∷ bs) =
    elim (is_class space b) [ true ↦ tokens 0 bs | false ↦ let t = token_from (class_of b) b bs in t ∷ tokens (length t.bytes - 1) bs ]
