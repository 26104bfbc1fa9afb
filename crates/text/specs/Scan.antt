-- What the scanner finds at a place of a text.
use Rattle.std.specs.Prelude.{ℕ, suc, ◌+◌, ◌-◌, ◌≤◌, ◌<◌, ◌≡◌, false, List, [], ◌∷◌, length, get_or, take, drop, min, Some}
use Rattle.text_rules.specs.TextTokens.{value, number_kind, negative_kind, space, is_class, class_of, token, token_from, tokens}
use Rattle.text_rules.specs.TextTokens as rules
use Rattle.text_rules.specs.TextWords.{value_word}
use Rattle.text.specs.declared.tokens.Kind.{Kind}
use Rattle.text.specs.declared.tokens.Kind.TheVariants.{Ending, Number, Variable}
use Rattle.text.specs.declared.tokens.Token.{Token}
use Rattle.text.specs.declared.tokens.Numeral.{Numeral}
use Rattle.text.specs.Kinds.{kind_of, value_in}

-- The first place from `at` on that is no spacing, or the text's length.
pub record Skipped (text : List ℕ) (at r : ℕ) : Type 0 where
  pub later : at ≤ r
  pub inside : r ≤ length text
  pub same : tokens 0 (drop at text) ≡ tokens 0 (drop r text)
  pub stops : r < length text → is_class space (get_or text r 0) ≡ false

-- Digits at a place: their end, and their value, or 65,535 where it is more.
pub record DigitsAt (text : List ℕ) (from : ℕ) (digits : List ℕ) (r : Numeral) : Type 0 where
  pub later : from ≤ r.to
  pub inside : r.to ≤ length text
  pub size : r.to - from ≡ length digits
  pub number : r.value ≡ min 65535 (value 0 digits)

abbrev pub single : Kind → ℕ → Token
single kind from = record { kind = kind; from = from; to = from + 1 }

-- The kind of a token from a digit or from `-` on, and the word of its value: by the value of the digits, up to 65,535.
pub record OfValue (kind : rules.Kind) (word : ℕ) (r : Kind) : Type 0 where
  pub same : kind_of r ≡ kind
  pub value : (w : ℕ) → value_in r ≡ Some w → w ≡ word
  pub other : (r ≡ Ending → ⊥) × ((v : ℕ) → r ≡ Variable v → ⊥)

abbrev pub NumberKind : ℕ → Kind → Type 0
NumberKind n r = (v : ℕ) → n ≡ min 65535 v → OfValue (number_kind v) v r

pub record NegativeKind (n : ℕ) (r : Kind) : Type 0 where
  pub given : (v : ℕ) → n ≡ min 65535 v → OfValue (negative_kind v) (65536 - v) r
  pub negative : (k : ℕ) → r ≡ Number k → ⊥

-- A token that begins at a place.
pub record Scanned (text : List ℕ) (from : ℕ) (r : Token) : Type 0 where
  pub begins : r.from ≡ from
  pub later : from < r.to
  pub inside : r.to ≤ length text
  pub in_text : r.kind ≡ Ending → ⊥
  pub scanned : token_from (class_of (get_or text from 0)) (get_or text from 0) (drop (suc from) text) ≡ token (kind_of r.kind) (take (r.to - from) (drop from text)) (length text - from)
  pub number : (k : ℕ) → r.kind ≡ Number k → k ≡ value 0 (take (r.to - from) (drop from text))
  pub variable : (v : ℕ) → r.kind ≡ Variable v → v ≡ value 0 (drop 1 (take (r.to - from) (drop from text)))
  pub amount : (w : ℕ) → value_in r.kind ≡ Some w → w ≡ value_word (take (r.to - from) (drop from text))

-- The tokens after one: none after the end.
abbrev pub tokens_from : Kind → List ℕ → ℕ → List rules.Token
tokens_from Ending text to = []
tokens_from _ text to = tokens 0 (drop to text)

-- The next token from a place on.
pub record NextToken (text : List ℕ) (at : ℕ) (r : Token) : Type 0 where
  pub later : at ≤ r.from
  pub forward : r.from ≤ r.to
  pub progress : (r.kind ≡ Ending → ⊥) → r.from < r.to
  pub last : r.kind ≡ Ending → r.from ≡ length text
  pub inside : r.to ≤ length text
  pub scanned : tokens 0 (drop at text) ≡ token (kind_of r.kind) (take (r.to - r.from) (drop r.from text)) (length text - r.from) ∷ tokens_from r.kind text r.to
  pub number : (k : ℕ) → r.kind ≡ Number k → k ≡ value 0 (take (r.to - r.from) (drop r.from text))
  pub variable : (v : ℕ) → r.kind ≡ Variable v → v ≡ value 0 (drop 1 (take (r.to - r.from) (drop r.from text)))
  pub amount : (w : ℕ) → value_in r.kind ≡ Some w → w ≡ value_word (take (r.to - r.from) (drop r.from text))
