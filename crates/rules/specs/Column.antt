-- The sum and the mean of a column of answers (document 02, U10).
use Rattle.std.specs.Prelude.{ℕ, zero, suc, ◌-◌, ◌/◌, ◌%◌, Bool, true, false, ◌&&◌, List, [], ◌∷◌, leb, ltb, ℤ, pos, negsuc, ◌+ℤ◌, ◌-ℤ◌}
use Rattle.std.proofs.Math.Option.{Option, none, some}
use Rattle.std.proofs.Math.ListN.{get_elem?}
use Rattle.rules.specs.Terms.{Term, var, app, Terms, nil, cons}
use Rattle.rules.specs.Syntax.{Symbol, Literal, Format, format1, format2, Goal}
use Rattle.rules.specs.Refusals.{bad_answers, not_number, Checked, accepted, and_then as ◌>>=◌, require, obtain}
use Rattle.rules.specs.Decks.{read_all, open_deck}
use Rattle.rules.specs.Stored.{every, OpenGoals, read_open}

-- Refusal 17: the list does not begin with that many well-formed answers (U4's pending goals, without literals) of that many terms.
unfoldable pub bare : List Literal → Bool
bare [] = true
bare (l ∷ ls) = false

unfoldable pub only_answers : Option OpenGoals → Option (List Goal)
only_answers none = none
only_answers (some o) = elim (every (λ g. bare g.literals) o.pending) [ true ↦ some o.pending | false ↦ none ]

unfoldable pub read_answers : List Symbol → ℕ → ℕ → List ℕ → Option (List Goal)
read_answers symbols count terms ws = only_answers (read_open symbols count 0 terms ws)

-- Refusal 18: an entry of the column is not a number. The word of a number's value, by its symbol's number.
unfoldable pub flatten : Option (Option ℕ) → Option ℕ
flatten none = none
flatten (some v) = v

unfoldable pub number_word : Format → ℕ → Option ℕ
number_word format1 f = none
number_word (format2 vs) f = flatten (get_elem? vs f)

unfoldable pub term_word : Format → Term → Option ℕ
term_word F (var v) = none
term_word F (app f ts) = number_word F f

-- Of the term of that place, counted from 0.
unfoldable pub entry_word : Format → ℕ → Terms → Option ℕ
entry_word F place nil = none
entry_word F zero (cons t ts) = term_word F t
entry_word F (suc place) (cons t ts) = entry_word F place ts

unfoldable pub column_words : Format → ℕ → List Goal → Option (List ℕ)
column_words F place answers = read_all (λ g. entry_word F place g.answer_terms) answers

-- A value's word is in two's complement; one column is summed.
unfoldable pub value_of : ℕ → ℤ
value_of w = elim (ltb w 32768) [ true ↦ pos w | false ↦ pos w -ℤ pos 65536 ]

unfoldable pub total : List ℕ → ℤ
total [] = pos 0
total (w ∷ ws) = value_of w +ℤ total ws

-- Its mean: the whole part, rounded down, and the remainder, from 0 up to the count less one. -(m + 1) is `negsuc m`.
unfoldable pub whole_part : ℤ → ℕ → ℤ
whole_part (pos s) n = pos (s / n)
whole_part (negsuc m) n = negsuc (m / n)

unfoldable pub remainder : ℤ → ℕ → ℕ
remainder (pos s) n = s % n
remainder (negsuc m) n = n - suc (m % n)

pub record Mean : Type 0 where
  pub sum : ℤ
  pub whole : ℤ
  pub remainder : ℕ

unfoldable pub mean : ℕ → ℤ → Mean
mean n s = record { sum = s; whole = whole_part s n; remainder = remainder s n }

-- The deck's words, those of the answer list, its count, its number of answer terms, and the column: 1 to 5, then 17, then 18.
unfoldable pub column : List ℕ → List ℕ → ℕ → ℕ → ℕ → Checked Mean
column deck_words answer_words count terms place = do
  deck ← open_deck deck_words
  _ ← require bad_answers (leb 1 count && leb count 65535 && ltb place terms)
  answers ← obtain bad_answers (read_answers deck.symbols count terms answer_words)
  words ← obtain not_number (column_words deck.format place answers)
  accepted (mean count (total words))
