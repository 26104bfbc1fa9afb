-- The printed listing (document 01, the section of that name), as bytes. Most functions take `rest`, the bytes that follow.
use Rattle.std.specs.Prelude.{ℕ, zero, suc, ◌+◌, ◌/◌, ◌%◌, true, false, List, [], ◌∷◌, ◌++◌, length, ltb}
use Rattle.rules.specs.Terms.{Term, var, app, Terms, nil, cons}
use Rattle.rules.specs.Syntax.{Goal}
use Rattle.rules.specs.Refusals.{refusal_number, Checked, refused, accepted}
use Rattle.rules.specs.Goals.{Marked}
use Rattle.rules.specs.Evaluation.{Stop, finished, budget, answers, store, Outcome}

-- "refused ", "all", "no", "open", "true"
unfoldable pub refused_text : List ℕ
refused_text = 114 ∷ 101 ∷ 102 ∷ 117 ∷ 115 ∷ 101 ∷ 100 ∷ 32 ∷ []

unfoldable pub all_text : List ℕ
all_text = 97 ∷ 108 ∷ 108 ∷ []

unfoldable pub no_text : List ℕ
no_text = 110 ∷ 111 ∷ []

unfoldable pub open_text : List ℕ
open_text = 111 ∷ 112 ∷ 101 ∷ 110 ∷ []

unfoldable pub true_text : List ℕ
true_text = 116 ∷ 114 ∷ 117 ∷ 101 ∷ []

-- "finished", "budget", "answers", "store"
unfoldable pub stop_text : Stop → List ℕ
stop_text finished = 102 ∷ 105 ∷ 110 ∷ 105 ∷ 115 ∷ 104 ∷ 101 ∷ 100 ∷ []
stop_text budget = 98 ∷ 117 ∷ 100 ∷ 103 ∷ 101 ∷ 116 ∷ []
stop_text answers = 97 ∷ 110 ∷ 115 ∷ 119 ∷ 101 ∷ 114 ∷ 115 ∷ []
stop_text store = 115 ∷ 116 ∷ 111 ∷ 114 ∷ 101 ∷ []

-- Numbers are written in decimal digits without leading zeros, zero as `0`. The first number bounds how many digits there are.
unfoldable pub digits : ℕ → ℕ → List ℕ → List ℕ
digits zero n rest = rest
digits (suc more) n rest = elim (ltb n 10) [ true ↦ (48 + n) ∷ rest | false ↦ digits more (n / 10) ((48 + n % 10) ∷ rest) ]

-- A number n has at most n + 1 digits.
unfoldable pub decimal : ℕ → List ℕ → List ℕ
decimal n rest = digits (suc n) n rest

-- A functor as `s` and its number, arguments in round brackets with commas, a variable as `v` and its number.
abbrev mutual
  pub print_term : Term → List ℕ → List ℕ
  print_term (var v) rest = 118 ∷ decimal v rest
  print_term (app f ts) rest = 115 ∷ decimal f (print_arguments ts rest)

  pub print_arguments : Terms → List ℕ → List ℕ
  print_arguments nil rest = rest
  print_arguments (cons t ts) rest = 40 ∷ print_term t (print_more ts (41 ∷ rest))

  pub print_more : Terms → List ℕ → List ℕ
  print_more nil rest = rest
  print_more (cons t ts) rest = 44 ∷ print_term t (print_more ts rest)

-- One line an answer: its terms with a space between; `true` where there are no terms.
abbrev pub print_spaced : Terms → List ℕ → List ℕ
print_spaced nil rest = rest
print_spaced (cons t ts) rest = 32 ∷ print_term t (print_spaced ts rest)

unfoldable pub print_answer : Terms → List ℕ → List ℕ
print_answer nil rest = true_text ++ rest
print_answer (cons t ts) rest = print_term t (print_spaced ts rest)

unfoldable pub print_answers : List Goal → List ℕ
print_answers [] = []
print_answers (g ∷ gs) = print_answer g.answer_terms (10 ∷ print_answers gs)

-- The first line is a word: `all` (finished, nothing parked, an answer), `no` (finished, nothing parked, no answer) or `open`.
unfoldable pub verdict_text : Stop → List Marked → List Goal → List ℕ
verdict_text finished [] [] = no_text
verdict_text finished [] (g ∷ gs) = all_text
verdict_text finished (m ∷ ms) gs = open_text
verdict_text budget ms gs = open_text
verdict_text answers ms gs = open_text
verdict_text store ms gs = open_text

-- The second line is stop, steps, answers, pending, parked, cost, with a space between. Each line ends in byte 10.
unfoldable pub listing : Checked Outcome → List ℕ
listing (refused n) = refused_text ++ decimal (refusal_number n) (10 ∷ [])
listing (accepted o) =
    verdict_text o.stop o.parked o.answers
    ++ (10 ∷ (stop_text o.stop
    ++ (32 ∷ decimal o.steps
    (32 ∷ decimal (length o.answers)
    (32 ∷ decimal (length o.pending)
    (32 ∷ decimal (length o.parked)
    (32 ∷ decimal o.cost
    (10 ∷ print_answers o.answers))))))))
