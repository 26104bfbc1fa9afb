-- The result of a call as the rules': a refusal with its number, or how many terms were written.
use Rattle.std.specs.Prelude.{ℕ, ◌≡◌, List, length, Result, Ok, Err}
use Rattle.rules.specs.Refusals as rules
use Rattle.deck.specs.Answers.{number_of}
use Rattle.deck.specs.declared.Refusal.{Refusal}

abbrev pub Answers : rules.Checked (List (List ℕ)) → Result ℕ Refusal → Type 0
Answers (rules.refused n) (Err why) = number_of (Err why) ≡ rules.refusal_number n
Answers (rules.refused n) (Ok count) = ⊥
Answers (rules.accepted terms) (Err why) = ⊥
Answers (rules.accepted terms) (Ok count) = count ≡ length terms
