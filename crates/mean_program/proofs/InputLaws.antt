-- The column's number and the query's bytes; what the program comes to, test by test.
use Prim.Native.Nat.{ℕ, ◌+◌, ◌-◌, ◌*◌, min}
use mathlib.Core.Path.{◌≡◌, refl, ◌∙◌}
use mathlib.Core.Option.{Option}
use mathlib.Core.List.{List, [], ◌∷◌}
use native.Mathlib.Omega.{arith}
use lib.ListN.{length, get_or, take, drop, length-drop}
use lib.Seq.{take_all}
use Rattle.rules.specs.Refusals.{Refusal, refused, accepted}
use Rattle.rules.specs.Program.{query_input}
use Rattle.rules.specs.CarryProgram.{number_from, deck_input}
use Rattle.program.proofs.PartLaws.{and_then-refused, and_then-accepted}
use Rattle.mean_program.specs.MeanProgram.{words_mean, mean_run}

pub place-is : (input : List ℕ) → get_or input 0 0 + 256 * get_or input 1 0 ≡ number_from 2 input
unfolding number_from
place-is [] = omega arith
place-is (a ∷ []) = omega arith
place-is (a ∷ b ∷ cs) = omega arith

behind : (input : List ℕ) (n : ℕ) → n ≡ min (length input) 2 → drop n input ≡ drop 2 input
behind [] n e = let q : n ≡ 0 = omega arith in rw q refl
behind (a ∷ []) n e = let q : n ≡ 1 = omega arith in rw q refl
behind (a ∷ b ∷ cs) n e = let q : n ≡ 2 = omega arith in rw q refl

pub behind-is : (input : List ℕ) (n : ℕ) → n ≡ min (length input) 2 → take (length input - n) (drop n input) ≡ drop 2 input
behind-is input n e = take_all (length input - n) (drop n input) (omega (arith, length-drop n input)) ∙ behind input n e

module _ (file : Option (List ℕ)) (input : List ℕ) where
  pub mean_run-deck : (n : Refusal) → deck_input file ≡ refused n → mean_run file input ≡ refused n
  unfolding mean_run
  mean_run-deck n e = and_then-refused (deck_input file) _ n e

  module _ (deck_words : List ℕ) (d : deck_input file ≡ accepted deck_words) where
    pub mean_run-query : (n : Refusal) → query_input (drop 2 input) ≡ refused n → mean_run file input ≡ refused n
    unfolding mean_run
    mean_run-query n e = and_then-accepted (deck_input file) _ deck_words d ∙ and_then-refused (query_input (drop 2 input)) _ n e

    pub mean_run-words : (query_words : List ℕ) → query_input (drop 2 input) ≡ accepted query_words → mean_run file input ≡ words_mean (number_from 2 input) deck_words query_words
    unfolding mean_run
    mean_run-words query_words e = and_then-accepted (deck_input file) _ deck_words d ∙ and_then-accepted (query_input (drop 2 input)) _ query_words e
