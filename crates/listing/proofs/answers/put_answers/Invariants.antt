-- Answers line by line. The invariant: whatever answers the list begins with, those that what is left of it begins with are still to be printed.
use Prim.Native.Nat.{ℕ, ◌+◌}
use mathlib.Core.Path.{◌≡◌}
use mathlib.Core.List.{List}
use lib.ListN.{length}
use Rattle.rules.specs.Syntax.{Goal}
use Rattle.rules.specs.Listing.{print_answers}
use Rattle.listing.specs.declared.output.Output.{Output}
use Rattle.listing.specs.Shown.{AnswersAt}
use Rattle.listing.proofs.PutLaws.{Left}
use Rattle.listing.proofs.answers.put_answers.Given as goal

-- The answers that are still to be printed.
pub record AnswersLeft (words list : List ℕ) (number : ℕ) (before : Output) (whole : List ℕ) (i : ℕ) (out : Output) : Type 0 where
  pub others : List Goal
  pub standing : AnswersAt words list others
  pub many : i + length others ≡ number
  pub left : Left before whole out (print_answers others)

abbrev pub invariant-loop-i : goal.invariant-loop-i
invariant-loop-i l =
    (gs : List Goal) → AnswersAt l.symbols l.answers gs → length gs ≡ l.number → AnswersLeft l.symbols l.list l.number l.initial.out (print_answers gs) l._i l.out
