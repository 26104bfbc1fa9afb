-- `bare`: none of the goals passed has a literal, and the others are still to be looked at.
use Prim.Native.Nat.{ℕ, ◌+◌}
use mathlib.Core.Path.{◌≡◌}
use mathlib.Core.List.{List}
use lib.ListN.{length}
use Rattle.rules.specs.Syntax.{Goal}
use Rattle.column.specs.Entries.{GoalsAt}
use Rattle.column.proofs.ListLaws.{all_bare}
use Rattle.column.proofs.answers.bare.Given as goal

pub record GoalsLeft (n i : ℕ) (rest : List ℕ) (gs : List Goal) : Type 0 where
  pub others : List Goal
  pub standing : GoalsAt rest others
  pub many : i + length others ≡ n
  pub left : all_bare gs ≡ all_bare others

abbrev pub invariant-loop-i : goal.invariant-loop-i
invariant-loop-i l = (gs : List Goal) → GoalsAt l.list gs → length gs ≡ l.count → GoalsLeft l.count l._i l.rest gs
