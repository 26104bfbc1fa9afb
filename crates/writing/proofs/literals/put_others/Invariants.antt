-- Literals after commas. The invariant: whatever literals the row holds, those that the cells left hold are still to be written.
use Prim.Native.Nat.{ℕ}
use mathlib.Core.List.{List, []}
use lib.ListN.{length}
use Rattle.rules.specs.Syntax.{Literal}
use Rattle.text_rules.specs.TextWriter.{literals_text}
use Rattle.listing.specs.declared.output.Output.{Output}
use Rattle.listing.proofs.PutLaws.{Left}
use Rattle.writing.specs.Literals.{LiteralsAt}
use Rattle.writing.proofs.literals.put_others.Given as goal

-- The literals that are still to be written.
pub record RowLeft (words : List ℕ) (before : Output) (whole : List ℕ) (out : Output) (cells : List ℕ) : Type 0 where
  pub others : List Literal
  pub standing : LiteralsAt words cells others
  pub left : Left before whole out (literals_text others [])

abbrev pub invariant-loop-cells : goal.invariant-loop-cells
invariant-loop-cells l =
    (ls : List Literal) → LiteralsAt l.symbols l.row ls → RowLeft l.symbols l.initial.out (literals_text ls []) l.out l.cells

abbrev pub decreases-loop-cells : goal.decreases-loop-cells
decreases-loop-cells l = length l.cells
