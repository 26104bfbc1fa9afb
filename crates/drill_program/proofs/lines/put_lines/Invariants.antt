-- Terms, one to a line. The invariant: whatever terms the cells begin with, those that what is left of them begins with are still to be printed.
use Rattle.std.proofs.Common.{◌≡◌, ℕ, ◌+◌, List}
use Rattle.rules.specs.Terms.{Terms, count}
use Rattle.rules.specs.DrillProgram.{print_lines}
use Rattle.listing.specs.declared.output.Output.{Output}
use Rattle.listing.specs.Standing.{TermsAt}
use Rattle.listing.proofs.PutLaws.{Left}
use Rattle.drill_program.proofs.lines.put_lines.Given as goal

-- The terms that are still to be printed.
pub record LinesLeft (words cells : List ℕ) (number : ℕ) (before : Output) (whole : List ℕ) (i : ℕ) (out : Output) : Type 0 where
  pub others : Terms
  pub standing : TermsAt words cells others
  pub many : i + count others ≡ number
  pub left : Left before whole out (print_lines others)

abbrev pub invariant-loop-i : goal.invariant-loop-i
invariant-loop-i l =
    (ts : Terms) → TermsAt l.symbols l.cells ts → count ts ≡ l.number → LinesLeft l.symbols l.rest l.number l.initial.out (print_lines ts) l._i l.out
