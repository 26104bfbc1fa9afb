-- The invariant: whatever terms the row holds, those that the cells left hold are still to be printed.
use mathlib.Core.Path.{◌≡◌}
use mathlib.Core.List.{[]}
use lib.ListN.{length}
use Rattle.rules.specs.Terms.{Terms, sizes}
use Rattle.rules.specs.Listing.{print_spaced}
use Rattle.listing.specs.Standing.{TermsAt}
use Rattle.listing.proofs.RowLaws.{RowLeft}
use Rattle.listing.proofs.answers.put_spaced.Given as goal

abbrev pub invariant-loop-cells : goal.invariant-loop-cells
invariant-loop-cells l =
    (ts : Terms) → TermsAt l.symbols l.row ts → length l.row ≡ sizes ts → RowLeft l.symbols l.initial.out (print_spaced ts []) l.out l.cells

abbrev pub decreases-loop-cells : goal.decreases-loop-cells
decreases-loop-cells l = length l.cells
