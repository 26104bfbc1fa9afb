-- A term and a symbol with its arguments call each other: twice the cells left falls, and one more for the symbol.
-- The invariant: whatever arguments the cells begin with, those from the place on are still to be printed.
use Prim.Native.Nat.{◌+◌, ◌*◌, ◌≤◌}
use mathlib.Core.List.{[]}
use lib.ListN.{length}
use Rattle.rules.specs.Terms.{app, Terms, sizes}
use Rattle.listing.specs.Standing.{ArgumentsAt, show_term}
use Rattle.listing.proofs.ArgumentLaws.{ArgumentsLeft}
use Rattle.listing.proofs.terms.Printer.+put_applied_put_term.Given as goal

abbrev pub invariant-put_applied-loop-i : goal.invariant-put_applied-loop-i
invariant-put_applied-loop-i l =
    (length l.cells.now ≤ length l.fn.cells.now)
    × ((ts : Terms) → ArgumentsAt l.self.symbols.now l.fn.cells.now l.arity ts
    → ArgumentsLeft l.self.symbols.now l.self.sign l.arity l.fn.out l.fn.cells.now (show_term l.self.sign (app l.symbol ts) []) (sizes ts) l._i l.out l.cells.now)

abbrev pub decreases-put_applied : goal.decreases-put_applied
decreases-put_applied l = 2 * length l.cells.now.now + 1

abbrev pub decreases-put_term : goal.decreases-put_term
decreases-put_term l = 2 * length l.cells.now.now
