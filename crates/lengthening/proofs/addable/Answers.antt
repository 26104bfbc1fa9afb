-- `addable`: the tests, in the order of the refusals.
use Prim.Native.Nat.{◌≤◌}
use mathlib.Core.Path.{ap, sym, ◌∙◌}
use native.Mathlib.Omega.{arith}
use lib.ListN.{length}
use borrow.Author.Tests.{eqb-true, eqb-false}
use Rattle.rules.specs.Refusals.{checked_number}
use Rattle.rules.proofs.CopyLaws.{too-long, no-cells, too-many-cells, no-clause, adds}
use Rattle.lengthening.proofs.LengthLaws.{not-read, a-clause-read}
use Rattle.lengthening.proofs.addable.Goals as goal
use Rattle.lengthening.proofs.addable.Goals.{Else-is_empty}

some : (c : goal.Else-is_empty) → 1 ≤ length c.args.cells.now
some c = omega (arith, eqb-false (length c.args.cells.now) 0 (sym c.is_empty.ensures ∙ c.if-is_empty.false))

pub returns-then-deck-cells-gt16383 : goal.returns-then-deck-cells-gt16383
returns-then-deck-cells-gt16383 c d o = sym (ap checked_number (too-long _ d _ (omega (arith, c.if-deck-cells-gt16383.true))))

pub returns-then-is_empty : goal.returns-then-is_empty
returns-then-is_empty c d o =
    sym (ap checked_number (no-cells _ d _ (omega (arith, c.if-deck-cells-gt16383.false)) (eqb-true (length c.args.cells.now) 0 (sym c.is_empty.ensures ∙ c.if-is_empty.true))))

pub returns-then-cells-gt256 : goal.returns-then-cells-gt256
returns-then-cells-gt256 c d o = sym (ap checked_number (too-many-cells _ d _ (omega (arith, c.if-deck-cells-gt16383.false)) c.if-cells-gt256.true))

pub returns-then-not-clause : goal.returns-then-not-clause
returns-then-not-clause c d o =
    let e = some (goal.at.returns-then-not-clause c).Else-is_empty in
    sym (ap checked_number (no-clause _ d _ (omega (arith, c.if-deck-cells-gt16383.false)) e c.if-cells-gt256.false
    (not-read c.args.deck.now.words.now _ _ d _ o c.symbols.ensures c.clause.ensures c.if-not-clause.true)))

pub returns : goal.returns
returns c d o =
    let r = a-clause-read c.args.deck.now.words.now _ _ d _ o c.symbols.ensures c.clause.ensures c.if-not-clause.false in
    sym (ap checked_number (adds _ d _ r.0 (record { fits = omega (arith, c.if-deck-cells-gt16383.false); short = c.if-cells-gt256.false; reads = r.1 })))
