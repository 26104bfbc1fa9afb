-- By the kind of the cell.
use Prim.Native.Nat.{◌≤◌}
use mathlib.Core.Path.{◌≡◌, sym, ◌∙◌, subst}
use native.Mathlib.Omega.{arith}
use Rattle.rules.specs.Cells.{read_cell}
use Rattle.deck.specs.Kinds.{kind_of}
use Rattle.deck.specs.declared.kinds.Kind.{Kind}
use Rattle.deck.proofs.KindLaws.{small-variable}
use Rattle.writing.specs.Writes.{symbols_in}
use Rattle.writing.proofs.DeckLaws.{known-symbols}
use Rattle.writing.proofs.LengthLaws.{arity_of, known-arity, negative-cell}
use Rattle.writing.proofs.lengths.cell_length.Goals as goal
use Rattle.writing.proofs.lengths.cell_length.Goals.{After-read}

-- The kind read is the cell's, and its arity is small.
kind-read : (c : After-read) → kind_of (read_cell (symbols_in c.args.deck.now.words.now) c.args.cell) ≡ c.read.result
kind-read c = let e = rw c.symbols.ensures at c.read.ensures in sym e

small-arity : (c : After-read) (k : Kind) → c.read.result ≡ k → arity_of k ≤ 15
small-arity c k e =
    let ws = c.args.deck.now.words.now in
    subst (λ (x : Kind). arity_of x ≤ 15) (kind-read c ∙ e) (known-arity (symbols_in ws) (known-symbols ws c.args.deck.now.opens) c.args.cell)

pub digits-requires : goal.digits-requires
digits-requires c = omega (arith, small-variable _ _ _ (kind-read (goal.at.digits-requires c).After-read ∙ c.in-Variable.is))

pub brackets-requires : goal.brackets-requires
brackets-requires c = small-arity (goal.at.brackets-requires c).After-read _ c.in-Function.is

pub brackets-requires-in-Positive : goal.brackets-requires-in-Positive
brackets-requires-in-Positive c = small-arity (goal.at.brackets-requires-in-Positive c).After-read _ c.in-Positive.is

pub overflow_sub-cell : goal.overflow_sub-cell
overflow_sub-cell c = omega (arith, negative-cell _ _ _ (kind-read (goal.at.overflow_sub-cell c).After-read ∙ c.in-Negative.is))

pub brackets-requires-in-Negative : goal.brackets-requires-in-Negative
brackets-requires-in-Negative c = small-arity (goal.at.brackets-requires-in-Negative c).After-read _ c.in-Negative.is
