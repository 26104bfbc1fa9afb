-- `arity_of` meets its contract. Assumes nothing.
use mathlib.Core.Path.{sym, ◌∙◌}
use Rattle.matching.proofs.CellLaws.{args-functor, args-var}
use Rattle.matching.proofs.cells.arity_of.Goals as goal

pub arity-requires : goal.arity-requires
arity-requires c =
    rw c.from-then-c-from.ensures (c.requires (rw c.from.ensures at c.if-c-from.true))

pub returns-then-c-from : goal.returns-then-c-from
returns-then-c-from c =
    (rw c.from-then-c-from.ensures at c.arity.ensures) ∙ sym (args-functor _ _ (rw c.from.ensures at c.if-c-from.true))

pub returns-else-c-from : goal.returns-else-c-from
returns-else-c-from c =
    sym (args-var _ _ (rw c.from.ensures at c.if-c-from.false))
