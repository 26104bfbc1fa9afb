-- `stamp` meets its contract. Assumes nothing.
use mathlib.Core.Path.{sym, refl}
use native.Mathlib.Decide.{dec_lt}
use native.Mathlib.Omega.{arith}
use Rattle.matching.specs.Bindings.{stamped}
use Rattle.rules.proofs.TermLaws.{ite-yes, ite-no}
use Rattle.matching.proofs.occurs.set_stamp.Goals as goal

pub returns-then-cell-ge-VARIABLE : goal.returns-then-cell-ge-VARIABLE
unfolding stamped
returns-then-cell-ge-VARIABLE c =
    record {
      table_after = rw c.from.ensures (sym (ite-no (dec_lt c.args.cell 32768) _ _ (λ l. omega (arith, c.if-cell-ge-VARIABLE.true))));
      bindings_kept = record { bind = refl; trail = refl; bound = refl };
    }

pub returns-else-cell-ge-VARIABLE : goal.returns-else-cell-ge-VARIABLE
unfolding stamped
returns-else-cell-ge-VARIABLE c =
    record {
      table_after = sym (ite-yes (dec_lt c.args.cell 32768) _ _ c.if-cell-ge-VARIABLE.false);
      bindings_kept = record { bind = refl; trail = refl; bound = refl };
    }
