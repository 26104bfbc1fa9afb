-- `kinds::read`: a cell is told apart by its size, as in the rules.
use mathlib.Core.Path.{ap, sym, ◌∙◌}
use native.Mathlib.Omega.{arith}
use lib.ListN.{get_elem?}
use Rattle.rules.specs.Cells.{symbol_cell, negated_cell}
use Rattle.rules.proofs.CellLaws.{cell-symbol, cell-negated}
use Rattle.deck.specs.declared.kinds.Kind.TheVariants.{Variable}
use Rattle.deck.specs.Kinds.{symbols_of, kind_of}
use Rattle.deck.proofs.KindLaws.{read-variable, read-over}
use Rattle.deck.proofs.kinds.read.Goals as goal

pub returns-in-0-to-16383 : goal.returns-in-0-to-16383
returns-in-0-to-16383 c =
    let S = symbols_of c.args.symbols.now in
    c.symbol.ensures ∙ ap (λ n. kind_of (symbol_cell n (get_elem? S n))) c.from.ensures ∙ sym (ap kind_of (cell-symbol S _ (omega arith)))

pub returns-in-16384-to-32767 : goal.returns-in-16384-to-32767
returns-in-16384-to-32767 c =
    let S = symbols_of c.args.symbols.now in
    c.negated.ensures ∙ ap (λ n. kind_of (negated_cell n (get_elem? S n))) c.from-in-16384-to-32767.ensures
    ∙ sym (ap kind_of (cell-negated S _ (omega arith) (omega arith)))

pub returns-in-32768-to-33791 : goal.returns-in-32768-to-33791
returns-in-32768-to-33791 c = ap Variable c.from-in-32768-to-33791.ensures ∙ sym (ap kind_of (read-variable _ _ (omega arith) (omega arith)))

pub returns-in_default : goal.returns-in_default
returns-in_default c = sym (ap kind_of (read-over _ _ (omega arith) (omega arith)))
