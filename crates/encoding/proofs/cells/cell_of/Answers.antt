-- By the entry.
use native.Mathlib.Omega.{arith}
use Rattle.text_rules.specs.Text.{text_declarations}
use Rattle.encoding.proofs.CellLaws.{cell_variable, cell_negated, cell_named}
use Rattle.encoding.proofs.cells.cell_of.Goals as goal
use Rattle.encoding.proofs.cells.cell_of.Goals.{in-Head, in-Head-2}

pub overflow_add-result : goal.overflow_add-result
overflow_add-result c = let i = rw c.in-Variable.is at c.requires.1 in omega (arith, i.0)

pub returns-in-Variable : goal.returns-in-Variable
returns-in-Variable c = λ e i. cell_variable (text_declarations c.args.names.all.text.text.now) c.args.given e i c.in-Variable.v c.in-Variable.is

pub returns-in-Negated : goal.returns-in-Negated
returns-in-Negated c = λ e i. cell_negated (text_declarations c.args.names.all.text.text.now) c.args.given e i c.in-Negated.name c.symbol.result c.symbol.ensures.number c.in-Negated.is

pub returns-in-Head : goal.returns-in-Head
returns-in-Head c = λ e i.
    let ds = text_declarations c.args.names.all.text.text.now in
    elim c.in-Head-1.branch [
      | in-Head w ↦ let number = rw w.name-is at c.symbol-in-Head.ensures.number in cell_named ds c.args.given e i w.in-Head.name c.symbol-in-Head.result number w.in-Head.is
      | in-Head-2 w ↦ let number = rw w.name-is at c.symbol-in-Head.ensures.number in cell_named ds c.args.given e i w.in-Head.name c.symbol-in-Head.result number w.in-Head.is
    ]
