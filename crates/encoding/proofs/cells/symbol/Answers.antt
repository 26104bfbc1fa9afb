-- By the number that the table finds.
use mathlib.Core.Path.{ap, ◌∙◌}
use native.Mathlib.Omega.{arith}
use lib.ListN.{length}
use Rattle.text_rules.specs.TextWords.{number_of, symbol_number}
use Rattle.text_rules.specs.Text.{text_declarations}
use Rattle.naming.proofs.FindLaws.{find-number}
use Rattle.encoding.proofs.CellLaws.{symbol-number, found-few}
use Rattle.encoding.proofs.cells.symbol.Goals as goal

pub overflow_cast-result : goal.overflow_cast-result
overflow_cast-result c = omega (arith, c.unwrap_or.ensures, found-few (length c.args.names.names.now.entries) c.find.result c.find.ensures.inside)

pub returns-clause-few : goal.returns-clause-few
returns-clause-few c = omega (arith, c.unwrap_or.ensures, found-few (length c.args.names.names.now.entries) c.find.result c.find.ensures.inside)

pub returns-clause-number : goal.returns-clause-number
returns-clause-number c = λ u e.
    let d = c.args.names in
    let t = d.names.now in
    c.unwrap_or.ensures
    ∙ symbol-number (text_declarations t.text) u c.find.result (ap (λ w. number_of w 0 (text_declarations t.text)) e ∙ find-number t d.declared c.args.name.now c.find.result c.find.ensures.last)
    ∙ ap (λ text. symbol_number (text_declarations text) u) d.same
