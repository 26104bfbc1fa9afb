-- By the number that the table finds.
use mathlib.Core.Path.{ap, ◌∙◌}
use lib.Dec.{eqb}
use native.Mathlib.Omega.{arith}
use Rattle.text.specs.declared.names.Entry.{Entry}
use Rattle.naming.specs.declared.declarations.Symbol.{Symbol}
use Rattle.naming.specs.Walks.{symbol_of}
use Rattle.naming.specs.Table.{no_symbol}
use Rattle.text_rules.specs.TextWords.{arity}
use Rattle.text_rules.specs.Text.{text_declarations}
use Rattle.uses.specs.Uses.{takes}
use Rattle.naming.proofs.FindLaws.{find-below}
use Rattle.uses.proofs.TableLaws.{table_none, table_some}
use Rattle.uses.proofs.lookup.takes.Goals as goal

pub get-requires : goal.get-requires
get-requires c = let d = c.args.names in (omega arith, find-below d.names.now d.declared c.args.bytes.now c.find.result c.find.ensures.last c.in-Some.j c.in-Some.is)

pub returns-in-Some : goal.returns-in-Some
returns-in-Some c =
    let a = c.args in
    let d = a.names in
    ap (λ k. eqb k a.arguments) (c.arity.ensures ∙ ap (λ (e : Entry Symbol). arity (symbol_of e.value)) (c.get.ensures.equal no_symbol))
    ∙ table_some d.names.now d.declared a.bytes.now c.find.result c.find.ensures.last c.in-Some.j c.in-Some.is a.arguments
    ∙ ap (λ text. takes (text_declarations text) a.bytes.now a.arguments) d.same

pub returns-in-None : goal.returns-in-None
returns-in-None c =
    let a = c.args in
    let d = a.names in
    table_none d.names.now d.declared a.bytes.now c.find.result c.find.ensures.last c.in-None.is a.arguments
    ∙ ap (λ text. takes (text_declarations text) a.bytes.now a.arguments) d.same
