-- The table's rule is one test over its entries.
use Rattle.std.proofs.Common.{ap, ◌∙◌, arith}
use Rattle.text_rules.specs.TextTokens.{class_of}
use Rattle.text.proofs.ClassLaws.{in_table, not-in-table}
use Rattle.text.proofs.classes.class_of.Goals as goal

pub returns-then-i-lt128 : goal.returns-then-i-lt128
returns-then-i-lt128 c = in_table c.from-i.result c.if-i-lt128.true ∙ ap class_of c.from-i.ensures

pub returns-else-i-lt128 : goal.returns-else-i-lt128
returns-else-i-lt128 c = not-in-table c.args.b (omega (arith, c.from-i.ensures))
