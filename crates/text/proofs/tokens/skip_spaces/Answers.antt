-- Spacing is passed over.
use Rattle.std.proofs.Common.{arith}
use Rattle.text_rules.specs.TextTokens.{space, is_class}
use Rattle.text.proofs.ScanLaws.{front-fits, skipped}
use Rattle.text.proofs.tokens.skip_spaces.Goals as goal

pub overflow_add-result : goal.overflow_add-result
overflow_add-result c = omega (arith, front-fits (is_class space) c.args.text.now c.args.at c.spaces.result c.requires c.spaces.ensures)

pub returns : goal.returns
returns c = skipped c.args.text.now c.args.at c.spaces.result c.requires c.spaces.ensures
