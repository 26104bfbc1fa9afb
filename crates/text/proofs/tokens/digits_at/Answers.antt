-- The digits in front, and their value.
use Rattle.std.proofs.Common.{◌+◌, ◌≤◌, length, arith, rules}
use Rattle.text_rules.specs.TextTokens.{digit_byte}
use Rattle.text.proofs.ScanLaws.{front-fits, digits-found}
use Rattle.text.proofs.tokens.digits_at.Goals as goal

pub overflow_add-to : goal.overflow_add-to
overflow_add-to c = omega (arith, front-fits digit_byte c.args.text.now c.args.from c.digits.result c.requires c.digits.ensures)

pub slice_bounds-decimal-end : goal.slice_bounds-decimal-end
slice_bounds-decimal-end c =
    let f : c.args.from + c.digits.result ≤ length c.args.text.now = front-fits digit_byte c.args.text.now c.args.from c.digits.result c.requires c.digits.ensures in search rules

pub returns : goal.returns
returns c = digits-found c.args.text.now c.args.from c.digits.result c.decimal.result c.requires c.digits.ensures c.decimal.ensures
