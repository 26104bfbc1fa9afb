-- A variable is at most 1,023.
use Rattle.text.proofs.TokenLaws.{bare-scanned, variable-scanned, far-scanned}
use Rattle.text.proofs.tokens.variable_token.Goals as goal

pub returns-then-to-from : goal.returns-then-to-from
returns-then-to-from c = rw c.one_byte.ensures (bare-scanned c.args.text.now c.args.from c.requires.0 c.requires.1 c.number_at-n.result c.number_at-n.ensures c.if-to-from.true)

pub returns-then-n-le1023 : goal.returns-then-n-le1023
returns-then-n-le1023 c = variable-scanned c.args.text.now c.args.from c.requires.0 c.requires.1 c.number_at-n.result c.number_at-n.ensures c.if-to-from.false c.if-n-le1023.true

pub returns : goal.returns
returns c = far-scanned c.args.text.now c.args.from c.requires.0 c.requires.1 c.number_at-n.result c.number_at-n.ensures c.if-to-from.false c.if-n-le1023.false
