-- By the value of the digits after the sign.
use Rattle.text.proofs.TokenLaws.{sign-scanned, negative-scanned}
use Rattle.text.proofs.tokens.negative_token.Goals as goal

pub returns-then-to-from : goal.returns-then-to-from
returns-then-to-from c = rw c.one_byte.ensures (sign-scanned c.args.text.now c.args.from c.requires.0 c.requires.1 c.number_at-n.result c.number_at-n.ensures c.if-to-from.true)

pub returns : goal.returns
returns c = negative-scanned c.args.text.now c.args.from c.requires.0 c.requires.1 c.number_at-n.result c.number_at-n.ensures c.if-to-from.false c.negative_kind-kind.result c.negative_kind-kind.ensures
