-- By the value of the digits.
use Rattle.text.proofs.TokenLaws.{number-scanned}
use Rattle.text.proofs.tokens.number_token.Goals as goal

pub returns : goal.returns
returns c = number-scanned c.args.text.now c.args.from c.requires.0 c.requires.1 c.number_at-n.result c.number_at-n.ensures c.number_kind-kind.result c.number_kind-kind.ensures
