-- A letter, and the letters and digits after it.
use Rattle.text.proofs.TokenLaws.{name-scanned}
use Rattle.text.proofs.tokens.name_token.Goals as goal

pub returns : goal.returns
returns c = name-scanned c.args.text.now c.args.from c.requires.0 c.requires.1 c.name_end.result c.name_end.ensures
