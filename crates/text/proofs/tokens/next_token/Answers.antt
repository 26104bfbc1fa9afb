-- Spacing is passed over.
use Rattle.text.proofs.TokenLaws.{next-scanned, next-ended}
use Rattle.text.proofs.tokens.next_token.Goals as goal

pub returns-then-from-text : goal.returns-then-from-text
returns-then-from-text c = next-scanned c.args.text.now c.args.at c.skip_spaces-from.result c.skip_spaces-from.ensures c.token_at.result c.if-from-text.true c.token_at.ensures

pub returns : goal.returns
returns c = next-ended c.args.text.now c.args.at c.skip_spaces-from.result c.skip_spaces-from.ensures c.if-from-text.false
