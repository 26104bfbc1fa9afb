-- `inside_after`: only a predicate's cell changes what counts.
use Rattle.deck.proofs.KindLaws.{no-predicate}
use Rattle.loose.proofs.MarkLaws.{inside-kept}
use Rattle.loose.proofs.row.inside_after.Goals as goal

pub returns-in_default : goal.returns-in_default
returns-in_default c = inside-kept c.args.kind c.args.inside (no-predicate c.args.kind c.in_default.not-Positive c.in_default.not-Negative)
