-- `query_tight`: what the walk says is said of the query.
use mathlib.Core.Path.{refl}
use native.Mathlib.Omega.{arith}
use Rattle.loose.proofs.LooseLaws.{query-result, blank-marks}
use Rattle.loose.proofs.query_tight.Goals as goal

pub tight-requires : goal.tight-requires
tight-requires c = (blank-marks 1024 refl, omega arith)

pub returns : goal.returns
returns c d q o r = query-result c.args.deck.now.words.now d o q _ c.args.query.now c.tight.result r c.symbols.ensures c.tight.ensures.0
