-- `arity` meets its contract. Assumes nothing.
use mathlib.Core.Path.{◌∙◌}
use Rattle.drill.proofs.WordLaws.{arity-at}
use Rattle.drill.proofs.successor.Functors.arity.Goals as goal

pub returns : goal.returns
returns c = c.arity.ensures ∙ arity-at c.args.self.now.symbols.now c.args.f c.requires
