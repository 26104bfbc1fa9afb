-- `fit`: what is left to be looked at decides.
use Rattle.std.proofs.Common.{◌≡◌}
use Rattle.deck.specs.Kinds.{symbols_of}
use Rattle.rules.specs.Rights.{bars_fit}
use Rattle.rights.proofs.BarLaws.{fit_from}
use Rattle.rights.proofs.bars.fit.Given as goal

abbrev pub invariant-loop-p : goal.invariant-loop-p
invariant-loop-p l = fit_from l.symbols l.bars l.p ≡ bars_fit (symbols_of l.symbols) l.bars
