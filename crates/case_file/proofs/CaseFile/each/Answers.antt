-- Each call is one more.
use Rattle.std.proofs.Common.{refl}
use native.Mathlib.Numerals.{add-one}
use Rattle.case_file.proofs.CaseFile.each.Goals as goal

pub loop-init : goal.loop-init
loop-init g c = refl

pub loop-preserved : goal.loop-preserved
loop-preserved g c = rw (add-one c.loop.counter) (c.loop.self, c.loop.invariant, (_, _, refl, c.in_ok-case.ensures, refl))

pub returns : goal.returns
returns g c = λ ok. (c.number-end.new.self, c.number-end.ensures.taken, (_, c.loop.invariant))
