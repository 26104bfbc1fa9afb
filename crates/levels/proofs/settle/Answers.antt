-- `settle` meets its contract: each closing by its law. Assumes nothing.
use native.Mathlib.Omega.{arith}
use mathlib.Core.Path.{ap, subst}
use Rattle.std.proofs.lemmas.Result.{err_from_is_err_and}
use Rattle.levels.specs.Levels.{verdict_for, Asked}
use Rattle.levels.proofs.NegativeLaws.{negates-inside}
use Rattle.levels.proofs.TurnLaws.{settled-succeeds, settled-fails, settled-unsettled, settled-halted}
use Rattle.levels.proofs.settle.Goals as goal

pub overflow_sub-held : goal.overflow_sub-held
overflow_sub-held c = omega (arith, negates-inside c.requires.negates)

pub bounds-store-held : goal.bounds-store-held
bounds-store-held c = omega (arith, negates-inside c.requires.negates)

pub overflow_sub-result : goal.overflow_sub-result
overflow_sub-result c = omega (arith, c.from-length.ensures, negates-inside c.requires.negates)

pub remove-requires : goal.remove-requires
remove-requires c = negates-inside c.requires.negates

pub returns-in-Succeeds : goal.returns-in-Succeeds
returns-in-Succeeds c =
    λ d g gs before p ts after below account n a.
    settled-succeeds d below n (subst (Asked d below c.args.store.now c.args.held account p ts) c.in_ok-verdict.was a) c.from-length.result c.from-length.ensures (ap verdict_for c.in-Succeeds.is)

pub returns-in-Fails : goal.returns-in-Fails
returns-in-Fails c =
    λ d g gs before p ts after below account n a.
    settled-fails d below n (subst (Asked d below c.args.store.now c.args.held account p ts) c.in_ok-verdict.was a) c.remove.new.store c.remove.auto.store c.remove.ensures (ap verdict_for c.in-Fails.is)

pub returns-in-Unsettled : goal.returns-in-Unsettled
returns-in-Unsettled c = λ d g gs before p ts after below account n a. settled-unsettled d below n (subst (Asked d below c.args.store.now c.args.held account p ts) c.in_ok-verdict.was a) (ap verdict_for c.in-Unsettled.is)

pub returns-in_err-verdict : goal.returns-in_err-verdict
returns-in_err-verdict c =
    let p = err_from_is_err_and c.from_residual.result c.from_residual.ensures.1 in
    rw (p.1, p.2) (λ d g gs before p ts after below account n a. settled-halted d below _ n (subst (Asked d below c.args.store.now c.args.held account p ts) c.in_err-verdict.was a))
