-- `goals`: the goals passed so far are read in front of the others.
use native.Mathlib.Omega.{arith}
use Rattle.deck.specs.Kinds.{symbols_of}
use Rattle.stored.specs.Passing.{fits_as}
use Rattle.stored.proofs.StoreLaws.{pass-start, pass-more, pass-none}
use Rattle.stored.proofs.Store.goals.Goals as goal

pub loop-init : goal.loop-init
loop-init c = pass-start (symbols_of c.args.self.now.symbols.now) (fits_as c.args.self.now.parked c.args.self.now.terms) c.args.self.now.words.now c.args.at c.requires

pub loop-preserved : goal.loop-preserved
loop-preserved c =
    let a = c.args in
    let l = c.loop in
    pass-more (symbols_of a.self.now.symbols.now) (fits_as a.self.now.parked a.self.now.terms) a.self.now.words.now a.at l.place l.counter l.invariant.0 l.invariant.1 c.in_ok-place.place c.in_ok-place.ensures

pub returns-in_err-place : goal.returns-in_err-place
returns-in_err-place c =
    let a = c.args in
    let l = c.loop in
    rw c.from_residual.ensures
    (pass-none (symbols_of a.self.now.symbols.now) (fits_as a.self.now.parked a.self.now.terms) a.self.now.words.now a.at l.place l.counter l.invariant.0 l.invariant.1 a.count c.loop-test.true c.in_err-place.ensures)

pub returns : goal.returns
returns c = (c.loop.invariant.0, omega (arith, c.loop.invariant.1, c.loop-test.false))
