-- `fit` meets its contract.
use Rattle.std.proofs.Common.{◌+◌, ap, sym, ◌∙◌, ◌&&◌, arith}
use Rattle.rights.proofs.BarLaws.{fit_from, bars-short, bars-next, bars-end}
use Rattle.rights.proofs.bars.fit.Goals as goal

pub returns-then-symbols-bars : goal.returns-then-symbols-bars
returns-then-symbols-bars c = bars-short c.args.symbols.now c.args.bars.now c.if-symbols-bars.true

pub returns-then-not-bar_fits : goal.returns-then-not-bar_fits
returns-then-not-bar_fits c =
    let p = c.loop-p.p in
    let h = bars-next c.args.symbols.now c.args.bars.now p (omega (arith, c.loop-p-test.true)) (omega (arith, c.loop-p-test.true, c.if-symbols-bars.false)) in
    let t = sym c.bar_fits.ensures ∙ c.if-not-bar_fits.true in
    sym (ap (λ b. b && fit_from c.args.symbols.now c.args.bars.now (p + 1)) t) ∙ sym h ∙ c.loop-p.invariant

pub loop-p-preserved : goal.loop-p-preserved
loop-p-preserved c =
    let p = c.loop-p.p in
    let h = bars-next c.args.symbols.now c.args.bars.now p (omega (arith, c.loop-p-test.true)) (omega (arith, c.loop-p-test.true, c.if-symbols-bars.false)) in
    let t = sym c.bar_fits.ensures ∙ c.if-not-bar_fits.false in
    sym (ap (λ b. b && fit_from c.args.symbols.now c.args.bars.now (p + 1)) t) ∙ sym h ∙ c.loop-p.invariant

pub returns : goal.returns
returns c =
    sym (bars-end c.args.symbols.now c.args.bars.now c.loop-p.p (omega (arith, c.loop-p-test.false)) (omega (arith, c.loop-p-test.false, c.if-symbols-bars.false))) ∙ c.loop-p.invariant
