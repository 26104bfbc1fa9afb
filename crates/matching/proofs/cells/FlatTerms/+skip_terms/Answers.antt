-- `skip_terms` meets its contract. The measure is the number of cells that remain.
use Rattle.matching.proofs.CellLaws.{skipped-none, skipped-inside, skipped-arguments, skipped-left, skipped-then}
use native.Mathlib.Omega.{arith}
use Rattle.matching.proofs.cells.FlatTerms.+skip_terms.Goals as goal

pub returns-then-number-eq0 : goal.returns-then-number-eq0
returns-then-number-eq0 t c = skipped-none c.requires.0 c.if-number-eq0.true

pub overflow_add-p : goal.overflow_add-p
overflow_add-p t c = omega (arith, skipped-inside c.args.self.now.formed c.args.p c.args.number c.if-number-eq0.false c.requires.1, c.well_formed)

pub arity-arity-requires : goal.arity-arity-requires
arity-arity-requires t c = skipped-inside c.args.self.now.formed c.args.p c.args.number c.if-number-eq0.false c.requires.1

pub skip_terms-next-requires : goal.skip_terms-next-requires
skip_terms-next-requires t c =
    let formed = c.args.self.now.formed in
    let h = skipped-inside formed c.args.p c.args.number c.if-number-eq0.false c.requires.1 in
    (omega (arith, h, c.decreases), (omega arith, skipped-arguments formed c.args.p c.args.number c.if-number-eq0.false c.requires.1 c.arity-arity.ensures))

pub skip_terms-requires : goal.skip_terms-requires
skip_terms-requires t c =
    let formed = c.args.self.now.formed in
    let h = skipped-inside formed c.args.p c.args.number c.if-number-eq0.false c.requires.1 in
    let k = c.skip_terms-next.ensures in
    (omega (arith, h, c.skip_terms-next.ensures.onward, c.decreases), (c.skip_terms-next.ensures.inside, skipped-left formed c.args.p c.args.number c.if-number-eq0.false c.requires.1 c.arity-arity.ensures k))

pub returns : goal.returns
returns t c = skipped-then c.args.self.now.formed c.args.p c.args.number c.if-number-eq0.false c.requires.1 c.arity-arity.ensures c.skip_terms-next.ensures c.skip_terms.ensures
