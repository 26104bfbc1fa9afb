-- `put_range` meets its contract: a range has at most as many terms as cells. Assumes nothing.
use native.Mathlib.Omega.{arith}
use Rattle.resolvents.proofs.WalkLaws.{range-whole}
use Rattle.resolvents.proofs.put.Draft.put_range.Goals as goal

pub put_terms-requires : goal.put_terms-requires
put_terms-requires c =
    record {
      inside = c.requires.inside;
      number_bound = (omega (arith, c.requires.inside, c.args.bound.now.triangular.formed.short), c.requires.p_le_end.1);
    }

pub returns : goal.returns
returns c = rw (range-whole c.args.bound.now.terms.symbols.now c.args.bound.now.terms.cells.now c.args.p c.args.end c.requires.inside) at c.put_terms.ensures
