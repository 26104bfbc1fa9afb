-- `put_variable` meets its contract. Assumes nothing.
use native.Mathlib.Omega.{arith}
use Rattle.resolvents.proofs.NamingLaws.{next-inside, number_small, named_more}
use Rattle.resolvents.proofs.WroteLaws.{wrote-new, wrote-old}
use Rattle.resolvents.proofs.put.Draft.put_variable.Goals as goal

pub bounds-self-self : goal.bounds-self-self
bounds-self-self c = omega (arith, next-inside c.args.self.now.numbered c.requires.v_in_bounds (rw c.from.ensures at c.in_default.is))

pub returns : goal.returns
returns c = rw c.from-2.ensures (wrote-new c.args.self.now.numbered c.requires.v_in_bounds c.requires.to_in_bounds (rw c.from.ensures at c.in_default.is))

pub returns-in-Some : goal.returns-in-Some
returns-in-Some c = wrote-old c.args.self.now.numbered c.requires.v_in_bounds c.requires.to_in_bounds (rw c.from.ensures at c.in-Some.is)

pub invariant_of-self-2 : goal.invariant_of-self-2
invariant_of-self-2 c = record { numbered = rw c.from-2.ensures (named_more c.args.self.now.numbered c.requires.v_in_bounds (rw c.from.ensures at c.in_default.is)) }

pub overflow_add-self : goal.overflow_add-self
overflow_add-self c =
    let w = c.args.self.now.numbered in
    omega (arith, number_small w c.requires.v_in_bounds (rw c.from.ensures at c.in-Some.is), w.counted, w.narrow)
