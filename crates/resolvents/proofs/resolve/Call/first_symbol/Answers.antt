-- `Call::first_symbol` meets its contract. Assumes nothing.
use mathlib.Core.Path.{sym}
use native.Mathlib.Omega.{arith}
use Rattle.resolvents.proofs.CallLaws.{selected-inside, arity-known, first-argument, leading-none, leading-some, leading-variable}
use Rattle.resolvents.proofs.resolve.Call.first_symbol.Goals as goal

pub offset_bounds-cells-self : goal.offset_bounds-cells-self
offset_bounds-cells-self c = omega (arith, c.requires.calls.inside, selected-inside c.requires.calls)

pub bounds-cells-self : goal.bounds-cells-self
bounds-cells-self c = omega (arith, c.requires.calls.inside, selected-inside c.requires.calls)

pub arity_of-requires : goal.arity_of-requires
arity_of-requires c = rw c.from.ensures (arity-known c.requires.calls)

pub returns-then-arity_of-eq0 : goal.returns-then-arity_of-eq0
returns-then-arity_of-eq0 c =
    λ S g before p ts after n k. sym (leading-none k (omega (arith, rw c.from.ensures at c.arity_of.ensures, c.if-arity_of-eq0.true)))

pub offset_bounds-cells-self-2 : goal.offset_bounds-cells-self-2
offset_bounds-cells-self-2 c =
    omega (arith, c.requires.calls.inside, first-argument c.requires.calls (omega (arith, rw c.from.ensures at c.arity_of.ensures, c.if-arity_of-eq0.false)))

pub bounds-cells-self-2 : goal.bounds-cells-self-2
bounds-cells-self-2 c =
    omega (arith, c.requires.calls.inside, first-argument c.requires.calls (omega (arith, rw c.from.ensures at c.arity_of.ensures, c.if-arity_of-eq0.false)))

pub returns-then-first-ge-VARIABLE : goal.returns-then-first-ge-VARIABLE
returns-then-first-ge-VARIABLE c =
    λ S g before p ts after n k.
    sym (leading-variable k (omega (arith, rw c.from.ensures at c.arity_of.ensures, c.if-arity_of-eq0.false)) c.if-first-ge-VARIABLE.true)

pub returns : goal.returns
returns c =
    λ S g before p ts after n k.
    sym (leading-some k (omega (arith, rw c.from.ensures at c.arity_of.ensures, c.if-arity_of-eq0.false)) c.if-first-ge-VARIABLE.false)
