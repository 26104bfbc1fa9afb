-- `first` meets its contract. Assumes nothing.
use Prim.Native.Nat.{◌+◌}
use mathlib.Core.Path.{◌≡◌, sym, ◌∙◌}
use native.Mathlib.Omega.{arith}
use Rattle.rules.specs.Drill.{fillings}
use Rattle.deck.specs.Kinds.{symbols_of}
use Rattle.drill.specs.Successors.{nonempty}
use Rattle.drill.proofs.WordLaws.{entry-sought}
use Rattle.drill.proofs.RestLaws.{terms-end, terms-skip, least-begins}
use Rattle.drill.proofs.successor.Functors.first.Goals as goal
use Rattle.drill.proofs.successor.Functors.first.Goals.{After-is_some}

-- Whether there is a term of this size.
sought : (c : goal.After-is_some) → c.is_some.result ≡ nonempty (fillings (symbols_of c.args.self.now.symbols.now) c.loop-size.size 1)
sought c = c.is_some.ensures ∙ entry-sought (symbols_of c.args.self.now.symbols.now) c.loop-size.size 1 c.loop-size.invariant.0 (omega arith) c.seek.result c.seek.ensures

pub least-requires-clause-fillable : goal.least-requires-clause-fillable
least-requires-clause-fillable c = sym (sought (goal.at.least-requires-clause-fillable c).After-is_some) ∙ c.if-is_some.true

pub returns-then-is_some : goal.returns-then-is_some
returns-then-is_some c =
    least-begins (symbols_of c.args.self.now.symbols.now) c.args.n c.loop-size.size _ c.least.result (omega (arith, c.loop-size-test.true)) c.least.ensures (sym c.loop-size.invariant.1)

pub loop-size-preserved : goal.loop-size-preserved
loop-size-preserved c =
    let none = sym (sought (goal.at.loop-size-preserved c).After-is_some) ∙ c.if-is_some.false in
    (omega arith, sym (terms-skip _ c.args.n c.loop-size.size (omega (arith, c.loop-size-test.true)) none) ∙ c.loop-size.invariant.1)

pub returns : goal.returns
returns c = sym c.loop-size.invariant.1 ∙ terms-end _ c.args.n c.loop-size.size (omega (arith, c.loop-size-test.false))

pub returns-else-is_some : goal.returns-else-is_some
returns-else-is_some c =
    let none = sym (sought (goal.at.returns-else-is_some c).After-is_some) ∙ c.if-is_some.false in
    let more = terms-skip _ c.args.n c.loop-size.size (omega (arith, c.loop-size-test.true)) none in
    sym c.loop-size.invariant.1 ∙ more ∙ terms-end _ c.args.n (c.loop-size.size + 1) (omega arith)
