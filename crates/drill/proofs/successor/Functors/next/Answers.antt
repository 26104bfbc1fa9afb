-- `next` meets its contract. Assumes nothing.
use mathlib.Core.Path.{◌≡◌, sym, ◌∙◌, subst}
use mathlib.Core.List.{[]}
use native.Mathlib.Omega.{arith}
use lib.ListN.{length}
use lib.Seq.{take_at}
use Rattle.deck.specs.Kinds.{symbols_of}
use Rattle.drill.specs.Successors.{followers, Heads, Advanced}
use Rattle.drill.specs.Holding.{term_cells}
use Rattle.drill.proofs.RestLaws.{term-length, begins-with, rest-next, rest-larger, rest-start}
use Rattle.drill.proofs.successor.Functors.next.Goals as goal

pub returns-in_default : goal.returns-in_default
returns-in_default c = rw (c.in_default.is, rest-start (symbols_of c.args.self.now.symbols.now) c.args.n) c.first.ensures

pub returns-then-advance : goal.returns-then-advance
returns-then-advance c =
    let S = symbols_of c.args.self.now.symbols.now in
    let n = c.args.n in
    let t = c.in-Some.term in
    let x = term_cells t in
    let ys = c.advance.new.cells in
    let l : length ys ≡ t.size = omega (arith, c.advance.auto.cells, term-length t) in
    let w : Heads S 1 (followers S 1 x) ys = subst (λ r. Advanced S 1 x r ys) c.if-advance.true c.advance.ensures in
    rw c.in-Some.is
    (begins-with S n _ _ ys (take_at ys _ t.size l) (c.requires.1 t c.in-Some.is).short w.valid (rest-next S n x ys (l ∙ sym (term-length t)) w))

pub returns : goal.returns
returns c =
    let S = symbols_of c.args.self.now.symbols.now in
    let t = c.in-Some.term in
    let x = term_cells t in
    let none : followers S 1 x ≡ [] = subst (λ r. Advanced S 1 x r c.advance.new.cells) c.if-advance.false c.advance.ensures in
    rw (c.in-Some.is, rest-larger S c.args.n t.size x (term-length t) none) c.first-2.ensures
