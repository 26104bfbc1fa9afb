-- `fill` meets its contract; the cells left fall at each call. Assumes nothing.
use Prim.Native.Nat.{ℕ, ◌≤◌, ◌<◌, ◌-◌}
use mathlib.Core.Path.{sym, ◌∙◌, subst}
use native.Mathlib.Omega.{arith}
use borrow.Author.Tests.{eqb-true, eqb-false}
use lib.ListN.{length}
use Rattle.deck.specs.Kinds.{symbols_of}
use Rattle.drill.specs.Successors.{Found, Sought}
use Rattle.drill.proofs.WordLaws.{symbols-length}
use Rattle.drill.proofs.SuccessorLaws.{first-length, put_first, found_inside, least-none, least-places, least-few, least-some, least-small, least-heads}
use Rattle.drill.proofs.successor.Functors.+fill.Goals as goal
use Rattle.drill.proofs.successor.Functors.+fill.Goals.{After-unwrap-f, Else-is_empty}

-- What is known before the search, and after it.
ready : (t : ℕ) (c : goal.Else-is_empty t) → (1 ≤ length c.args.cells.now) × (1 ≤ c.args.k) × (c.args.k ≤ 8)
ready t c =
    let S = symbols_of c.args.self.now.symbols.now in
    let n = length c.args.cells.now in
    let some : 1 ≤ n = omega (arith, eqb-false _ _ (sym c.is_empty.ensures ∙ c.if-is_empty.false)) in
    (some, least-places S n c.args.k some c.requires.fillable, omega (arith, least-few S n c.args.k some c.requires.fillable, c.requires.short))

found : (t : ℕ) (c : goal.After-unwrap-f t) → Found (symbols_of c.args.self.now.symbols.now) (length c.args.cells.now - 1) (c.args.k - 1) 0 c.unwrap-f.result
found t c = subst (Sought (symbols_of c.args.self.now.symbols.now) (length c.args.cells.now - 1) (c.args.k - 1) 0) c.unwrap-f.ensures c.seek.ensures

inside : (t : ℕ) (c : goal.After-unwrap-f t) → c.unwrap-f.result < length c.args.self.now.symbols.now
inside t c =
    let ws = c.args.self.now.symbols.now in
    omega (arith, symbols-length ws, found_inside (symbols_of ws) (length c.args.cells.now - 1) (c.args.k - 1) 0 c.unwrap-f.result (found t c))

pub returns-then-is_empty : goal.returns-then-is_empty
returns-then-is_empty t c = least-none (symbols_of c.args.self.now.symbols.now) c.args.cells.now c.args.k (eqb-true _ _ (sym c.is_empty.ensures ∙ c.if-is_empty.true)) c.requires.fillable

pub seek-requires : goal.seek-requires
seek-requires t c = (omega (arith, c.requires.short, (ready t c).0), omega (arith, (ready t c).2), omega arith)

pub unwrap-f-requires : goal.unwrap-f-requires
unwrap-f-requires t c = least-some (symbols_of c.args.self.now.symbols.now) (length c.args.cells.now) c.args.k (ready t (goal.at.unwrap-f-requires t c).Else-is_empty).0 c.requires.fillable c.seek.result c.seek.ensures

pub arity-requires : goal.arity-requires
arity-requires t c = inside t c

pub fill-requires : goal.fill-requires
fill-requires t c =
    let cells = c.args.cells.now in
    let h = (ready t (goal.at.fill-requires t c).Else-is_empty).0 in
    let f = c.unwrap-f.result in
    let n = first-length cells f h in (
      omega (arith, n, c.decreases, h),
      (omega (arith, n, c.requires.short), rw (n, c.arity.ensures) (found t (goal.at.fill-requires t c).After-unwrap-f).fillable),
    )

pub returns : goal.returns
returns t c =
    let S = symbols_of c.args.self.now.symbols.now in
    let cells = c.args.cells.now in
    let h = (ready t (goal.at.returns t c).Else-is_empty).0 in
    let f = c.unwrap-f.result in
    let ys = c.fill.new.cells in
    let n = first-length cells f h in
    rw (put_first cells ys f h)
    (least-heads S (length cells) c.args.k h c.requires.fillable f ys (found t (goal.at.returns t c).After-unwrap-f) (omega (arith, c.cells-1.given, n)) (rw (n, c.arity.ensures) at c.fill.ensures))

pub overflow_add-places : goal.overflow_add-places
overflow_add-places t c =
    omega (arith, c.arity.ensures, c.requires.short, least-small (symbols_of c.args.self.now.symbols.now) (length c.args.cells.now) c.args.k (ready t (goal.at.overflow_add-places t c).Else-is_empty).0 c.requires.fillable c.unwrap-f.result (found t (goal.at.overflow_add-places t c).After-unwrap-f))

pub overflow_cast-cells : goal.overflow_cast-cells
overflow_cast-cells t c = omega (arith, inside t (goal.at.overflow_cast-cells t c).After-unwrap-f, c.args.self.now.few)

pub overflow_sub-k : goal.overflow_sub-k
overflow_sub-k t c = (ready t c).1

pub overflow_sub-places : goal.overflow_sub-places
overflow_sub-places t c = (ready t (goal.at.overflow_sub-places t c).Else-is_empty).1
