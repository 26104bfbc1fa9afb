-- `advance` meets its contract; the cells left fall at each call. Assumes nothing.
use Prim.Native.Nat.{ℕ, ◌-◌, ◌+◌, ◌≤◌, ◌<◌}
use mathlib.Core.Path.{◌≡◌, sym, ◌∙◌}
use mathlib.Core.Bool.{true}
use mathlib.Core.List.{[]}
use native.Mathlib.Omega.{arith}
use borrow.Author.Tests.{eqb-true, eqb-false}
use borrow.Rule.Slice.PartMut.{put_mid}
use lib.ListN.{length}
use Rattle.deck.specs.Kinds.{symbols_of}
use Rattle.rules.specs.Drill.{fillings}
use Rattle.drill.specs.Successors.{followers, nonempty}
use Rattle.drill.proofs.FillLaws.{nonempty-few}
use Rattle.drill.proofs.WordLaws.{symbols-length}
use Rattle.drill.proofs.SuccessorLaws.{rest, rest-length, put-length, first-length, put_first, next-none, next-places, next-few, next-inside, next-rest, next_small, next-deeper, next-end, next-heads, found_inside, found_fillable}
use Rattle.drill.proofs.successor.Functors.+advance.Goals as goal
use Rattle.drill.proofs.successor.Functors.+advance.Goals.{After-arity, After-arity-2, After-cells-1, After-from-f, Else-advance, Else-is_empty}

-- What is known at the places of the code.
some : (t : ℕ) (c : goal.Else-is_empty t) → 1 ≤ length c.args.cells.now
some t c =
    omega (arith, eqb-false _ _ (sym c.is_empty.ensures ∙ c.if-is_empty.false))

places : (t : ℕ) (c : goal.Else-is_empty t) → (1 ≤ c.args.k) × (c.args.k ≤ 8)
places t c =
    (next-places _ _ _ (some t c) c.requires.terms, omega (arith, next-few _ _ _ (some t c) c.requires.terms, c.requires.short))

inside : (t : ℕ) (c : goal.After-from-f t) → c.from-f.result < length c.args.self.now.symbols.now
inside t c =
    omega (arith, symbols-length c.args.self.now.symbols.now, next-inside _ _ _ (omega (arith, eqb-false _ _ (sym c.is_empty.ensures ∙ c.if-is_empty.false))) c.requires.terms c.from-f.result c.from-f.ensures)

small : (t : ℕ) (c : goal.After-arity t) → c.arity.result + (c.args.k - 1) ≤ length c.args.cells.now - 1
small t c =
    next_small _ _ _ (omega (arith, eqb-false _ _ (sym c.is_empty.ensures ∙ c.if-is_empty.false))) c.requires.terms c.from-f.result c.from-f.ensures c.arity.result c.arity.ensures

mid : (t : ℕ) (c : goal.After-cells-1 t) → length (put_mid 1 (length c.args.cells.now - 1) c.args.cells.now c.advance.new.cells) ≡ length c.args.cells.now
mid t c =
    put-length c.args.cells.now c.advance.new.cells (omega (arith, eqb-false _ _ (sym c.is_empty.ensures ∙ c.if-is_empty.false))) (omega (arith, c.cells-1.given))

last : (t : ℕ) (c : goal.Else-advance t) → followers (symbols_of c.args.self.now.symbols.now) (c.arity.result + (c.args.k - 1)) (rest c.args.cells.now) ≡ []
last t c =
    rw c.if-advance.false at c.advance.ensures

fillable : (t : ℕ) (c : goal.After-arity-2 t) → nonempty (fillings (symbols_of c.args.self.now.symbols.now) (length c.args.cells.now - 1) (c.arity-2.result + (c.args.k - 1))) ≡ true
fillable t c = found_fillable (symbols_of c.args.self.now.symbols.now) (length c.args.cells.now - 1) (c.args.k - 1) (c.from-f.result + 1) c.in-Some.g c.arity-2.result c.in-Some.ensures c.arity-2.ensures

pub returns-then-is_empty : goal.returns-then-is_empty
returns-then-is_empty t c = next-none (symbols_of c.args.self.now.symbols.now) c.args.k c.args.cells.now (eqb-true _ _ (sym c.is_empty.ensures ∙ c.if-is_empty.true))

pub arity-requires : goal.arity-requires
arity-requires t c = inside t c

pub advance-requires : goal.advance-requires
advance-requires t c =
    let n = rest-length c.args.cells.now (some t (goal.at.advance-requires t c).Else-is_empty) in (
      omega (arith, n, c.decreases, some t (goal.at.advance-requires t c).Else-is_empty),
      (
        omega (arith, n, c.requires.short),
        next-rest _ _ _ (some t (goal.at.advance-requires t c).Else-is_empty) c.requires.terms c.from-f.result c.from-f.ensures c.arity.result c.arity.ensures,
      ),
    )

pub returns-then-advance : goal.returns-then-advance
returns-then-advance t c =
    next-deeper _ _ _ (some t (goal.at.returns-then-advance t c).Else-is_empty) c.requires.terms c.from-f.result c.from-f.ensures c.arity.result c.arity.ensures c.advance.new.cells (omega (arith, c.cells-1.given))
    (rw c.if-advance.true at c.advance.ensures)

pub seek-requires : goal.seek-requires
seek-requires t c =
    let p = places t (goal.at.seek-requires t c).Else-is_empty in
    (omega (arith, c.requires.short, some t (goal.at.seek-requires t c).Else-is_empty), omega (arith, p.1), omega (arith, inside t (goal.at.seek-requires t c).After-from-f))

pub returns-in_default : goal.returns-in_default
returns-in_default t c =
    next-end _ _ _ (some t (goal.at.returns-in_default t c).Else-is_empty) c.requires.terms c.from-f.result c.from-f.ensures c.arity.result c.arity.ensures (last t (goal.at.returns-in_default t c).Else-advance) c.in_default.ensures

pub arity-requires-2 : goal.arity-requires-2
arity-requires-2 t c = omega (arith, symbols-length c.args.self.now.symbols.now, found_inside _ _ _ _ _ c.in-Some.ensures)

pub fill-requires : goal.fill-requires
fill-requires t c =
    let h = mid t (goal.at.fill-requires t c).After-cells-1 in
    let n = first-length (put_mid 1 (length c.args.cells.now - 1) c.args.cells.now c.advance.new.cells) c.in-Some.g (omega (arith, h, some t (goal.at.fill-requires t c).Else-is_empty)) in
    record {
      short = omega (arith, n, h, c.requires.short);
      fillable = rw (n, h) (fillable t (goal.at.fill-requires t c).After-arity-2);
    }

pub returns : goal.returns
returns t c =
    let h = mid t (goal.at.returns t c).After-cells-1 in
    let mid = put_mid 1 (length c.args.cells.now - 1) c.args.cells.now c.advance.new.cells in
    let zs = c.fill.new.cells in
    let g = c.in-Some.g in
    let m : 1 ≤ length mid = omega (arith, h, some t (goal.at.returns t c).Else-is_empty) in
    let n = first-length mid g m in
    rw (put_first mid zs g m)
    (next-heads _ _ _ (some t (goal.at.returns t c).Else-is_empty) c.requires.terms c.from-f.result c.from-f.ensures c.arity.result c.arity.ensures (last t (goal.at.returns t c).Else-advance) g c.arity-2.result zs c.in-Some.ensures
    c.arity-2.ensures (omega (arith, c.cells-2-1.given, n, h)) (rw (n, h) at c.fill.ensures))

pub overflow_cast-cells : goal.overflow_cast-cells
overflow_cast-cells t c = omega (arith, symbols-length c.args.self.now.symbols.now, found_inside _ _ _ _ _ c.in-Some.ensures, c.args.self.now.few)

pub overflow_sub-places : goal.overflow_sub-places
overflow_sub-places t c = (places t (goal.at.overflow_sub-places t c).Else-is_empty).0

pub overflow_sub-places-2 : goal.overflow_sub-places-2
overflow_sub-places-2 t c = (places t (goal.at.overflow_sub-places-2 t c).Else-is_empty).0

pub overflow_add-places : goal.overflow_add-places
overflow_add-places t c = omega (arith, small t c, some t (goal.at.overflow_add-places t c).Else-is_empty, c.requires.short)

pub overflow_sub-k : goal.overflow_sub-k
overflow_sub-k t c = (places t (goal.at.overflow_sub-k t c).Else-is_empty).0

pub overflow_add-places-2 : goal.overflow_add-places-2
overflow_add-places-2 t c = omega (arith, c.requires.short, some t (goal.at.overflow_add-places-2 t c).Else-is_empty, nonempty-few _ _ _ (fillable t c))
