-- `pair` and `pairs` meet their contracts. The measure is twice the number of equations that the unification takes, and 1 for `pairs`.
-- Assumes nothing.
use Prim.Native.Nat.{ℕ}
use native.Mathlib.Omega.{arith}
use Rattle.matching.specs.Cells.{from}
use Rattle.matching.specs.Bindings.{elims}
use Rattle.matching.proofs.SeenLaws.{Opened, opened, first-inside, args-enough, final-free, below}
use Rattle.matching.proofs.OutcomeLaws.{args-there, args-fewer, pair-differ, pair-right, pair_same, pair_left, unifies-one, unifies-none, unifies-fails, unifies-out, unifies-args, none_left, first-fewer, rest-fewer, unifies-rest, unifies-stop}
use Rattle.matching.proofs.unify.+pair_pairs.Goals as goal
use Rattle.matching.proofs.unify.+pair_pairs.Goals.{pairs-After-resolve-b}

pub pair-returns-in_default : goal.pair-returns-in_default
pair-returns-in_default t c = unifies-out c.requires (omega (arith, c.in_default.ensures))

pub pair-bounds-terms-a : goal.pair-bounds-terms-a
pair-bounds-terms-a t c = c.requires.left.inside

pub pair-bounds-terms-b : goal.pair-bounds-terms-b
pair-bounds-terms-b t c = c.requires.right.inside

pub pair-returns-then-c-d : goal.pair-returns-then-c-d
pair-returns-then-c-d t c =
    unifies-none 1 c.in-Some.rest c.requires.state (omega (arith, c.in-Some.ensures)) (pair_same c.requires c.if-c-ge-VARIABLE.true c.if-c-d.true)

pub pair-eliminate-requires : goal.pair-eliminate-requires
pair-eliminate-requires t c =
    record {
      state = c.requires.state;
      free = final-free c.requires.state.triangular c.requires.left c.if-c-ge-VARIABLE.true;
      final_place = c.requires.right;
    }

pub pair-returns-then-c-ge-VARIABLE : goal.pair-returns-then-c-ge-VARIABLE
pair-returns-then-c-ge-VARIABLE t c =
    unifies-one c.eliminate.ensures (omega (arith, c.in-Some.ensures)) (pair_left c.requires c.if-c-ge-VARIABLE.true c.if-c-d.false)

pub pair-eliminate-requires-then-d-ge-VARIABLE : goal.pair-eliminate-requires-then-d-ge-VARIABLE
pair-eliminate-requires-then-d-ge-VARIABLE t c =
    record {
      state = c.requires.state;
      free = final-free c.requires.state.triangular c.requires.right c.if-d-ge-VARIABLE.true;
      final_place = c.requires.left;
    }

pub pair-returns-then-d-ge-VARIABLE : goal.pair-returns-then-d-ge-VARIABLE
pair-returns-then-d-ge-VARIABLE t c =
    unifies-one c.eliminate-then-d-ge-VARIABLE.ensures (omega (arith, c.in-Some.ensures)) (pair-right c.requires c.if-c-ge-VARIABLE.false c.if-d-ge-VARIABLE.true)

pub pair-returns-then-c-d-2 : goal.pair-returns-then-c-d-2
pair-returns-then-c-d-2 t c =
    unifies-fails 1 c.in-Some.rest c.requires.state (omega (arith, c.in-Some.ensures)) (pair-differ c.requires c.if-c-ge-VARIABLE.false c.if-d-ge-VARIABLE.false c.if-c-d-2.true)

pub pair-arity-arity-requires : goal.pair-arity-arity-requires
pair-arity-arity-requires t c =
    c.requires.left.inside

pub pair-pairs-requires : goal.pair-pairs-requires
pair-pairs-requires t c =
    let a = c.arity-arity.ensures in
    (below c.decreases (args-fewer c.requires _ a c.if-c-ge-VARIABLE.false c.if-d-ge-VARIABLE.false c.if-c-d-2.false), (c.requires.state, (args-enough c.requires.state.triangular _ a c.requires.left, args-there c.requires _ a c.if-c-d-2.false)))

pub pair-returns : goal.pair-returns
pair-returns t c =
    unifies-args c.requires _ c.arity-arity.ensures c.if-c-ge-VARIABLE.false c.if-d-ge-VARIABLE.false c.if-c-d-2.false c.pairs.ensures (omega (arith, c.in-Some.ensures))

pub pairs-returns-then-number-eq0 : goal.pairs-returns-then-number-eq0
pairs-returns-then-number-eq0 t c =
    let a = c.args in
    unifies-none 0 a.left c.requires.state (omega arith) (none_left (elims a.terms.now.symbols.now a.terms.now.cells.now a.table.now.bind a.table.now.trail a.table.now.bound) (from a.terms.now.symbols.now a.terms.now.cells.now a.p) (from a.terms.now.symbols.now a.terms.now.cells.now a.q) a.number c.if-number-eq0.true)

pub pairs-invariant_of-bound : goal.pairs-invariant_of-bound
pairs-invariant_of-bound t c = record { triangular = c.requires.state.triangular }

pub pairs-resolve-a-requires : goal.pairs-resolve-a-requires
pairs-resolve-a-requires t c = first-inside _ _ c.args.p _ c.if-number-eq0.false c.requires.left_bound

pub pairs-resolve-b-requires : goal.pairs-resolve-b-requires
pairs-resolve-b-requires t c = first-inside _ _ c.args.q _ c.if-number-eq0.false c.requires.right_bound

-- the first of the terms, and the others, on both sides: `opened` at what `resolve` says
left-opened :
    (t : ℕ) (c : goal.pairs-After-resolve-b t) →
    let a = c.args in
    Opened a.terms.now.symbols.now a.terms.now.cells.now a.table.now.bind a.table.now.trail a.table.now.bound a.p a.number c.resolve-a.result
left-opened t c = opened c.if-number-eq0.false c.requires.left_bound c.resolve-a.ensures

right-opened :
    (t : ℕ) (c : goal.pairs-After-resolve-b t) →
    let a = c.args in
    Opened a.terms.now.symbols.now a.terms.now.cells.now a.table.now.bind a.table.now.trail a.table.now.bound a.q a.number c.resolve-b.result
right-opened t c = opened c.if-number-eq0.false c.requires.right_bound c.resolve-b.ensures

pub pairs-pair-tried-requires : goal.pairs-pair-tried-requires
pairs-pair-tried-requires t c =
    let k = (goal.at.pairs-pair-tried-requires t c).After-resolve-b in
    let left = left-opened t k in
    let right = right-opened t k in
    (below c.decreases (first-fewer left right), record { state = c.requires.state; left = left.final; right = right.final })

pub pairs-returns-in_default : goal.pairs-returns-in_default
pairs-returns-in_default t c =
    let k = (goal.at.pairs-returns-in_default t c).After-resolve-b in
    unifies-stop (left-opened t k) (right-opened t k) c.pair-tried.result c.in_default.not-Unified c.pair-tried.ensures

pub pairs-after_first-p_next-requires : goal.pairs-after_first-p_next-requires
pairs-after_first-p_next-requires t c =
    c.requires.left_bound

pub pairs-after_first-q_next-requires : goal.pairs-after_first-q_next-requires
pairs-after_first-q_next-requires t c =
    c.requires.right_bound

pub pairs-pairs-requires : goal.pairs-pairs-requires
pairs-pairs-requires t c =
    let k = (goal.at.pairs-pairs-requires t c).After-resolve-b in
    let w = c.in-Unified.ensures in
    (below c.decreases (rest-fewer (left-opened t k) (right-opened t k) w c.after_first-p_next.ensures c.after_first-q_next.ensures), (w.state, (c.after_first-p_next.ensures.enough, c.after_first-q_next.ensures.enough)))

pub pairs-returns : goal.pairs-returns
pairs-returns t c =
    let k = (goal.at.pairs-returns t c).After-resolve-b in
    unifies-rest (left-opened t k) (right-opened t k) c.in-Unified.ensures c.after_first-p_next.ensures c.after_first-q_next.ensures c.pairs.ensures
