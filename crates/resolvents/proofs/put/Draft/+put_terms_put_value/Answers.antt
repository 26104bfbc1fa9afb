-- `put_terms` and `put_value` meet their contracts. The loop's invariant: whatever is written from the cell i on makes the whole. The measure
-- is twice the size of the terms after the eliminations, and 1 for `put_terms`. Assumes nothing.
use mathlib.Core.Path.{refl, ◌∙◌, ap}
use lib.ListN.{get_or, length-set}
use Rattle.rules.specs.Terms.{sizes, cons, nil}
use Rattle.std.proofs.lemmas.Result.{err_from_is_err_and}
use Rattle.resolvents.proofs.WalkLaws.{putting-start, putting-none, putting-end, putting-functor, putting-over, putting-first, putting-term, putting-full, bound-variable, bound-less, bound-functor, args-small}
use Rattle.resolvents.proofs.WroteLaws.{wrote-length}
use native.Mathlib.Omega.{arith}
use Rattle.resolvents.proofs.put.Draft.+put_terms_put_value.Goals as goal
use Rattle.resolvents.proofs.put.Draft.+put_terms_put_value.Goals.{put_terms-then-c-lt-VARIABLE, put_terms-else-c-lt-VARIABLE+in_ok-at}

pub put_terms-loop-i-init : goal.put_terms-loop-i-init
put_terms-loop-i-init t c = (putting-start c.args.self.now.numbered (c.requires.number_bound.0, omega (arith, c.requires.number_bound.1)), omega arith)

pub put_terms-returns-then-todo-eq0 : goal.put_terms-returns-then-todo-eq0
put_terms-returns-then-todo-eq0 t c = putting-none c.loop-i.invariant.0 c.if-todo-eq0.true

pub put_terms-returns-then-at-ge1024 : goal.put_terms-returns-then-at-ge1024
put_terms-returns-then-at-ge1024 t c =
    putting-over c.loop-i.invariant.0 c.loop-i-test.true c.requires.inside c.if-todo-eq0.false _ (omega (arith, c.loop-i.invariant.1, c.if-at-ge1024.true))

pub put_terms-arity-todo-requires : goal.put_terms-arity-todo-requires
put_terms-arity-todo-requires t c = omega (arith, c.loop-i-test.true, c.requires.inside)

pub put_terms-overflow_add-todo : goal.put_terms-overflow_add-todo
put_terms-overflow_add-todo t c =
    omega (arith, c.loop-i.invariant.0.few, c.arity-todo.ensures, args-small c.args.bound.now.terms.symbols.now (get_or c.args.bound.now.terms.cells.now c.loop-i.i 0), c.loop-i-test.true, c.requires.inside, c.args.bound.now.triangular.formed.short)

pub put_terms-put_value-requires : goal.put_terms-put_value-requires
put_terms-put_value-requires t c =
    let s = c.loop-i.invariant.0 in
    let first = putting-first s c.loop-i-test.true c.requires.inside c.if-todo-eq0.false c.if-c-lt-VARIABLE.false in (
      omega (arith, ap sizes first, s.fewer, c.decreases),
      (omega (arith, c.loop-i-test.true, c.requires.inside), omega (arith, c.if-at-ge1024.false)),
    )

pub put_terms-loop-i-preserved : goal.put_terms-loop-i-preserved
put_terms-loop-i-preserved t c =
    elim c.if-c-lt-VARIABLE.branch [
      | put_terms-then-c-lt-VARIABLE w ↦ rw (w.self-is, w.todo-is, w.at-is) (putting-functor c.loop-i.invariant.0 c.loop-i-test.true c.requires.inside c.if-todo-eq0.false _ (omega (arith, c.loop-i.invariant.1, c.if-at-ge1024.false)) w.if-c-lt-VARIABLE.true w.arity-todo.ensures, simp length-set c.loop-i.invariant.1)
      | put_terms-else-c-lt-VARIABLE+in_ok-at w ↦ rw (w.self-is, w.todo-is, w.at-is) (putting-term c.loop-i.invariant.0 c.loop-i-test.true c.requires.inside c.if-todo-eq0.false w.if-c-lt-VARIABLE.false w.in_ok-at.ensures, wrote-length w.in_ok-at.ensures ∙ c.loop-i.invariant.1)
    ]

pub put_terms-returns-in_err-at : goal.put_terms-returns-in_err-at
put_terms-returns-in_err-at t c =
    let p = err_from_is_err_and c.from_residual.result c.from_residual.ensures.1 in
    rw (p.1, p.2) (putting-full c.loop-i.invariant.0 c.loop-i-test.true c.requires.inside c.if-todo-eq0.false c.if-c-lt-VARIABLE.false c.in_err-at.ensures)

pub put_terms-returns : goal.put_terms-returns
put_terms-returns t c = putting-end c.loop-i.invariant.0 c.loop-i-test.false

pub put_value-resolve-q-requires : goal.put_value-resolve-q-requires
put_value-resolve-q-requires t c =
    c.requires.inside

pub put_value-bounds-bound-q : goal.put_value-bounds-bound-q
put_value-bounds-bound-q t c = c.resolve-q.ensures.final.inside

pub put_value-put_variable-requires : goal.put_value-put_variable-requires
put_value-put_variable-requires t c =
    record {
      v_in_bounds = omega (arith, c.args.bound.now.triangular.named _ c.resolve-q.ensures.final.inside c.if-c-ge-VARIABLE.true, c.args.bound.now.table.now.sized.0);
      to_in_bounds = omega (arith, c.requires.to_bound);
    }

pub put_value-returns-then-c-ge-VARIABLE : goal.put_value-returns-then-c-ge-VARIABLE
put_value-returns-then-c-ge-VARIABLE t c =
    bound-variable c.args.bound.now.triangular c.resolve-q.ensures.final c.resolve-q.ensures.same c.if-c-ge-VARIABLE.true c.put_variable.ensures

pub put_value-arity-arity-requires : goal.put_value-arity-arity-requires
put_value-arity-arity-requires t c = c.resolve-q.ensures.final.inside

pub put_value-put_terms-requires : goal.put_value-put_terms-requires
put_value-put_terms-requires t c =
    let a = c.arity-arity.ensures in (
      omega (arith, bound-less c.args.bound.now.triangular c.resolve-q.ensures.final c.resolve-q.ensures.same (omega (arith, c.if-c-ge-VARIABLE.false)) _ a {ts = cons _ nil} {us = nil} refl, c.decreases),
      (omega arith, (omega (arith, a, args-small c.args.bound.now.terms.symbols.now (get_or c.args.bound.now.terms.cells.now c.resolve-q.result 0)), omega (arith, c.requires.to_bound))),
    )

pub put_value-returns : goal.put_value-returns
put_value-returns t c =
    bound-functor c.args.bound.now.triangular c.resolve-q.ensures.final c.resolve-q.ensures.same (omega (arith, c.if-c-ge-VARIABLE.false)) _ c.arity-arity.ensures c.put_terms.ensures
