-- `occurs` and `occurs_any` meet their contracts. The measure is twice the size of the terms after the eliminations, and 1 for `occurs_any`.
-- Assumes nothing.
use mathlib.Core.Path.{refl}
use native.Mathlib.Omega.{arith}
use Rattle.matching.specs.Cells.{from}
use Rattle.matching.specs.Bindings.{elims}
use Rattle.matching.proofs.TableLaws.{same_refl, same-on}
use Rattle.matching.proofs.SeenLaws.{first-inside, args-enough, below}
use Rattle.matching.proofs.OccursLaws.{occurs-none, occurs-cell, occurs-args, args-smaller, any-first, first-smaller, any-others, others-smaller, occurs-by, stamp-fits, stamp-index, stamped-away, stamped_more}
use Rattle.matching.proofs.occurs.+occurs_occurs_any.Goals as goal

pub occurs-invariant_of-bound : goal.occurs-invariant_of-bound
occurs-invariant_of-bound t c = record { triangular = c.requires.checking.state.triangular }

pub occurs-bounds-terms-at : goal.occurs-bounds-terms-at
occurs-bounds-terms-at t c = c.resolve-at.ensures.final.inside

pub occurs-returns-then-c-ge-VARIABLE : goal.occurs-returns-then-c-ge-VARIABLE
occurs-returns-then-c-ge-VARIABLE t c =
    record {
      occurs = occurs-cell c.requires.checking c.resolve-at.ensures c.if-c-ge-VARIABLE.true;
      checking_after = c.requires.checking;
      bindings_kept = same_refl c.args.table.now;
    }

pub occurs-overflow_add-stamp : goal.occurs-overflow_add-stamp
occurs-overflow_add-stamp t c = omega (arith, stamp-fits c.requires.checking)

pub occurs-is_stamped-requires : goal.occurs-is_stamped-requires
occurs-is_stamped-requires t c =
    stamp-index c.requires.checking c.requires.p_in_bounds

pub occurs-returns-then-is_stamped : goal.occurs-returns-then-is_stamped
occurs-returns-then-is_stamped t c =
    record {
      occurs = stamped-away c.requires.checking c.requires.p_in_bounds (c.is_stamped.ensures c.if-is_stamped.true);
      checking_after = c.requires.checking;
      bindings_kept = same_refl c.args.table.now;
    }

pub occurs-arity-arity-requires : goal.occurs-arity-arity-requires
occurs-arity-arity-requires t c =
    c.resolve-at.ensures.final.inside

pub occurs-occurs_any-requires : goal.occurs-occurs_any-requires
occurs-occurs_any-requires t c =
    (below c.decreases (args-smaller c.requires.checking c.resolve-at.ensures c.arity-arity.ensures c.if-c-ge-VARIABLE.false), (c.requires.checking, args-enough c.requires.checking.state.triangular _ c.arity-arity.ensures c.resolve-at.ensures.final))

pub occurs-returns-then-occurs_any : goal.occurs-returns-then-occurs_any
occurs-returns-then-occurs_any t c =
    record {
      occurs = occurs-args c.requires.checking c.resolve-at.ensures c.arity-arity.ensures c.if-c-ge-VARIABLE.false (occurs-by c.occurs_any.ensures.occurs c.if-occurs_any.true);
      checking_after = c.occurs_any.ensures.checking_after;
      bindings_kept = c.occurs_any.ensures.bindings_kept;
    }

pub occurs-set_stamp-requires : goal.occurs-set_stamp-requires
occurs-set_stamp-requires t c =
    record {
      variable_in_bounds = stamp-index c.occurs_any.ensures.checking_after c.requires.p_in_bounds;
      stamp_bound = stamp-fits c.requires.checking;
    }

pub occurs-returns : goal.occurs-returns
occurs-returns t c =
    let w = occurs-args c.requires.checking c.resolve-at.ensures c.arity-arity.ensures c.if-c-ge-VARIABLE.false (occurs-by c.occurs_any.ensures.occurs c.if-occurs_any.false) in
    record {
      occurs = w;
      checking_after = stamped_more c.occurs_any.ensures.checking_after c.requires.p_in_bounds c.resolve-at.ensures c.if-c-ge-VARIABLE.false (w.if-not refl) c.set_stamp.ensures.table_after;
      bindings_kept = same-on c.occurs_any.ensures.bindings_kept c.set_stamp.ensures.bindings_kept;
    }

pub occurs_any-returns-then-number-eq0 : goal.occurs_any-returns-then-number-eq0
occurs_any-returns-then-number-eq0 t c =
    let a = c.args in
    record {
      occurs = occurs-none a.v (elims a.terms.now.symbols.now a.terms.now.cells.now a.table.now.bind a.table.now.trail a.table.now.bound) a.number (from a.terms.now.symbols.now a.terms.now.cells.now a.p) c.if-number-eq0.true;
      checking_after = c.requires.checking;
      bindings_kept = same_refl a.table.now;
    }

pub occurs_any-occurs-requires : goal.occurs_any-occurs-requires
occurs_any-occurs-requires t c =
    (below c.decreases (first-smaller c.requires.checking c.args.p _ c.if-number-eq0.false c.requires.number_bound), (c.requires.checking, first-inside _ _ c.args.p _ c.if-number-eq0.false c.requires.number_bound))

pub occurs_any-returns-then-occurs : goal.occurs_any-returns-then-occurs
occurs_any-returns-then-occurs t c =
    record {
      occurs = any-first c.requires.checking c.args.p _ c.if-number-eq0.false c.requires.number_bound (occurs-by c.occurs.ensures.occurs c.if-occurs.true);
      checking_after = c.occurs.ensures.checking_after;
      bindings_kept = c.occurs.ensures.bindings_kept;
    }

pub occurs_any-after_first-next-requires : goal.occurs_any-after_first-next-requires
occurs_any-after_first-next-requires t c =
    c.requires.number_bound

pub occurs_any-occurs_any-requires : goal.occurs_any-occurs_any-requires
occurs_any-occurs_any-requires t c =
    rw (c.occurs.ensures.bindings_kept.bind, c.occurs.ensures.bindings_kept.trail, c.occurs.ensures.bindings_kept.bound) (below c.decreases (others-smaller c.requires.checking _ _ c.if-number-eq0.false c.requires.number_bound c.after_first-next.ensures), (c.occurs.ensures.checking_after, c.after_first-next.ensures.enough))

pub occurs_any-returns : goal.occurs_any-returns
occurs_any-returns t c =
    let e = c.occurs.ensures.bindings_kept in
    record {
      occurs = any-others c.requires.checking _ _ c.if-number-eq0.false c.requires.number_bound c.after_first-next.ensures (occurs-by c.occurs.ensures.occurs c.if-occurs.false) (rw (e.bind, e.trail, e.bound) at c.occurs_any.ensures.occurs);
      checking_after = rw (e.bind, e.trail, e.bound) at c.occurs_any.ensures.checking_after;
      bindings_kept = same-on e c.occurs_any.ensures.bindings_kept;
    }
