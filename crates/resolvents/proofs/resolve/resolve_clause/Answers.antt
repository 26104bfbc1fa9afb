-- `resolve::resolve_clause` meets its contract.
use mathlib.Core.Path.{refl}
use Prim.Native.Nat.{ℕ}
use lib.ListN.{length-take}
use native.Mathlib.Omega.{arith}
use Rattle.resolvents.proofs.CallLaws.{selected-inside, arity-known, few-variables, fresh-fit, call-short, call-room, both-cells, goal-kept, call-together, call-resolved}
use Rattle.resolvents.proofs.resolve.resolve_clause.Goals as goal

pub offset_bounds-work-s : goal.offset_bounds-work-s
offset_bounds-work-s c =
    omega (arith, c.requires.calls.inside, selected-inside c.requires.calls)

pub bounds-work-s : goal.bounds-work-s
bounds-work-s c =
    omega (arith, c.requires.calls.inside, selected-inside c.requires.calls)

pub arity_of-number-requires : goal.arity_of-number-requires
arity_of-number-requires c =
    rw c.from.ensures (arity-known c.requires.calls)

pub overflow_cast-offset : goal.overflow_cast-offset
overflow_cast-offset c =
    omega (arith, few-variables c.requires.calls)

pub copy_fresh-requires : goal.copy_fresh-requires
copy_fresh-requires c =
    record {
      clause_in_bounds = call-room c.requires.calls c.requires.about c.args.work.now.room;
      by_index = fresh-fit c.requires.calls c.requires.about;
    }

pub overflow_add-total : goal.overflow_add-total
overflow_add-total c =
    omega (arith, call-short c.requires.calls c.requires.about)

pub resolve_cells-requires-clause-together : goal.resolve_cells-requires-clause-together
resolve_cells-requires-clause-together c = call-together c.requires.calls c.requires.about (both-cells c.requires.calls c.requires.about c.copy_fresh.ensures c.args.work.now.room) (rw c.from.ensures at c.arity_of-number.ensures)

pub returns-clause-attempt : goal.returns-clause-attempt
returns-clause-attempt c =
    λ S g before p ts after clause k a. call-resolved k a (both-cells k a c.copy_fresh.ensures c.args.work.now.room) (rw c.from.ensures at c.arity_of-number.ensures) c.args.left c.resolve_cells.new.draft.child c.resolve_cells.result c.resolve_cells.ensures.attempted_by

pub returns-clause-cells_unchanged : goal.returns-clause-cells_unchanged
returns-clause-cells_unchanged c = goal-kept c.requires.calls c.requires.about c.copy_fresh.ensures c.args.work.now.room

pub slice_bounds-resolve_cells-end : goal.slice_bounds-resolve_cells-end
slice_bounds-resolve_cells-end c =
    omega (arith, call-room c.requires.calls c.requires.about c.args.work.now.room, c.copy_fresh.auto.cells, length-take {A = ℕ})

pub slice_bounds-cells-end : goal.slice_bounds-cells-end
slice_bounds-cells-end c = refl
