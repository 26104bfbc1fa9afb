-- `eliminate` meets its contract. Assumes nothing.
use mathlib.Core.Bool.{false}
use mathlib.Core.List.{List}
use Prim.Native.Nat.{ℕ, ◌+◌, ◌<◌}
use native.Mathlib.Omega.{arith}
use lib.ListN.{length, set}
use Rattle.rules.specs.Terms.{occ}
use Rattle.std.specs.Prelude.{Some}
use Rattle.matching.specs.Bindings.{value, Free, Final, Checking, Occurs}
use Rattle.matching.specs.Tables.{Same}
use Rattle.matching.specs.Outcomes.{UnifiesVariable}
use Rattle.matching.specs.declared.bindings.Table.{Table}
use Rattle.matching.specs.declared.unify.Outcome.TheVariants.{Unified}
use Rattle.matching.proofs.OccursLaws.{checking-start, occurs-by}
use Rattle.matching.proofs.BindLaws.{free-room, eliminate-fails, eliminate-binds}
use Rattle.matching.proofs.unify.eliminate.Goals as goal

-- a variable of the table t is free; the occurs check left t'
module _ {ar cells : List ℕ} (t t' : Table) {v : ℕ} (same : Same t t') (c : Checking ar cells t.bind t.trail t.bound v t'.stamps) (u : Free t.bind v) where
  bind-room : v < length t'.bind
  bind-room = rw same.bind u.inside

  trail-room : t'.bound < length t'.trail
  trail-room = rw (same.trail, same.bound) (free-room c.state.triangular u)

  binds : {p : ℕ} (rest : ℕ) → Final cells t.bind p → Occurs (occ v (value ar cells t.bind t.trail t.bound p)) false → UnifiesVariable ar cells t.bind t.trail t.bound v p rest (set t'.bind v (Some p)) (set t'.trail t'.bound v) t'.stamps (t'.bound + 1) (Unified rest)
  binds {p} rest f o = rw (same.bind, same.trail, same.bound) (eliminate-binds c u f rest o)

pub occurs-found-requires : goal.occurs-found-requires
occurs-found-requires c =
    record {
      checking = checking-start _ c.requires.state;
      p_in_bounds = c.requires.final_place.inside;
    }

pub returns-then-found : goal.returns-then-found
returns-then-found c =
    let same = c.occurs-found.ensures.bindings_kept in
    rw (same.bind, same.trail, same.bound) (eliminate-fails c.occurs-found.ensures.checking_after c.requires.free c.requires.final_place _ (occurs-by c.occurs-found.ensures.occurs c.if-found.true))

pub returns : goal.returns
returns c =
    rw c.from.ensures (binds _ _ c.occurs-found.ensures.bindings_kept c.occurs-found.ensures.checking_after c.requires.free _ c.requires.final_place (occurs-by c.occurs-found.ensures.occurs c.if-found.false))

pub bounds-table-table : goal.bounds-table-table
bounds-table-table c = omega (arith, trail-room _ _ c.occurs-found.ensures.bindings_kept c.occurs-found.ensures.checking_after c.requires.free)
