-- `least` meets its contract. Assumes nothing.
use Prim.Native.Nat.{ℕ}
use mathlib.Core.Path.{◌≡◌, refl, ◌∙◌}
use native.Mathlib.Omega.{arith}
use lib.ListN.{length, take, replicate}
use lib.Seq.{length-take-le, take_at}
use Rattle.drill.proofs.successor.Functors.least.Goals as goal
use Rattle.drill.proofs.successor.Functors.least.Goals.{Start}

taken : (c : goal.Start) → length {A = ℕ} (take c.args.size (replicate {A = ℕ} 8 0)) ≡ c.args.size
taken c = length-take-le {A = ℕ} c.args.size (replicate {A = ℕ} 8 0) (omega (arith, c.requires.size))

pub fill-requires-clause-fillable : goal.fill-requires-clause-fillable
fill-requires-clause-fillable c = rw (taken (goal.at.fill-requires-clause-fillable c).Start) c.requires.fillable

pub returns : goal.returns
returns c =
    let n = taken (goal.at.returns c).Start in
    let ys : length c.fill.new.cells ≡ c.args.size = c.fill.auto.cells ∙ n in
    record { is = refl; heads = rw (take_at c.fill.new.cells _ c.args.size ys) (rw n at c.fill.ensures) }
