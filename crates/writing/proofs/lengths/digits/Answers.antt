-- By the power of ten.
use Prim.Native.Nat.{◌+◌}
use mathlib.Core.Path.{◌≡◌, sym}
use mathlib.Core.List.{[]}
use native.Mathlib.Omega.{arith}
use lib.ListN.{length}
use Rattle.rules.specs.Listing.{decimal}
use Rattle.listing.proofs.DigitLaws.{decimal-length}
use Rattle.writing.proofs.LengthLaws.{decimal-power}
use Rattle.writing.proofs.lengths.digits.Goals as goal

pub returns : goal.returns
returns c =
    let p = c.ilog10.ensures in
    let e : length (decimal c.args.n []) ≡ c.ilog10.result + 1 =
    decimal-power c.ilog10.result c.args.n (omega (arith, p.power_le, c.max.ensures)) (omega (arith, p.next_power_gt, c.max.ensures))
    in
    (sym e, omega (arith, e, decimal-length 4 c.args.n c.requires))
