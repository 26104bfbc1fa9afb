-- The three parts of a refusal's line; its number has at most ten digits.
use mathlib.Core.Path.{sym}
use mathlib.Core.List.{[], ◌∷◌}
use native.Mathlib.Omega.{arith}
use Rattle.rules.specs.Listing.{refused_text, listing}
use Rattle.listing.proofs.PutLaws.{adds_then, adds-length}
use Rattle.listing.proofs.DigitLaws.{decimal-append, decimal-length}
use Rattle.listing.proofs.output.Output.put_refusal.Goals as goal

pub put_number-requires : goal.put_number-requires
put_number-requires g c =
    let a = c.put.ensures in
    omega (arith, c.requires, a.put.place, adds-length a, decimal-length 9 c.into.result (omega arith))

pub put-requires-2 : goal.put-requires-2
put-requires-2 g c =
    let a = c.put.ensures in
    let b = c.put_number.ensures in
    omega (arith, c.requires, a.put.place, adds-length a, b.put.place, adds-length b, decimal-length 9 c.into.result (omega arith))

pub returns : goal.returns
unfolding listing refused_text
returns g c = λ n e.
    rw (sym (e c.into.result c.into.ensures), decimal-append c.into.result [] (10 ∷ []))
    (adds_then (adds_then c.put.ensures c.put_number.ensures) c.put-2.ensures)
