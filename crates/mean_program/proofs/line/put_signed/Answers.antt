-- A space, a sign where there is one, and the digits.
use mathlib.Core.Path.{◌≡◌, sym, ◌∙◌, ap, subst}
use native.Mathlib.Omega.{arith}
use mathlib.Core.List.{[], ◌∷◌}
use mathlib.Core.Bool.{true, false}
use lib.ListN.{length}
use lib.IntN.{pos}
use lib.Signed.{le_z}
use mir.Syntax.{w64}
use mir.Val.{to_z, of_z}
use Rattle.std.specs.Int.RustNames.{unsigned_abs}
use Rattle.std.proofs.lemmas.Int.{to_z-of_z}
use Rattle.rules.specs.Listing.{decimal}
use Rattle.listing.specs.Put.{Fits, Adds}
use Rattle.listing.proofs.PutLaws.{adds_then, adds-length}
use Rattle.mean_program.specs.MeanProgram.{signed}
use Rattle.mean_program.proofs.LineLaws.{signed-over, signed-under}
use Rattle.mean_program.proofs.line.put_signed.Goals as goal
use Rattle.mean_program.proofs.line.put_signed.Goals.{After-unsigned_abs-size}

same : (c : After-unsigned_abs-size) → to_z w64 (of_z w64 c.args.n) ≡ c.args.n
same c = to_z-of_z w64 c.args.n c.ranges.n

size : (c : After-unsigned_abs-size) → c.unsigned_abs-size.result ≡ unsigned_abs c.args.n
size c = c.unsigned_abs-size.ensures.value ∙ ap unsigned_abs (same c)

over : (c : After-unsigned_abs-size) → le_z (pos 0) (to_z w64 (of_z w64 c.args.n)) ≡ true → signed c.args.n [] ≡ decimal c.unsigned_abs-size.result []
over c t = signed-over c.args.n c.unsigned_abs-size.result [] (size c) (ap (le_z (pos 0)) (sym (same c)) ∙ t)

under : (c : After-unsigned_abs-size) → le_z (pos 0) (to_z w64 (of_z w64 c.args.n)) ≡ false → signed c.args.n [] ≡ 45 ∷ decimal c.unsigned_abs-size.result []
under c t = signed-under c.args.n c.unsigned_abs-size.result [] (size c) (ap (le_z (pos 0)) (sym (same c)) ∙ t)

pub put_prefixed-requires : goal.put_prefixed-requires
put_prefixed-requires c = subst (λ x. Fits c.args.out.now (32 ∷ x)) (over (goal.at.put_prefixed-requires c).After-unsigned_abs-size c.if-n-ge0.true) c.requires.room

pub returns-then-n-ge0 : goal.returns-then-n-ge0
returns-then-n-ge0 c = subst (λ x. Adds c.args.out.now (32 ∷ x) c.put_prefixed.new.self) (sym (over (goal.at.returns-then-n-ge0 c).After-unsigned_abs-size c.if-n-ge0.true)) c.put_prefixed.ensures

pub put-requires : goal.put-requires
put-requires c = omega (arith, ap length (under (goal.at.put-requires c).After-unsigned_abs-size c.if-n-ge0.false), c.requires.room)

pub put_number-requires : goal.put_number-requires
put_number-requires c =
    omega (arith, ap length (under (goal.at.put_number-requires c).After-unsigned_abs-size c.if-n-ge0.false), c.requires.room, c.put.ensures.put.place, adds-length c.put.ensures)

pub returns : goal.returns
returns c = subst (λ x. Adds c.args.out.now (32 ∷ x) c.put_number.new.self) (sym (under (goal.at.returns c).After-unsigned_abs-size c.if-n-ge0.false)) (adds_then c.put.ensures c.put_number.ensures)
