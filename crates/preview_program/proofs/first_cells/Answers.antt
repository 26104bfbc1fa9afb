-- Where there are fewer bytes, all are taken.
use Rattle.std.proofs.Common.{◌≡◌, ◌∙◌, ap, ℕ, take, length, min}
use Rattle.std.proofs.lemmas.List.{take_min}
use native.Mathlib.Omega.{arith}
use Rattle.preview_program.proofs.first_cells.Goals as goal

pub returns : goal.returns
returns c =
    let least : c.min-most.result ≡ min 32768 (length c.args.bytes.now) = omega (arith, c.min-most.ensures) in
    ap (λ (k : ℕ). take k c.args.bytes.now) least ∙ take_min 32768 c.args.bytes.now
