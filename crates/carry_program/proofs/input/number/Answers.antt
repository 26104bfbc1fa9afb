-- The eight bytes at the place.
use Rattle.std.proofs.Common.{ap, ◌∙◌, w64}
use Rattle.std.specs.Int.{from_le_bytes}
use Rattle.carry_program.proofs.InputLaws.{number_from-slice}
use Rattle.carry_program.proofs.input.number.Goals as goal

pub returns : goal.returns
returns c =
    let whole = rw c.unwrap-eight.ensures at c.try_from.ensures.1 in
    c.from_le_bytes.ensures ∙ ap (from_le_bytes w64) whole.same ∙ number_from-slice c.args.bytes.now c.args.at
