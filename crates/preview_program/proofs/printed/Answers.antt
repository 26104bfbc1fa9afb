-- The listing, or the refusal's line.
use Rattle.listing.specs.Printed.{file_of}
use Rattle.std.proofs.Common.{refl}
use Rattle.rules.specs.Listing.{listing}
use Rattle.rules.specs.PreviewProgram.{preview_run, preview_program}
use Rattle.program_parts.proofs.PrintLaws.{Prints-or_refusal}
use Rattle.preview_program.proofs.printed.Goals as goal

pub returns : goal.returns
unfolding preview_program
returns c =
    let a = c.args in
    Prints-or_refusal listing (λ _. refl) (preview_run (file_of a.deck) (file_of a.clause) a.query.now (file_of a.bars)) a.out.now c.asked-printed.result _ _ _ c.asked-printed.ensures c.or_refusal.ensures
