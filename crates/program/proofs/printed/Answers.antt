-- The listing, or the refusal's line.
use Rattle.listing.specs.Printed.{file_of}
use Rattle.std.proofs.Common.{refl}
use Rattle.rules.specs.Listing.{listing}
use Rattle.rules.specs.Program.{program, program_run}
use Rattle.program_parts.proofs.PrintLaws.{Prints-or_refusal}
use Rattle.program.proofs.printed.Goals as goal

pub returns : goal.returns
unfolding program
returns c =
    Prints-or_refusal listing (λ _. refl) (program_run (file_of c.args.deck) c.args.query.now) c.args.out.now c.asked-printed.result _ _ _ c.asked-printed.ensures c.or_refusal.ensures
