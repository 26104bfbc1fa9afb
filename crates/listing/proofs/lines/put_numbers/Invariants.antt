-- The invariant: the numbers from the place on are still to be put.
use lib.ListN.{drop}
use Rattle.listing.specs.Shown.{numbers_text}
use Rattle.listing.proofs.PutLaws.{Left}
use Rattle.listing.proofs.lines.put_numbers.Given as goal

abbrev pub invariant-loop-n : goal.invariant-loop-n
invariant-loop-n l = Left l.initial.out (numbers_text l.numbers) l.out (numbers_text (drop l.n-index l.numbers))
