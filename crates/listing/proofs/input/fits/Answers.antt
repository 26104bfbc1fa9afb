-- Both tests are the rules'.
use Prim.Native.Nat.{◌%◌}
use borrow.Author.Tests.{eq-eqb, ne_eqb}
use lib.ListN.{length}
use Rattle.std.proofs.Common.{rules}
use Rattle.rules.specs.Program.{even}
use Rattle.listing.proofs.input.fits.Goals as goal

pub returns-then-is_multiple_of : goal.returns-then-is_multiple_of
unfolding even
returns-then-is_multiple_of c = rw (eq-eqb (length c.args.bytes.now % 2) 0 (search rules)) (search rules)

pub returns-else-is_multiple_of : goal.returns-else-is_multiple_of
unfolding even
returns-else-is_multiple_of c = rw (ne_eqb (length c.args.bytes.now % 2) 0 (search rules)) (search rules)
