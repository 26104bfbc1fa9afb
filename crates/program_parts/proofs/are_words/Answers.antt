-- Both tests are the rules'.
use Rattle.std.proofs.Common.{rules, ◌≡◌, ℕ, ◌%◌, leb, length, arith}
use Rattle.std.proofs.lemmas.Bool.Decides.{nat_tests}
use Rattle.std.specs.Ordering.{nat_cmp, is_le}
use borrow.Author.Tests.{eq-eqb, ne_eqb}
use Rattle.rules.specs.Program.{even}
use Rattle.program_parts.proofs.are_words.Goals as goal

is_le-leb : (a b : ℕ) → is_le (nat_cmp a b) ≡ leb a b
is_le-leb a b = grind (arith, nat_tests)

pub returns-then-is_multiple_of : goal.returns-then-is_multiple_of
unfolding even
returns-then-is_multiple_of c =
    let r = c.new.ensures in
    let n = length c.args.bytes.now in
    rw (eq-eqb (n % 2) 0 (search rules)) (rw (r.start, r.end, r.exhausted, is_le-leb c.args.least n, is_le-leb n c.args.most) at c.contains.ensures.value)

pub returns-else-is_multiple_of : goal.returns-else-is_multiple_of
unfolding even
returns-else-is_multiple_of c = rw (ne_eqb (length c.args.bytes.now % 2) 0 (search rules)) (search rules)
