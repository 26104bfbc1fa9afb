-- The digits, and the sign.
use mathlib.Core.Path.{ap}
use native.Mathlib.Omega.{arith}
use lib.ListN.{length}
use Rattle.writing.proofs.TextParts.{value-small, value-negative}
use Rattle.writing.proofs.lengths.value_length.Goals as goal

pub returns-then-w-lt32768 : goal.returns-then-w-lt32768
returns-then-w-lt32768 c =
    let r = rw c.from-w.ensures at c.digits.ensures.0 in
    (omega (arith, r, ap length (value-small c.args.word (omega (arith, c.from-w.ensures, c.if-w-lt32768.true)))), omega (arith, c.digits.ensures.1))

pub returns : goal.returns
returns c =
    let r = rw c.from-w.ensures at c.digits-2.ensures.0 in
    (omega (arith, r, ap length (value-negative c.args.word (omega (arith, c.from-w.ensures, c.if-w-lt32768.false)))), omega (arith, c.digits-2.ensures.1))
