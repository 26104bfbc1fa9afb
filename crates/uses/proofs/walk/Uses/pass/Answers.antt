-- The pairs of brackets after the token.
use native.Mathlib.Omega.{arith}
use Rattle.uses.proofs.CheckLaws.{given-same, given-next}
use Rattle.uses.proofs.walk.Uses.pass.Goals as goal

pub invariant_of-self : goal.invariant_of-self
invariant_of-self c =
    let u = c.args.self.now in
    let n = c.requires.next in
    record { inside = n.inside; some = u.some; known = given-same u.text.text.now u.at c.args.t n c.requires.more u.given u.i u.known c.in_default.not-Opening }

pub invariant_of-self-2 : goal.invariant_of-self-2
invariant_of-self-2 c =
    let u = c.args.self.now in
    let n = c.requires.next in
    record { inside = n.inside; some = omega (arith, u.some, c.if-self-eq4095.false); known = given-next u.text.text.now u.at c.args.t n c.requires.more u.given u.i u.known c.in-Opening.is }
