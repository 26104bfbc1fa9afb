-- The invariant: the first misuse is still ahead.
use mathlib.Core.Path.{◌∙◌}
use native.Mathlib.Omega.{arith}
use Rattle.uses.proofs.CheckLaws.{token-done, pass-other, use-ahead}
use Rattle.uses.proofs.walk.UsesIterator.next.Goals as goal

pub returns-in-Ending-clause-steps : goal.returns-in-Ending-clause-steps
returns-in-Ending-clause-steps c =
    let u = c.args.self.now in
    let inv = c.loop-self.invariant in
    let n = rw inv.0 at c.next_token-t.ensures in
    record { text = inv.0; next = inv.2 ∙ token-done u.text.text.now c.loop-self.self.at c.next_token-t.result n c.in-Ending.is }

pub returns-in-Name : goal.returns-in-Name
returns-in-Name c =
    let u = c.args.self.now in
    let inv = c.loop-self.invariant in
    let n = rw inv.0 at c.next_token-t.ensures in
    let text = c.pass.ensures.text ∙ inv.0 in
    let k = rw (text, c.pass.ensures.at) at c.arguments-arguments.ensures in
    let w = use-ahead u.text.text.now c.loop-self.self.at c.next_token-t.result n u.text.in_grammar c.in-Name.is c.arguments-arguments.result k u.at inv.1 inv.2 in
    record {
      steps = record { text = text; next = (w, c.pass.ensures.at) };
      goes = record { on = λ f. (tt, tt, rw (text, c.pass.ensures.at) (omega (arith, w.later, w.forward, w.inside))); keeps = tt; rests = λ f. tt };
    }

pub loop-self-preserved : goal.loop-self-preserved
loop-self-preserved c =
    let u = c.args.self.now in
    let inv = c.loop-self.invariant in
    let n = rw inv.0 at c.next_token-t.ensures in
    rw c.pass.ensures.at (
      c.pass.ensures.text ∙ inv.0,
      omega (arith, inv.1, n.later, n.forward),
      inv.2 ∙ pass-other u.text.text.now c.loop-self.self.at c.next_token-t.result n c.in_default.not-Ending c.in_default-kind.not-Name,
    )
