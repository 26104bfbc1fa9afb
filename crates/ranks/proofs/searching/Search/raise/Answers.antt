-- `raise` meets its contract. Assumes nothing.
use Rattle.std.proofs.Common.{◌<◌, refl, ap, arith}
use Rattle.ranks.specs.Raising.{at}
use Rattle.ranks.proofs.SearchLaws.{room-left, ready-push}
use Rattle.ranks.proofs.searching.Search.raise.Goals as goal

pub returns-then-mark-self : goal.returns-then-mark-self
returns-then-mark-self c =
    let s = c.args.self.now in
    record { same = λ h. (refl, refl); raised = λ h. absurd (omega (arith, c.if-mark-self.true, ap (at s.marks) c.from-at.ensures)) }

pub push-requires : goal.push-requires
push-requires c =
    let s = c.args.self.now in
    let up : at s.marks c.args.q < c.args.mark = omega (arith, c.if-mark-self.false, ap (at s.marks) c.from-at.ensures) in
    (omega arith, room-left s.marks s.waiting.items c.args.q c.args.mark (omega (arith, c.requires.0, s.ready.size)) up c.requires.1 s.ready)

pub invariant_of-self : goal.invariant_of-self
invariant_of-self c =
    let s = c.args.self.now in
    let up : at s.marks c.args.q < c.args.mark = omega (arith, c.if-mark-self.false, ap (at s.marks) c.from-at.ensures) in
    record { ready = rw (c.from-at.ensures, c.push.ensures.items) (ready-push s.marks s.waiting.items c.args.q c.args.mark (omega (arith, c.requires.0, s.ready.size)) up c.requires.0 c.requires.1 s.ready) }

pub returns : goal.returns
returns c =
    let s = c.args.self.now in
    record {
      same = λ h. absurd (omega (arith, c.if-mark-self.false, ap (at s.marks) c.from-at.ensures));
      raised = λ h. (rw c.from-at.ensures refl, c.push.ensures.items);
    }
