-- One declaration more is passed.
use Rattle.std.proofs.Common.{subst}
use Rattle.naming.specs.Walks.{At}
use Rattle.naming.proofs.WalkLaws.{passed-one}
use Rattle.naming.proofs.walks.WalkIterator.next.Goals as goal

pub invariant_of-self : goal.invariant_of-self
invariant_of-self c =
    let s = c.args.self.now in
    let text = s.text.text.now in
    record { passed = passed-one text s.at s.count s.passed c.in_ok-d.d (subst (At text s.at) c.in_ok-d.was c.item_at.ensures) }
