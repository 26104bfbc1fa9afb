-- Nothing is passed.
use Rattle.naming.proofs.WalkLaws.{passed_none}
use Rattle.naming.proofs.walks.Walk.new.Goals as goal

pub invariant_of-result : goal.invariant_of-result
invariant_of-result c = record { passed = passed_none c.args.text.text.now c.args.text.start c.args.text.starts c.args.text.in_grammar }
