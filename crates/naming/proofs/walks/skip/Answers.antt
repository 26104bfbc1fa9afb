-- `nth` has passed so many, or all.
use Rattle.naming.proofs.WalkLaws.{skipped_text, skipped_count}
use Rattle.naming.proofs.walks.skip.Goals as goal

pub returns-clause-text : goal.returns-clause-text
returns-clause-text c = skipped_text c.args.passed c.nth.new.self c.nth.result c.nth.ensures.ran

pub returns-clause-few : goal.returns-clause-few
returns-clause-few c = (skipped_count c.args.passed c.nth.new.self c.nth.result c.nth.ensures.ran).0

pub returns-clause-more : goal.returns-clause-more
returns-clause-more c = (skipped_count c.args.passed c.nth.new.self c.nth.result c.nth.ensures.ran).1
