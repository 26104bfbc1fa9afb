-- `bar_fits` meets its contract.
use Rattle.std.proofs.Common.{arith}
use Rattle.rights.proofs.BarLaws.{bar-0, bar-1, bar-other}
use Rattle.rights.proofs.bars.bar_fits.Goals as goal

pub returns-in-0 : goal.returns-in-0
returns-in-0 c = bar-0 c.args.symbol c.args.bar c.in-0.is

pub returns-in-1 : goal.returns-in-1
returns-in-1 c = bar-1 c.args.symbol c.args.bar c.in-1.is

pub returns-in_default : goal.returns-in_default
returns-in_default c = bar-other c.args.symbol c.args.bar (λ q. omega arith) (λ q. omega arith)
