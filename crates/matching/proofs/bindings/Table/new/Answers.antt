-- `Table::new` meets its contract.
use Rattle.matching.proofs.TableLaws.{blank-new}
use Rattle.matching.proofs.bindings.Table.new.Goals as goal

pub returns-clause-blank : goal.returns-clause-blank
returns-clause-blank c = blank-new 1280
