-- At the beginning of the first clause.
use mathlib.Core.Path.{ap, sym}
use Rattle.text_rules.specs.TextTokens.{dot}
use Rattle.text_rules.specs.TextWords.{entries}
use Rattle.text_rules.specs.Text.{text_entries}
use Rattle.encoding.proofs.walk.Entries.new.Goals as goal

pub returns-clause-all : goal.returns-clause-all
unfolding text_entries
returns-clause-all c = ap (entries dot) (sym c.args.all.counted.clauses)
