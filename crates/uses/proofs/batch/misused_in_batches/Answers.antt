-- By what is seen in the last batch.
use mathlib.Core.Path.{ap, ◌∙◌}
use Rattle.text_rules.specs.Text.{place_of}
use Rattle.uses.proofs.CheckLaws.{clauses-misused}
use Rattle.uses.proofs.batch.misused_in_batches.Goals as goal

pub returns-in-Break : goal.returns-in-Break
returns-in-Break c =
    let all = c.args.all in
    let text = all.text.text.now in
    ap (place_of text) (clauses-misused text all.end all.counted.clauses ∙ c.loop-place.invariant.1) ∙ c.in-Break.ensures
