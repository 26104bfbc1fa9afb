-- At the end there is no misuse.
use mathlib.Core.Path.{ap, sym, ◌∙◌}
use Rattle.text_rules.specs.Text.{place_of}
use Rattle.uses.proofs.CheckLaws.{clauses-misused}
use Rattle.uses.proofs.checking.misused_in_table.Goals as goal

pub returns : goal.returns
unfolding place_of
returns c =
    let all = c.args.names.all in
    let text = all.text.text.now in
    let inv = c.loop-u.invariant in
    ap (place_of text) (clauses-misused text all.end all.counted.clauses ∙ inv.3 ∙ rw inv.2 at c.in-None.ensures.steps.next)

pub returns-then-not-fine : goal.returns-then-not-fine
returns-then-not-fine c =
    let all = c.args.names.all in
    let text = all.text.text.now in
    let inv = c.loop-u.invariant in
    let u = rw inv.2 at c.in-Some.ensures.steps.next.0 in
    ap (place_of text) (clauses-misused text all.end all.counted.clauses ∙ inv.3) ∙ u.badly (sym c.takes-fine.ensures ∙ c.if-not-fine.true)
