-- By the arities that the declarations give to the names of the batch.
use mathlib.Core.Path.{◌≡◌, ap, sym, ◌∙◌}
use mathlib.Core.Option.{some}
use Prim.Native.Nat.{ℕ}
use Rattle.text.specs.declared.names.Entry.{Entry}
use Rattle.text.specs.Names.{no_entry}
use Rattle.text_rules.specs.Text.{place_of}
use Rattle.uses.proofs.GatherLaws.{gathered-any, gather-misused, gather-fine}
use Rattle.uses.proofs.batch.in_batch.Goals as goal
use Rattle.uses.proofs.batch.in_batch.Goals.{After-gather-next}

same : (c : goal.After-gather-next) → c.gather-next.new.names.text ≡ c.args.text.text.now
same c = c.gather-next.ensures.text ∙ ap (λ (t : _). t.text) c.new-names.ensures

pub returns-in-Some : goal.returns-in-Some
returns-in-Some c =
    let a = c.args in
    let t = c.gather-next.new.names in
    let g = gathered-any t a.start c.gather-next.result c.gather-next.ensures.gathered in
    let w = gather-misused t a.start g.0 g.1 c.declared-found.result c.declared-found.ensures c.in-Some.j c.in-Some.ensures in
    rw (sym (same (goal.at.returns-in-Some c).After-gather-next)) (w ∙ ap (λ (x : Entry ℕ). some x.from) (sym (c.get.ensures.equal no_entry)))

pub returns-in-Some-next : goal.returns-in-Some-next
returns-in-Some-next c =
    let a = c.args in
    let t = c.gather-next.new.names in
    let g = c.in-Some-next.ensures.gathered in
    rw (sym (same (goal.at.returns-in-Some-next c).After-gather-next))
    (g.1, g.0.inside, gather-fine t a.start c.in-Some-next.at g.0 c.declared-found.result c.declared-found.ensures c.in_default.ensures)

pub returns-in-None : goal.returns-in-None
unfolding place_of
returns-in-None c =
    let a = c.args in
    let t = c.gather-next.new.names in
    let g = c.in-None.ensures.gathered in
    rw (sym (same (goal.at.returns-in-None c).After-gather-next))
    (ap (place_of t.text) (gather-fine t a.start g.0 g.1 c.declared-found.result c.declared-found.ensures c.in_default.ensures ∙ g.2))
