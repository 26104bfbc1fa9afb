-- By what the pass over the declarations finds.
use mathlib.Core.Path.{ap, ◌∙◌}
use Rattle.std.specs.Prelude.{Err}
use Rattle.reading.proofs.ResultLaws.{did-bad, bad-twice}
use Rattle.reading.proofs.table.read_items.Goals as goal

pub returns-in-Err-Twice : goal.returns-in-Err-Twice
returns-in-Err-Twice c =
    let t = c.args.text in
    let twice = rw (c.in-Err-Twice.is ∙ ap Err c.in-Err-Twice.field-0-is) at c.new.ensures in
    rw c.in-Err-Twice.place-is (did-bad t.text.now c.args.deck.now c.in-Err-Twice.place (bad-twice t.text.now t.in_grammar c.in-Err-Twice.place twice))
