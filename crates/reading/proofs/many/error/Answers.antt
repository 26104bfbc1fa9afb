-- By the answer on the names declared twice.
use Rattle.reading.proofs.ResultLaws.{did-bad, bad-twice, twice-none}
use Rattle.reading.proofs.many.error.Goals as goal

pub returns-in-Some : goal.returns-in-Some
returns-in-Some c = λ before e.
    let t = c.args.text in
    let p = c.in-Some.place in
    did-bad t.text.now before p (bad-twice t.text.now t.in_grammar p c.in-Some.ensures)

pub error_once-requires-clause-once : goal.error_once-requires-clause-once
error_once-requires-clause-once c = rw c.count.ensures (twice-none c.args.text.text.now c.in-None.ensures)
