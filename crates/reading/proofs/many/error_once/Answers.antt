-- By the answer on the uses.
use Rattle.reading.proofs.ResultLaws.{did-bad, bad-use, readable, uses-none}
use Rattle.reading.proofs.many.error_once.Goals as goal

pub returns-in-Some : goal.returns-in-Some
returns-in-Some c = λ before e.
    let t = c.args.all.text in
    did-bad t.text.now before c.in-Some.name (bad-use t.text.now t.in_grammar c.requires.once c.in-Some.name c.in-Some.ensures)

pub refusal-requires : goal.refusal-requires
refusal-requires c = let t = c.args.all.text in (readable t.text.now t.in_grammar c.requires.once (uses-none t.text.now c.in-None.ensures), c.requires.many)
