-- By the answer on the uses.
use Rattle.reading.proofs.ResultLaws.{did-bad, bad-use, readable, uses-none, once}
use Rattle.reading.proofs.table.read_named.Goals as goal

pub returns-in-Some : goal.returns-in-Some
returns-in-Some c =
    let d = c.args.names in
    let t = d.all.text in
    did-bad t.text.now c.args.deck.now c.in-Some.name (bad-use t.text.now t.in_grammar (once d) c.in-Some.name c.in-Some.ensures)

pub read_used-requires : goal.read_used-requires
read_used-requires c = let d = c.args.names in let t = d.all.text in readable t.text.now t.in_grammar (once d) (uses-none t.text.now c.in-None.ensures)
