-- By the answer on the grammar.
use Rattle.reading.proofs.ResultLaws.{did-bad, bad-grammar}
use Rattle.reading.proofs.read_text.Goals as goal

pub returns-in-Err : goal.returns-in-Err
returns-in-Err c = let a = c.args in did-bad a.text.now a.deck.now c.in-Err.place (bad-grammar a.text.now c.in-Err.place c.in-Err.ensures)
