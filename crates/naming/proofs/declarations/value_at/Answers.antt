-- A value and a dot.
use Rattle.naming.proofs.ItemLaws.{value-of-kind, given-there, value-at}
use Rattle.naming.proofs.declarations.value_at.Goals as goal
use Rattle.naming.proofs.declarations.value_at.Goals.{in-Number, in-Number-2}

pub unreachable-requires : goal.unreachable-requires
unreachable-requires c =
    given-there c.args.text.now c.args.at c.next_token-given.result c.next_token-given.ensures c.requires.numbers c.requires.readable c.in_default.not-Number c.in_default.not-Amount

pub returns : goal.returns
returns c =
    value-at c.args.text.now c.args.at c.next_token-given.result c.next_token-given.ensures c.requires.numbers c.requires.readable
    c.next_token-dot.result c.next_token-dot.ensures c.match-given.number
    (elim c.match-given.branch [
      | in-Number w ↦ value-of-kind _ _ _ w.in-Number.is w.number-is
      | in-Number-2 w ↦ value-of-kind _ _ _ w.in-Number.is w.number-is
    ])
