-- `/`, an arity and a dot.
use Rattle.naming.proofs.ItemLaws.{arity-there, arity-at}
use Rattle.naming.proofs.declarations.arity_at.Goals as goal

pub unreachable-requires : goal.unreachable-requires
unreachable-requires c =
    arity-there c.args.text.now c.args.at c.next_token-slash.result c.next_token-given.result c.next_token-slash.ensures c.next_token-given.ensures c.requires.1 c.in_default.not-Number

pub returns : goal.returns
returns c =
    arity-at c.args.text.now c.args.at c.next_token-slash.result c.next_token-given.result c.next_token-slash.ensures c.next_token-given.ensures c.requires.1
    c.next_token-dot.result c.next_token-dot.ensures c.in-Number.number c.in-Number.is
