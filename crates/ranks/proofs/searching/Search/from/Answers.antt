-- `from` meets its contract. Assumes nothing.
use Rattle.ranks.proofs.SearchLaws.{raised-begun}
use Rattle.ranks.proofs.searching.Search.from.Goals as goal

pub returns : goal.returns
returns c =
    let s = c.blank-search.result in
    raised-begun c.args.p s.marks s.waiting.items _ _ c.requires c.blank-search.ensures c.raise.ensures
