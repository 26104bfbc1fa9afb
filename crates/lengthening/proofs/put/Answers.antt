-- `put`: the parts, one after the other.
use lib.ListN.{get_or}
use Rattle.lengthening.proofs.LengthLaws.{one_set, copy-put}
use Rattle.lengthening.proofs.put.Goals as goal

pub returns : goal.returns
returns c =
    let one = one_set c.split_at_mut-start.result.0.now (get_or c.args.deck.now.words.now 5 0) c.split_at_mut-start.ensures.front_len in
    copy-put c.args.deck.now.words.now c.args.cells.now _ _ _ _ _ c.from-first.result c.args.deck.now.fits c.from-first.ensures c.put_header.ensures c.copy_from_slice.ensures.after one
    c.copy_from_slice-2.ensures.after c.copy_from_slice-3.ensures.after
