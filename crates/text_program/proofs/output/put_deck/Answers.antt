-- There is room for two bytes a word.
use Rattle.std.proofs.Common.{length, ap, arith}
use Rattle.listing.proofs.ByteLaws.{bytes-length}
use Rattle.text_program.proofs.output.put_deck.Goals as goal

pub put_words-requires : goal.put_words-requires
put_words-requires c =
    let o = c.new-out.ensures in
    omega (arith, o.start, ap length o.bytes, bytes-length c.args.words.now, c.requires)
