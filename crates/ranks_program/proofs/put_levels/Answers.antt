-- The two words, and the numbers. Assumes nothing.
use Rattle.std.proofs.Common.{◌++◌, length, rules, ap, arith}
use lib.ListN.{length-append}
use Rattle.rules.specs.Program.{bytes_from}
use Rattle.listing.specs.Put.{Adds}
use Rattle.listing.proofs.ByteLaws.{bytes-length}
use Rattle.listing.proofs.PrintedLaws.{put-printed}
use Rattle.listing.proofs.PutLaws.{put_at_start, adds_then, adds-length}
use Rattle.ranks_program.specs.LevelsProgram.{front}
use Rattle.ranks_program.proofs.LevelsLaws.{front-length, front-bytes}
use Rattle.ranks_program.proofs.put_levels.Goals as goal
use Rattle.ranks_program.proofs.put_levels.Goals.{After-put_words}

-- The two words are added.
first : (c : After-put_words) → Adds c.new-out.result (bytes_from (front c.args.named)) c.put_words.new.self
first c = rw c.front.ensures at c.put_words.ensures.adds

pub put_words-requires : goal.put_words-requires
put_words-requires c =
    let o = c.new-out.ensures in
    omega (arith, o.start, ap length o.bytes, bytes-length c.front.result, ap length c.front.ensures, front-length c.args.named, c.requires.1)

pub put_words-requires-2 : goal.put_words-requires-2
put_words-requires-2 c =
    let o = c.new-out.ensures in
    let a = first (goal.at.put_words-requires-2 c).After-put_words in
    omega (arith, o.start, ap length o.bytes, bytes-length (front c.args.named), front-length c.args.named, bytes-length c.args.numbers.now, a.put.place, adds-length a, c.requires.0, c.requires.1)

pub returns : goal.returns
returns c =
    let o = c.new-out.ensures in
    let a = first (goal.at.returns c).After-put_words in
    let b = adds_then a c.put_words-2.ensures.adds in
    let text = bytes_from (front c.args.named) ++ bytes_from c.args.numbers.now in
    rw (front-bytes c.args.named c.args.numbers.now)
    (put-printed (put_at_start o.bytes o.start b (search (rules, o.same_reference, a.same_reference)))
    (omega (arith, length-append (bytes_from (front c.args.named)) (bytes_from c.args.numbers.now), bytes-length (front c.args.named), front-length c.args.named, bytes-length c.args.numbers.now, c.requires.0, c.requires.1)))
