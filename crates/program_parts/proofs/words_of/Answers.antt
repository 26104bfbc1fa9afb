-- The words stand at the start of those lent.
use Rattle.std.proofs.Common.{◌≡◌, ◌≤◌, length, take, length-take-le, sym}
use Rattle.rules.specs.Program.{words_from}
use Rattle.listing.proofs.PrintedLaws.{words-read}
use Rattle.program_parts.proofs.words_of.Goals as goal
use Rattle.program_parts.proofs.words_of.Goals.{After-read_words-n}

read :
    (c : After-read_words-n)
    → (c.read_words-n.result ≤ length c.read_words-n.new.words) × (take c.read_words-n.result c.read_words-n.new.words ≡ words_from c.args.bytes.now)
read c = words-read c.args.bytes.now c.read_words-n.ensures c.requires

pub slice_bounds-result-end : goal.slice_bounds-result-end
slice_bounds-result-end c = sym (length-take-le _ _ (read (goal.at.slice_bounds-result-end c).After-read_words-n).0)

pub returns : goal.returns
returns c = (read (goal.at.returns c).After-read_words-n).1
