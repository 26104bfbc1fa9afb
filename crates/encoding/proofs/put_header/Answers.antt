-- The eight words.
use mathlib.Core.Path.{sym}
use Rattle.rules.specs.Decks.{header_words}
use Rattle.encoding.proofs.put_header.Goals as goal

pub returns : goal.returns
unfolding header_words
returns c = rw (sym c.requires.room) c.copy_from_slice.ensures.after
