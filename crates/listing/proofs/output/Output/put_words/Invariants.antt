-- The invariant: the bytes of the words from the place on are still to be put.
use lib.ListN.{drop}
use Rattle.rules.specs.Program.{bytes_from}
use Rattle.listing.proofs.PutLaws.{Left}
use Rattle.listing.proofs.output.Output.put_words.Given as goal

abbrev pub invariant-loop-word : goal.invariant-loop-word
invariant-loop-word l = Left l.initial.self (bytes_from l.words) l.self (bytes_from (drop l.word-index l.words))
