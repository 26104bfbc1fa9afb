-- The invariant: the first i words are put.
use lib.ListN.{take}
use Rattle.rules.specs.Program.{words_from}
use Rattle.listing.specs.Put.{Put}
use Rattle.listing.proofs.input.read_words.Given as goal

abbrev pub invariant-loop-i : goal.invariant-loop-i
invariant-loop-i l = Put l.initial.words 0 (take l.i (words_from l.bytes)) l.i l.words
