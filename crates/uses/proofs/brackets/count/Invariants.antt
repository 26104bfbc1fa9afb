-- The pairs are counted as far as the loop has come.
use lib.ListN.{drop}
use Rattle.uses.specs.Pairs.{in_brackets}
use Rattle.uses.specs.Counting.{CountedBy}
use Rattle.uses.proofs.MarkLaws.{marks}
use Rattle.uses.proofs.brackets.count.Given as goal

abbrev pub invariant-loop-byte : goal.invariant-loop-byte
invariant-loop-byte l =
    let bs = drop l.from l.text in
    CountedBy (in_brackets (marks bs)) l.byte-index l.counting (marks (drop l.byte-index bs))
