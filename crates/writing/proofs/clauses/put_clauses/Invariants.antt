-- The invariant: the clauses from i on are still to be written.
use lib.ListN.{drop}
use Rattle.text_rules.specs.TextWriter.{clauses_text}
use Rattle.listing.proofs.PutLaws.{Left}
use Rattle.writing.specs.Writes.{deck_of}
use Rattle.writing.proofs.clauses.put_clauses.Given as goal

abbrev pub invariant-loop-i : goal.invariant-loop-i
invariant-loop-i l = Left l.initial.out (clauses_text (deck_of l.deck.words.now).clauses) l.out (clauses_text (drop l.i (deck_of l.deck.words.now).clauses))
