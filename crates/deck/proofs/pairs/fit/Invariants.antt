-- `fit`: the words fit just where those that are left do, with the values that are marked.
use Rattle.std.proofs.Common.{◌≡◌, length}
use Rattle.rules.specs.Decks.{read_values, keep_distinct}
use Rattle.deck.specs.Answers.{found}
use Rattle.deck.specs.Pairs.{marked, values_fit}
use Rattle.deck.proofs.pairs.fit.Given as goal

abbrev pub invariant-loop-rest : goal.invariant-loop-rest
invariant-loop-rest l = found (keep_distinct (read_values l.pairs)) ≡ values_fit (marked l.seen) l.rest

abbrev pub decreases-loop-rest : goal.decreases-loop-rest
decreases-loop-rest l = length l.rest
