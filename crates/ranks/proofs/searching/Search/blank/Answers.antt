-- `blank` meets its contract. Assumes nothing.
use Rattle.std.proofs.Common.{ℕ}
use lib.ListN.{length-replicate}
use Rattle.ranks.proofs.AnswerLaws.{zero-at}
use Rattle.ranks.proofs.SearchLaws.{blank-ready}
use Rattle.ranks.proofs.searching.Search.blank.Goals as goal

pub invariant_of-result : goal.invariant_of-result
invariant_of-result c = record { ready = blank-ready _ _ record { size = length-replicate {A = ℕ} 4096 0; unmarked = zero-at 4096; none_waits = c.new.ensures } }

pub returns : goal.returns
returns c = record { size = length-replicate {A = ℕ} 4096 0; unmarked = zero-at 4096; none_waits = c.new.ensures }
