-- `kinds`: the places below i hold their words of kind.
use Rattle.std.proofs.Common.{◌≡◌, ℕ, ◌<◌, length, get_or}
use Rattle.rules.specs.Decks.{kind_words}
use Rattle.deck.proofs.pairs.kinds.Given as goal

abbrev pub invariant-loop-i : goal.invariant-loop-i
invariant-loop-i l = (length l.table ≡ 4096) × ((k : ℕ) → k < l.i → get_or l.table k 0 ≡ get_or (kind_words l.pairs) k 0)
