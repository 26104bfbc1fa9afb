-- `mark` meets its contract. The loop's invariant: the bit is set in the words so far. Assumes nothing.
use Rattle.std.proofs.Common.{◌≡◌, ℕ, ◌≤◌, ◌<◌, List, length, get_or}
use Rattle.std.specs.Prelude.{bit_or}
use Rattle.clauses.proofs.rows.mark.Given as goal

pub record Setting (block : List ℕ) (bit i : ℕ) (block' : List ℕ) : Type 0 where
  pub size : length block' ≡ 16
  pub set : (r : ℕ) → r < i → get_or block' r 0 ≡ bit_or (get_or block r 0) bit
  pub kept : (r : ℕ) → i ≤ r → get_or block' r 0 ≡ get_or block r 0

abbrev pub invariant-loop-word : goal.invariant-loop-word
invariant-loop-word l = Setting l.fn.block l.bit l.word-index l.word-items
