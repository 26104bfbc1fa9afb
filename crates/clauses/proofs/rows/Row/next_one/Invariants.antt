-- `next_one` meets its contract. The loop's invariant: the bits before the place are passed. Assumes nothing.
use Rattle.std.proofs.Common.{◌≡◌, ℕ, ◌+◌, ◌-◌, ◌≤◌, ◌<◌, List}
use Rattle.clauses.specs.Rows.{row_bit}
use Rattle.clauses.proofs.rows.Row.next_one.Given as goal

pub record Passing (words : List ℕ) (r n k at : ℕ) : Type 0 where
  pub later : k ≤ at
  pub near : at ≤ 8192 + 64
  pub passed : (m : ℕ) → k ≤ m → m < at → m < n → row_bit words r m ≡ 0

abbrev pub invariant-loop-at : goal.invariant-loop-at
invariant-loop-at l = Passing l.self.words.now l.self.number l.n l.k l.at

abbrev pub decreases-loop-at : goal.decreases-loop-at
decreases-loop-at l = l.n - l.at
