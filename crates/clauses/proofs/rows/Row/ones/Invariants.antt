-- `ones` meets its contract. The loop's invariant: the ones of the words so far are counted. Assumes nothing.
use Rattle.std.proofs.Common.{◌≡◌, ℕ, ◌+◌, ◌*◌, ◌^◌, ◌≤◌, ◌<◌, List, get_or}
use Rattle.clauses.proofs.CountLaws.{ones_of}
use Rattle.clauses.proofs.rows.Row.ones.Given as goal

pub record Counting (words : List ℕ) (r w ones : ℕ) : Type 0 where
  pub counted : ones ≡ ones_of words r w
  pub few : ones ≤ 4294967296 * w
  pub small : (v : ℕ) → v < w → get_or words (16 * v + r) 0 < 2 ^ 64

abbrev pub invariant-loop-w : goal.invariant-loop-w
invariant-loop-w l = Counting l.self.words.now l.self.number l.w l.ones
