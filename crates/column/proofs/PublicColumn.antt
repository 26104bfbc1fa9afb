-- What the contract of `column` says. Of whatever words are passed, as long as the result meets what the contract ensures (its reading `Post`): which
-- answers and which values an accepted column is of; that its mean, times the count, with the remainder is the sum; that no other numbers are; and
-- how large the sum can be, for every count.
use Prim.Native.Nat.{ℕ, ◌<◌}
use mathlib.Core.Path.{◌≡◌}
use native.Mathlib.Omega.{arith}
use contract.Lifetimes.{Lfts}
use denote.Triple.Clauses.{AtExit}
use borrow.Fn.World.{ArgsD}
use lib.IntN.{pos, ◌+ℤ◌, ◌*ℤ◌}
use lib.Signed.{◌≤ℤ◌}
use Rattle.rules.proofs.ColumnLaws.{ColumnSays, column-says}
use Rattle.std.specs.Prelude.{Ok}
use Rattle.std.proofs.lemmas.Int.{ints}
use Rattle.means.specs.declared.Mean.{Mean}
use Rattle.means.specs.Means.{as_mean}
use Rattle.column.specs.contracts.column.{signature, ended}
use Rattle.column.proofs.column.Reads.{Post}
use Rattle.column.proofs.CallLaws.{answered}
use Rattle.column.proofs.SumLaws.{Within}
use Rattle.column.proofs.BoundLaws.{Words, column-within}

module _ (κs : Lfts 2) (entry : ArgsD signature κs) (exit : AtExit ended κs) (m : Mean) (post : Post κs entry (Ok m) exit) where
  abbrev count : ℕ
  count = entry.1.1.0

  pub public-says : ColumnSays entry.0.now entry.1.0.now count entry.1.1.1.0 entry.1.1.1.1.0 (as_mean m)
  public-says = column-says entry.0.now entry.1.0.now count entry.1.1.1.0 entry.1.1.1.1.0 (as_mean m) (answered _ m post)

  -- THE MEAN
  pub public-mean : (m.sum ≡ m.whole *ℤ pos count +ℤ pos m.remainder) × (m.remainder < count)
  public-mean = (public-says.divides, public-says.below)

  -- THE SUM of 1 to 65,535 words of 16 bits in two's complement lies between -2,147,450,880 and 2,147,385,345.
  pub public-within : Words entry.0.now → Within m.sum count
  public-within w = column-within w public-says

  pub public-bounds : Words entry.0.now → (m.sum ≤ℤ pos 2147385345) × (pos 0 ≤ℤ (m.sum +ℤ pos 2147450880))
  public-bounds w =
      let k = public-within w in
      let a = k.above in
      let b = k.below in
      let most = public-says.most in
      (omega (arith, ints), omega (arith, ints))
