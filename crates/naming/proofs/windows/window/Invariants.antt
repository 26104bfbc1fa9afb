-- The invariant: the declarations up to a place are passed, the first 4,096 of them in the table.
use Rattle.std.proofs.Common.{ℕ, ◌≡◌}
use Rattle.std.specs.declared.ops.Range.{Range}
use Rattle.std.specs.Iterator.Adapters.{zip_first, zip_second}
use Rattle.text.specs.Names.{Table}
use Rattle.naming.specs.declared.walks.Walk.{Walk}
use Rattle.naming.specs.declared.windows.First.{First}
use Rattle.naming.proofs.WindowLaws.{Passing}
use Rattle.naming.proofs.windows.window.Given as goal

pub record Loop {V : Type 0} (passed : Walk) (known : First) (names : Table V) (numbers : Range ℕ) (walk : Walk) : Type 0 where
  pub passing : Passing names passed.count known.number walk.at numbers.start
  pub same_names : names.text ≡ passed.text.text.now
  pub same_walk : walk.text ≡ passed.text
  pub end : numbers.end ≡ known.number

abbrev pub invariant-loop-number : goal.invariant-loop-number
invariant-loop-number l = Loop l.fn.passed l.known l.names (zip_first l.number-iterator) (zip_second l.number-iterator)
