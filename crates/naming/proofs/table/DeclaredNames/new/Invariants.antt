-- The invariant: the declarations up to a place are in the table.
use Rattle.std.proofs.Common.{ℕ, ◌≡◌}
use Rattle.text.specs.Names.{Table}
use Rattle.text.specs.declared.readable.Readable.{Readable}
use Rattle.naming.specs.declared.declarations.Symbol.{Symbol}
use Rattle.naming.specs.declared.walks.Walk.{Walk}
use Rattle.naming.proofs.TableLaws.{Filled}
use Rattle.naming.proofs.table.DeclaredNames.new.Given as goal

pub record Loop (text : Readable) (names : Table Symbol) (end : ℕ) (walk : Walk) : Type 0 where
  pub filled : Filled names walk.at
  pub same_walk : walk.text ≡ text
  pub same_names : names.text ≡ text.text.now
  pub same_end : end ≡ walk.at

abbrev pub invariant-loop-d : goal.invariant-loop-d
invariant-loop-d l = Loop l.text l.names l.end l.d-iterator
