-- The row of no cells. Assumes nothing.
use mathlib.Core.Path.{refl}
use mathlib.Core.Bool.{true, false}
use native.Mathlib.Omega.{arith}
use lib.ListN.{replicate}
use Rattle.std.proofs.lemmas.List.{get_or-replicate}
use Rattle.drill.proofs.TableLaws.{filled-none, filled-first, filled_more, filled_known}
use Rattle.drill.proofs.table.first_row.Goals as goal

pub returns : goal.returns
returns c S = filled_known (filled_more {row = replicate 8 false} (filled-none S 0 _ refl (λ k h. get_or-replicate 8 k false false h)) true (omega arith) (filled-first _)) (omega arith)
