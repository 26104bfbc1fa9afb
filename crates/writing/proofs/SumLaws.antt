-- A range's numbers, each measured by a closure, and summed. Assumes nothing.
use mathlib.Core.Path.{◌≡◌}
use mathlib.Core.List.{List, map}
use Prim.Native.Nat.{ℕ, ◌+◌, ◌<◌}
use native.Mathlib.Omega.{arith}
use denote.Param.Members.{Mut}
use Rattle.std.specs.declared.iter.Map.{Map}
use Rattle.std.specs.declared.ops.Range.{Range}
use Rattle.std.specs.Fn.{Called}
use Rattle.std.specs.List.{fold, range_with_len, sum_by}
use Rattle.std.specs.Iterator.{Drains}
use Rattle.std.specs.Iterator.Runs.{EachRunFrom}
use Rattle.std.specs.Iterator.Adapters.{map_source, map_callee}
use Rattle.std.specs.Bool.{⊤}
use Rattle.std.proofs.iter.Yields.{nat_range_steps}
use Rattle.std.proofs.lemmas.Iterator.{YieldsList, YieldsList-from_range, YieldsList-from_map, maps}
use Rattle.std.proofs.lemmas.Iterator.Consumers.{sum_by_from_yields_List, fits_by_from_yields_list}

module _ {F : Type 0} (g : Mut F (ℕ × Unit {0}) ℕ) (h : ℕ → ℕ) (n : ℕ) {s : Map (Range ℕ) F} {f : F} (source : map_source s ≡ record { start = 0; end = n }) (closure : map_callee s ≡ f) (calls : (x : ℕ) (r : ℕ) (q : F) → Called g f (x, tt) r q → (q ≡ f) × (r ≡ h x)) where
  measured : YieldsList (maps nat_range_steps g) (λ r. r) s (map h (range_with_len 0 n))
  measured = YieldsList-from_map g h (YieldsList-from_range 0 n n source (omega arith)) closure calls

  pub range-fits : (top : ℕ) → sum_by h (range_with_len 0 n) < top → EachRunFrom (maps nat_range_steps g) s (λ p. fold (λ a x. a + x) 0 p.items < top)
  range-fits top small = fits_by_from_yields_list h (range_with_len 0 n) s top measured small

  pub range-sum : (r : ℕ) → ((xs : List ℕ) × (⊤ → Drains (maps nat_range_steps g) s xs) × (r ≡ fold (λ a x. a + x) 0 xs)) → r ≡ sum_by h (range_with_len 0 n)
  range-sum r ran = sum_by_from_yields_List h (range_with_len 0 n) s r ran measured
