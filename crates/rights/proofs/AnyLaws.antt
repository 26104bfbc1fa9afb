-- Whether a predicate of a list is barred. Assumes nothing.
use Prim.Native.Nat.{ℕ}
use mathlib.Core.Path.{◌≡◌, refl, ap}
use mathlib.Core.Bool.{◌||◌}
use mathlib.Core.List.{List, [], ◌∷◌}
use Rattle.std.specs.List.{list_any}
use Rattle.rules.specs.Rights.{barred, any_barred}

pub any-list : (bars list : List ℕ) → any_barred bars list ≡ list_any (barred bars) list
unfolding any_barred
any-list bars [] = refl
any-list bars (p ∷ list) = ap (λ b. barred bars p || b) (any-list bars list)
