-- The variables in cells, and the cells with their variables made fresh.
use Rattle.std.specs.Prelude.{ℕ, ◌+◌, ◌-◌, ◌≡◌, Bool, true, false, List, [], ◌∷◌}
use Rattle.std.proofs.Math.Logic.{ite}
use Rattle.std.proofs.Math.Decide.{dec_lt}

-- From left to right.
unfoldable pub variables_in : List ℕ → List ℕ
variables_in [] = []
variables_in (c ∷ cs) = ite (dec_lt c 32768) (variables_in cs) ((c - 32768) ∷ variables_in cs)

-- r says whether there are none.
pub record NoneOf (vs : List ℕ) (r : Bool) : Type 0 where
  pub if-so : r ≡ true → vs ≡ []
  pub if-not : r ≡ false → vs ≡ [] → ⊥

-- A variable comes after offset others.
unfoldable pub fresh_cell : ℕ → ℕ → ℕ
fresh_cell offset c = ite (dec_lt c 32768) c (c + offset)
