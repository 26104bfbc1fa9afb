-- Laws of the table.
use Rattle.std.proofs.Common.{◌≡◌, ℕ, zero, suc, refl, ◌∙◌, get_or, replicate}
use Rattle.std.specs.Prelude.{None}
use Rattle.matching.specs.Bindings.{NoBindings}
use Rattle.matching.specs.declared.bindings.Table.{Table}
use Rattle.matching.specs.Tables.{Same}

pub same_refl : (t : Table) → Same t t
same_refl t = record { bind = refl; trail = refl; bound = refl }

pub same-on : {t t' t'' : Table} → Same t t' → Same t' t'' → Same t t''
same-on a b = record { bind = b.bind ∙ a.bind; trail = b.trail ∙ a.trail; bound = b.bound ∙ a.bound }

-- an entry of a list that holds one thing everywhere
each : {A : Type 0} (n w : ℕ) (x : A) → get_or (replicate n x) w x ≡ x
each zero w x = refl
each (suc n) zero x = refl
each (suc n) (suc w) x = each n w x

-- A new table's bindings and stamps.
pub blank-new : (n : ℕ) → NoBindings (replicate n None) (replicate n 0)
blank-new n = record { free = λ v. each n v None; unstamped = λ w. each n w 0 }
