-- `blank` meets its contract. Assumes nothing.
use Rattle.std.proofs.Common.{◌≡◌, ℕ, zero, suc, get_or, replicate, refl}
use Rattle.clauses.proofs.by_predicate.Index.blank.Goals as goal

zeros : (n w : ℕ) → ◌≡◌ {A = ℕ} (get_or (replicate n 0) w 0) 0
zeros zero w = refl
zeros (suc n) zero = refl
zeros (suc n) (suc w) = zeros n w

pub returns : goal.returns
returns c = record { uncounted = c.blank.ensures; unset = zeros 4096 }
