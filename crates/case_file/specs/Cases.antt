-- Calls at a value that each leaves to the next, and what is taken from a file.
use Rattle.std.specs.Prelude.{ℕ, zero, suc, ◌≡◌, ◌≤◌, List, length, Option, Result, Ok}
use Rattle.std.specs.Io.KnownBytes.{Consumes}
use Rattle.std.specs.Borrow.{MutBor}

-- So many calls gave `Ok`, the first at s, and the last has left t.
abbrev pub Through : {S E : Type 0} → (MutBor S → Result (Unit {0}) E → MutBor S → Type 0) → ℕ → S → S → Type 0
Through call zero s t = t ≡ s
Through {S} call (suc n) s t = (m : S) × Through call n s m × ((p q : MutBor S) × (p.now ≡ m) × call p (Ok tt) q × (q.now ≡ t))

-- A number of so many bytes is taken.
abbrev pub TakesNumber : {F : Type 0} → (F → Option (List ℕ)) → ℕ → F → F → Type 0
TakesNumber remaining width f g = (bytes : List ℕ) × (length bytes ≤ width) × Consumes (remaining f) (remaining g) bytes

-- A number is taken, and then the piece.
abbrev pub TakesPiece : {F : Type 0} → (F → Option (List ℕ)) → ℕ → F → F → List ℕ → Type 0
TakesPiece {F} remaining width f g piece = (m : F) × TakesNumber remaining width f m × Consumes (remaining m) (remaining g) piece
