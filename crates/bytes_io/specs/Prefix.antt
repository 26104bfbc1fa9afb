-- How many bytes stand at the start of a buffer, and those that are taken from a file.
use Rattle.std.specs.Prelude.{◌≡◌, ℕ, ◌≤◌, List, length, take, Option, Some, None, IsSomeAnd}
use Rattle.std.specs.Borrow.{Bor}
use Rattle.std.specs.Io.KnownBytes.{Consumes}
use Rattle.std.proofs.Math.Option as maybe

-- `&xs[..n]` is in bounds and has n bytes. The second part follows from the first, and spares a caller's `&buf[..n]` a proof.
abbrev pub IsPrefixLen : ℕ → List ℕ → Type 0
IsPrefixLen n xs = (n ≤ length xs) × (n ≡ length (take n xs))

-- The bytes of a file, if there is one: lent, or so many at the start of a buffer.
abbrev pub file_bytes : Option (Bor (List ℕ)) → maybe.Option (List ℕ)
file_bytes (Some file) = maybe.some file.now
file_bytes None = maybe.none

abbrev pub front_bytes : Option ℕ → List ℕ → maybe.Option (List ℕ)
front_bytes (Some n) xs = maybe.some (take n xs)
front_bytes None xs = maybe.none

-- The bytes are those that were taken from a file, which is lent; and there are none where there is no file.
abbrev pub TakesFrom : {F : Type 0} → (F → Option (List ℕ)) → Option F → Option F → maybe.Option (List ℕ) → Type 0
TakesFrom remaining None new bytes = bytes ≡ maybe.none
TakesFrom remaining (Some f) new bytes = IsSomeAnd new (λ g. (xs : List ℕ) × (bytes ≡ maybe.some xs) × Consumes (remaining f) (remaining g) xs)

-- The same of a file that was then closed.
abbrev pub TookFrom : {F : Type 0} → (F → Option (List ℕ)) → Option F → maybe.Option (List ℕ) → Type 0
TookFrom {F} remaining file bytes = (closed : Option F) × TakesFrom remaining file closed bytes
