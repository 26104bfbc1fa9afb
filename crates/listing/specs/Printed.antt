-- A program's deck file, and what a program prints.
use Rattle.std.specs.Prelude.{ℕ, ◌≡◌, Bool, false, ◌&&◌, List, ◌++◌, length, drop, leb, Option as Lent, Some, None}
use Rattle.std.specs.Borrow.{Bor}
use Rattle.std.proofs.Math.Option.{Option, none, some}
use Rattle.rules.specs.Program.{even}

-- A file's bytes, if there is one.
abbrev pub file_of : Lent (Bor (List ℕ)) → Option (List ℕ)
file_of (Some file) = some file.now
file_of None = none

-- The deck file is there, and its bytes are words, not too many.
abbrev pub deck_fits : Option (List ℕ) → Bool
deck_fits none = false
deck_fits (some bytes) = even bytes && leb (length bytes) 32768

-- A program's text: its n bytes stand at the start of the output, and after them what stood there before.
pub record Printed (text before : List ℕ) (n : ℕ) (after : List ℕ) : Type 0 where
  pub number : n ≡ length text
  pub bytes : after ≡ text ++ drop n before
