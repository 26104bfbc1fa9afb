-- The deck file's test.
use Rattle.std.proofs.Common.{◌≡◌, ℕ, List, Bor, Option as Lent, Some, None, ◌⊎◌, inl, inr, true, false, refl}
use Rattle.std.proofs.Math.Option.{none, some}
use Rattle.rules.specs.Refusals.{bad_header, refused, accepted, and_then, require, obtain}
use Rattle.rules.specs.Program.{words_from, deck_file}
use Rattle.listing.specs.Printed.{file_of, deck_fits}

deck_file-missing : deck_file none ≡ refused bad_header
unfolding deck_file and_then obtain
deck_file-missing = refl

deck_file-unfit : (bytes : List ℕ) → deck_fits (some bytes) ≡ false → deck_file (some bytes) ≡ refused bad_header
unfolding deck_file and_then require obtain
deck_file-unfit bytes e = rw e

pub deck_file-refused : (file : Lent (Bor (List ℕ))) → (file ≡ None) ⊎ ((bytes : Bor (List ℕ)) × (file ≡ Some bytes) × (deck_fits (some bytes.now) ≡ false))
    → deck_file (file_of file) ≡ refused bad_header
deck_file-refused file (inl e) = rw e deck_file-missing
deck_file-refused file (inr (bytes, e, f)) = rw e (deck_file-unfit bytes.now f)

pub deck_file-fit : (bytes : List ℕ) → deck_fits (some bytes) ≡ true → deck_file (some bytes) ≡ accepted (words_from bytes)
unfolding deck_file and_then require obtain
deck_file-fit bytes e = rw e
