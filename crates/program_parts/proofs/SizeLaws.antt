-- The size of bytes that are words, so many at least and at most.
use Rattle.std.proofs.Common.{◌≡◌, ℕ, ◌≤◌, List, Bool, true, false, ◌&&◌, leb, length, refl}
use mathlib.Core.Bool.{false≢true}
use borrow.Author.Tests.{leb-true}
use Rattle.rules.specs.Program.{even}

both : (a b : Bool) → (a && b) ≡ true → (a ≡ true) × (b ≡ true)
both true b e = (refl, e)
both false b e = absurd (false≢true e)

pub words-size : (bytes : List ℕ) (least most : ℕ) → (even bytes && (leb least (length bytes) && leb (length bytes) most)) ≡ true → (least ≤ length bytes) × (length bytes ≤ most)
words-size bytes least most e =
    let s = both (leb least (length bytes)) _ (both (even bytes) _ e).1 in
    (leb-true least (length bytes) s.0, leb-true (length bytes) most s.1)
