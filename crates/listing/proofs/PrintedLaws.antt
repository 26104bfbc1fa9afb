-- What was put at the start of a buffer is what its first bytes or words are.
use Prim.Native.Nat.{ℕ, ◌+◌, ◌*◌, ◌≤◌, ◌<◌}
use mathlib.Core.Path.{◌≡◌, ap, sym, ◌∙◌}
use mathlib.Core.Option.{some}
use mathlib.Core.Bool.{Bool, true, false, ◌&&◌, false≢true}
use mathlib.Core.List.{List, [], ◌∷◌}
use native.Mathlib.Omega.{arith}
use borrow.Author.Tests.{leb-true}
use lib.ListN.{length, take, drop, length-append}
use lib.Seq.{length-take-le, sets-eq}
use Rattle.rules.specs.Refusals.{Refusal, refusal_number, refused}
use Rattle.rules.specs.Listing.{refused_text, decimal, listing}
use Rattle.rules.specs.Program.{words_from, even}
use Rattle.listing.specs.Put.{Put}
use Rattle.listing.specs.Printed.{deck_fits, Printed}
use Rattle.listing.proofs.DigitLaws.{decimal-append, decimal-length}
use Rattle.listing.proofs.PutLaws.{put-length, put_whole}

pub put-printed : {out text : List ℕ} {end : ℕ} {after : List ℕ} → Put out 0 text end after → length text ≤ length out → Printed text out end after
put-printed {out} {text} a h =
    let z : 0 + length text ≡ length text = omega arith in
    record { number = a.place ∙ z; bytes = rw (a.bytes, a.place, sets-eq text out 0 (rw z h)) }

-- The bytes printed can be lent.
pub printed-lent : {text before : List ℕ} {n : ℕ} {after : List ℕ} → Printed text before n after → (n ≤ length after) × (n ≡ length (take n after))
printed-lent {text} {before} {n} {after} p =
    let l : n ≤ length after = omega (arith, p.number, ap length p.bytes, length-append text (drop n before)) in
    (l, sym (length-take-le n after l))

-- The line of a refusal.
line-short : (n : Refusal) → refusal_number n < 10000000000 → length (listing (refused n)) ≤ 19
unfolding listing refused_text
line-short n h =
    omega (
      arith,
      ap length (decimal-append (refusal_number n) [] (10 ∷ [])),
      length-append (decimal (refusal_number n) []) (10 ∷ []),
      decimal-length 9 (refusal_number n) h,
    )

pub line-printed :
    {out : List ℕ} {end : ℕ} {after : List ℕ} (n : Refusal) → refusal_number n < 10000000000 → Put out 0 (listing (refused n)) end after → 19 ≤ length out
    → Printed (listing (refused n)) out end after
line-printed n s a h = put-printed a (omega (arith, line-short n s))

-- The deck file.
last-true : (a b : Bool) → a && b ≡ true → b ≡ true
last-true true b e = e
last-true false b e = absurd (false≢true e)

pub file-small : (bytes : List ℕ) → deck_fits (some bytes) ≡ true → length bytes ≤ 32768
file-small bytes e = leb-true (length bytes) 32768 (last-true (even bytes) _ e)

-- The words of bytes.
words-length : (bytes : List ℕ) → 2 * length (words_from bytes) ≤ length bytes
unfolding words_from
words-length [] = omega arith
words-length (low ∷ []) = omega arith
words-length (low ∷ high ∷ bytes) = omega (arith, words-length bytes)

pub words-read :
    (bytes : List ℕ) {words : List ℕ} {n : ℕ} {after : List ℕ} → Put words 0 (words_from bytes) n after → length bytes ≤ 2 * length words
    → (n ≤ length after) × (take n after ≡ words_from bytes)
words-read bytes a h = (omega (arith, a.place, put-length a, words-length bytes), put_whole a (omega (arith, words-length bytes)))
