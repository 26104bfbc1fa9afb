-- Texts put one after another.
use Prim.Native.Nat.{ℕ, ◌+◌, ◌≤◌}
use mathlib.Core.Path.{◌≡◌, refl, ap, sym, ◌∙◌}
use mathlib.Core.List.{List, [], ◌∷◌, ◌++◌}
use native.Mathlib.Omega.{arith}
use lib.ListN.{length, take, drop, set, length-append}
use lib.Seq.{sets, sets-eq, length-sets, take_at}
use Rattle.words.proofs.Sets.{sets-append}
use Rattle.listing.specs.declared.output.Output.{Output}
use Rattle.listing.specs.Put.{Put, Fits, Adds}

pub put-nothing : (out : List ℕ) (at : ℕ) → Put out at [] at out
put-nothing out at = record { place = omega arith; bytes = refl }

pub put_then :
    {out : List ℕ} {at : ℕ} {xs : List ℕ} {p : ℕ} {between ys : List ℕ} {end : ℕ} {after : List ℕ}
    → Put out at xs p between → Put between p ys end after → Put out at (xs ++ ys) end after
put_then {out} {at} {xs} {p} {between} {ys} a b = record {
  place = omega (arith, a.place, b.place, length-append xs ys);
  bytes = b.bytes ∙ rw (a.bytes, a.place, sets-append);
}

pub put-length : {out : List ℕ} {at : ℕ} {xs : List ℕ} {end : ℕ} {after : List ℕ} → Put out at xs end after → length after ≡ length out
put-length {out} {at} {xs} a = ap length a.bytes ∙ length-sets out at xs

-- A list written one by one.
pub put_next : {out xs : List ℕ} {p : ℕ} {after : List ℕ} (b : ℕ) → Put out 0 xs p after → Put out 0 (xs ++ (b ∷ [])) (p + 1) (set after p b)
put_next {p} {after} b a = put_then a (record { place = refl; bytes = refl })

-- One after another.
pub adds_nothing : (out : Output) → Adds out [] out
adds_nothing out = record { put = put-nothing out.bytes.now out.at; same_reference = refl }

pub adds_then : {out : Output} {xs : List ℕ} {between : Output} {ys : List ℕ} {after : Output} → Adds out xs between → Adds between ys after → Adds out (xs ++ ys) after
adds_then a b = record { put = put_then a.put b.put; same_reference = b.same_reference ∙ a.same_reference }

pub adds-length : {out : Output} {xs : List ℕ} {after : Output} → Adds out xs after → length after.bytes.now ≡ length out.bytes.now
adds-length a = put-length a.put

-- An output that a text was added to from the start on, and that holds what the bytes then are.
pub put_at_start :
    {bytes : List ℕ} {out : Output} {text : List ℕ} {after : Output} {left : List ℕ}
    → out.bytes.now ≡ bytes → out.at ≡ 0 → Adds out text after → left ≡ after.bytes.now → Put bytes 0 text after.at left
put_at_start {text} b z a e = rw (← b, ← z, e) a.put

-- A text of which `rest` is still to be put.
pub record Left (before : Output) (whole : List ℕ) (out : Output) (rest : List ℕ) : Type 0 where
  pub place : out.at + length rest ≡ before.at + length whole
  pub size : length out.bytes.now ≡ length before.bytes.now
  pub bytes : sets out.bytes.now out.at rest ≡ sets before.bytes.now before.at whole
  pub same_reference : out.bytes.ghost_name ≡ before.bytes.ghost_name

pub all_left : (out : Output) {text rest : List ℕ} → text ≡ rest → Left out text out rest
all_left out e = record {
  place = ap (λ (l : List ℕ). out.at + length l) (sym e);
  size = refl;
  bytes = ap (sets out.bytes.now out.at) (sym e);
  same_reference = refl;
}

pub put_some :
    {before : Output} {whole : List ℕ} {out : Output} {xs ys : List ℕ} {after : Output}
    → Left before whole out (xs ++ ys) → Adds out xs after → Left before whole after ys
put_some {xs} {ys} l a = record {
  place = omega (arith, l.place, a.put.place, length-append xs ys);
  size = adds-length a ∙ l.size;
  bytes = rw (a.put.bytes, a.put.place, sets-append) l.bytes;
  same_reference = a.same_reference ∙ l.same_reference;
}

pub none_left : {before : Output} {whole : List ℕ} {out : Output} → Left before whole out [] → Adds before whole out
none_left l = record { put = record { place = omega (arith, l.place); bytes = l.bytes }; same_reference = l.same_reference }

pub put_last :
    {before : Output} {whole : List ℕ} {out : Output} {rest : List ℕ} {after : Output}
    → Left before whole out rest → Adds out rest after → Adds before whole after
put_last l a = record {
  put = record { place = a.put.place ∙ l.place; bytes = a.put.bytes ∙ l.bytes };
  same_reference = a.same_reference ∙ l.same_reference;
}

-- There is room for what is left, if there was for the whole.
pub left-room :
    {before : Output} {whole : List ℕ} {out : Output} (xs ys : List ℕ)
    → Left before whole out (xs ++ ys) → Fits before whole → Fits out xs
left-room xs ys l h = omega (arith, l.place, l.size, length-append xs ys)

pub rest-room : {before : Output} {whole : List ℕ} {out : Output} {rest : List ℕ} → Left before whole out rest → Fits before whole → Fits out rest
rest-room l h = omega (arith, l.place, l.size, h)

-- A text put at the start is what stands before the place returned.
pub put_whole : {out text : List ℕ} {end : ℕ} {after : List ℕ} → Put out 0 text end after → length text ≤ length out → take end after ≡ text
put_whole {out} {text} a h =
    let z : 0 + length text ≡ length text = omega arith in
    rw (a.place, a.bytes, sets-eq text out 0 (rw z h), z) (take_at text (drop (length text) out) (length text) refl)

-- What is written can be lent; of an output that was empty it is the text.
pub written-room : {out : Output} {text : List ℕ} {after : Output} → Fits out text → Adds out text after → after.at ≤ length after.bytes.now
written-room h a = omega (arith, h, a.put.place, adds-length a)

pub written-text :
    {out : Output} {text : List ℕ} {after : Output} → out.at ≡ 0 → Fits out text → Adds out text after → take after.at after.bytes.now ≡ text
written-text {text} z h a = put_whole (rw z at a.put) (omega (arith, h, z))
