-- What is printed of a press: the line, the numbers, and the goals' words.
use Prim.Native.Nat.{ℕ, ◌+◌, ◌≤◌}
use mathlib.Core.Path.{◌≡◌}
use mathlib.Core.List.{List, [], ◌∷◌, ◌++◌}
use native.Mathlib.Omega.{arith}
use lib.ListN.{length, length-append}
use Rattle.rules.specs.Evaluation.{finished, budget, answers, store}
use Rattle.rules.specs.Press.{Advance, stepped, prevented, Display}
use Rattle.rules.specs.Listing.{stop_text}
use Rattle.rules.specs.CarryProgram.{number_bytes}
use Rattle.listing.specs.declared.output.Output.{Output}
use Rattle.listing.specs.Put.{Adds}
use Rattle.listing.proofs.PutLaws.{adds_then, adds-length}
use Rattle.carry_program.proofs.OutputLaws.{number-length}
use Rattle.press_program.specs.PressProgram.{advance_text, numbers_bytes}

-- A line has at most nine bytes, and the numbers have 48.
pub line-short : (a : Advance) → length (advance_text a ++ (10 ∷ [])) ≤ 9
unfolding advance_text stop_text
line-short stepped = omega arith
line-short (prevented finished) = omega arith
line-short (prevented budget) = omega arith
line-short (prevented answers) = omega arith
line-short (prevented store) = omega arith

pub numbers-length : (d : Display) (terms : ℕ) → length (numbers_bytes d terms) ≡ 48
unfolding numbers_bytes
numbers-length d terms =
    let a = number_bytes 8 d.steps in
    let b = number_bytes 8 d.cost in
    let e = number_bytes 8 d.answers in
    let f = number_bytes 8 d.pending in
    let g = number_bytes 8 d.parked in
    let h = number_bytes 8 terms in
    omega (
      arith,
      length-append (a ++ b ++ e ++ f ++ g) h,
      length-append (a ++ b ++ e ++ f) g,
      length-append (a ++ b ++ e) f,
      length-append (a ++ b) e,
      length-append a b,
      number-length 8 d.steps,
      number-length 8 d.cost,
      number-length 8 d.answers,
      number-length 8 d.pending,
      number-length 8 d.parked,
      number-length 8 terms,
    )

-- The six numbers one after another.
pub numbers-add : (d : Display) (terms : ℕ) {out one two three four five after : Output} → Adds out (number_bytes 8 d.steps) one → Adds one (number_bytes 8 d.cost) two
    → Adds two (number_bytes 8 d.answers) three → Adds three (number_bytes 8 d.pending) four → Adds four (number_bytes 8 d.parked) five → Adds five (number_bytes 8 terms) after
    → Adds out (numbers_bytes d terms) after
unfolding numbers_bytes
numbers-add d terms a b c e f g = adds_then (adds_then (adds_then (adds_then (adds_then a b) c) e) f) g

-- The room that is left.
pub room-after : {out : Output} {text : List ℕ} {after : Output} (n k : ℕ) → Adds out text after → length text ≡ n → out.at + (n + k) ≤ length out.bytes.now
    → after.at + k ≤ length after.bytes.now
room-after n k a e h = omega (arith, e, h, a.put.place, adds-length a)
