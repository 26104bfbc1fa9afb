-- The last pair of the row has one argument more, or nothing changes.
use Prim.Native.Nat.{◌+◌, ◌-◌, ◌<◌}
use mathlib.Core.Path.{◌≡◌, sym, ◌∙◌}
use native.Mathlib.Omega.{arith}
use lib.ListN.{length, get_or}
use Rattle.std.specs.Prelude.{Some, None}
use Rattle.std.specs.List.{slice_get}
use Rattle.std.proofs.lemmas.Option.{slice_get_within, get_or_from_slice_get}
use Rattle.uses.specs.Pairs.{told}
use Rattle.uses.proofs.BracketLaws.{comma-inside, comma-none, comma-pair, none_last}
use Rattle.uses.proofs.brackets.Counting.separated.Goals as goal

pub returns-then-self-ne0 : goal.returns-then-self-ne0
returns-then-self-ne0 c = λ all at to t ts k l C. comma-inside all at to _ _ _ _ t ts k l C c.if-self-ne0.true

pub returns-in-Some : goal.returns-in-Some
returns-in-Some c = λ all at to t ts k l C.
    let row = c.args.self.now.row.items in
    let last : slice_get row (length row - 1) ≡ Some c.in-Some.number = rw c.deref.ensures.0 at (sym c.last.ensures.value ∙ sym c.in-Some.ensures) in
    let within : length row - 1 < length row = slice_get_within row (length row - 1) c.in-Some.number last in
    let same : get_or row (length row - 1) 0 ≡ c.in-Some.number = get_or_from_slice_get row (length row - 1) c.in-Some.number 0 last in
    let pair = get_or row (length row - 1) 0 in
    let p : c.from-number.result ≡ pair = c.from-number.ensures ∙ sym same in
    let sum = rw p at c.saturating_add.ensures in
    let v : c.saturating_add.result ≡ told (get_or c.args.self.now.given pair 0 + 1) = omega (arith, sum) in
    rw (p, v) (comma-pair all at to _ _ _ _ t ts k l C (omega (arith, c.if-self-ne0.false)) (length row - 1) (omega (arith, within)))

pub returns-in_default : goal.returns-in_default
returns-in_default c = λ all at to t ts k l C.
    let row = c.args.self.now.row.items in
    let last : slice_get row (length row - 1) ≡ None = rw c.deref.ensures.0 at (sym c.last.ensures.value ∙ sym c.in_default.ensures) in
    comma-none all at to _ _ _ _ t ts k l C (none_last row last)
