-- A name joins the table, or is there already.
use Prim.Native.Nat.{◌<◌}
use mathlib.Core.Path.{refl, ap, sym, ◌∙◌}
use native.Mathlib.Omega.{arith}
use borrow.Author.Tests.{eqb-true}
use lib.ListN.{length}
use Rattle.text.specs.Names.{no_entry}
use Rattle.uses.proofs.GatherLaws.{found_inside, noted-again, noted-new}
use Rattle.uses.proofs.gathering.note.Goals as goal

pub get-requires : goal.get-requires
get-requires c = (omega arith, found_inside _ _ _ c.in-Some.ensures.last)

pub returns-in-Some : goal.returns-in-Some
returns-in-Some c =
    let a = c.args in
    let j = c.in-Some.j in
    let found = rw c.text-text.ensures at c.in-Some.ensures.last in
    let there : j < length a.names.now.entries = found_inside _ _ _ c.in-Some.ensures.last in
    record {
      text = refl;
      more = λ q start at G N. noted-again a.names.now start at G a.u N j found (ap (λ (x : _). x.value) (sym (c.get.ensures.equal no_entry)) ∙ eqb-true _ _ q);
      full = λ q. (refl, omega arith);
    }

pub returns : goal.returns
returns c =
    let a = c.args in
    let unfound = rw c.text-text.ensures at c.in_default.ensures.last in
    let less : length a.names.now.entries < 4096 = omega (arith, c.len.ensures.equal, c.len.ensures.few, c.if-len-eq4096.false) in
    record {
      text = ap (λ (x : _). x.text) c.enter.ensures;
      more = λ q start at G N. rw c.enter.ensures (noted-new a.names.now start at G a.u N unfound less);
      full = λ q. cc;
    }
