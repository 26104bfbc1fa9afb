-- Terms after spaces.
use mathlib.Core.Path.{ap, sym, ◌∙◌}
use mathlib.Core.List.{[], ◌∷◌}
use native.Mathlib.Omega.{arith}
use Rattle.std.proofs.Common.{false-eqb}
use Rattle.std.proofs.lemmas.Bool.{eqb-true}
use lib.ListN.{length, length-drop}
use Rattle.rules.specs.Terms.{size}
use Rattle.listing.specs.Standing.{show_term}
use Rattle.listing.proofs.PutLaws.{left-room, put_some, none_left}
use Rattle.listing.proofs.StandLaws.{size-positive}
use Rattle.listing.proofs.RowLaws.{next, spaced, passed_one, ended}
use Rattle.listing.proofs.answers.put_spaced.Goals as goal

pub put-requires : goal.put-requires
put-requires c =
    let r = c.requires in
    left-room (32 ∷ []) _ (spaced (c.loop-cells.invariant r.0 r.1 r.2) (false-eqb _ 0 c.loop-cells-test.ensures)) r.3

pub put_term-requires : goal.put_term-requires
put_term-requires c =
    let r = c.requires in
    let l = c.loop-cells.invariant r.0 r.1 r.2 in
    let n = next l (false-eqb _ 0 c.loop-cells-test.ensures) in
    (n.first, n.here, left-room (show_term 118 n.first []) _ (put_some (spaced l (false-eqb _ 0 c.loop-cells-test.ensures)) c.put.ensures) r.3)

pub loop-cells-smaller : goal.loop-cells-smaller
loop-cells-smaller c =
    let r = c.requires in
    let n = next (c.loop-cells.invariant r.0 r.1 r.2) (false-eqb _ 0 c.loop-cells-test.ensures) in
    omega (arith, false-eqb _ 0 c.loop-cells-test.ensures, ap length (c.put_term.ensures n.first n.here).passed, length-drop (size n.first) c.loop-cells.cells.now, size-positive n.first)

pub loop-cells-preserved : goal.loop-cells-preserved
loop-cells-preserved c = λ ts a e.
    let l = c.loop-cells.invariant ts a e in
    let n = next l (false-eqb _ 0 c.loop-cells-test.ensures) in
    passed_one l (false-eqb _ 0 c.loop-cells-test.ensures) c.put.ensures (c.put_term.ensures n.first n.here)

pub returns : goal.returns
returns c = λ ts a e. none_left (ended (c.loop-cells.invariant ts a e) (eqb-true _ 0 (sym c.is_empty.ensures ∙ c.loop-cells-test.false)))
