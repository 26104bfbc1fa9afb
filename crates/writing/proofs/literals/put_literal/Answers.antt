-- By the first cell: a negated predicate after `~`, or a predicate.
use mathlib.Core.Path.{ap}
use mathlib.Core.List.{[], ◌∷◌}
use native.Mathlib.Omega.{arith}
use lib.ListN.{length, length-drop}
use Rattle.rules.specs.Terms.{sizes}
use Rattle.listing.proofs.PutLaws.{all_left, left-room, rest-room, put_some, put_last}
use Rattle.listing.proofs.StandLaws.{with-arity}
use Rattle.writing.proofs.LiteralLaws.{positive-here, negative-here, literal-inside}
use Rattle.writing.proofs.literals.put_literal.Goals as goal

pub next-cell-requires : goal.next-cell-requires
next-cell-requires c = literal-inside _ _ c.requires.0 c.requires.1 c.requires.2

pub put-requires : goal.put-requires
put-requires c =
    let r = c.requires in
    let h = negative-here _ _ _ c.next-cell.ensures r.0 r.1 r.2 c.if-cell-ge-NEGATED.true in
    left-room (126 ∷ []) _ (all_left c.args.out.now h.text) r.3

pub arity-arity-requires : goal.arity-arity-requires
arity-arity-requires c =
    let r = c.requires in
    let h = negative-here _ _ _ c.next-cell.ensures r.0 r.1 r.2 c.if-cell-ge-NEGATED.true in
    rw c.from.ensures h.atom.known

pub put_applied-requires : goal.put_applied-requires
put_applied-requires c =
    let r = c.requires in
    let h = negative-here _ _ _ c.next-cell.ensures r.0 r.1 r.2 c.if-cell-ge-NEGATED.true in
    (h.terms, with-arity c.arity-arity.ensures c.from.ensures h.atom, rest-room (put_some (all_left c.args.out.now h.text) c.put.ensures) r.3)

pub returns-then-cell-ge-NEGATED : goal.returns-then-cell-ge-NEGATED
returns-then-cell-ge-NEGATED c = λ l ls a.
    let h = negative-here _ _ _ c.next-cell.ensures l ls a c.if-cell-ge-NEGATED.true in
    let w = c.put_applied.ensures h.terms (with-arity c.arity-arity.ensures c.from.ensures h.atom) in
    record {
      adds = put_last (put_some (all_left c.args.out.now h.text) c.put.ensures) w.adds;
      forward = omega (arith, ap length c.next-cell.ensures, ap length w.passed, length-drop (sizes h.terms) c.next-cell.new.cells.now);
      others = rw w.passed h.after;
    }

pub arity-arity-requires-2 : goal.arity-arity-requires-2
arity-arity-requires-2 c =
    let r = c.requires in
    let h = positive-here _ _ _ c.next-cell.ensures r.0 r.1 r.2 c.if-cell-ge-NEGATED.false in
    rw c.from-2.ensures h.atom.known

pub put_applied-requires-2 : goal.put_applied-requires-2
put_applied-requires-2 c =
    let r = c.requires in
    let h = positive-here _ _ _ c.next-cell.ensures r.0 r.1 r.2 c.if-cell-ge-NEGATED.false in
    (h.terms, with-arity c.arity-arity-2.ensures c.from-2.ensures h.atom, rw h.text at r.3)

pub returns : goal.returns
returns c = λ l ls a.
    let h = positive-here _ _ _ c.next-cell.ensures l ls a c.if-cell-ge-NEGATED.false in
    let w = c.put_applied-2.ensures h.terms (with-arity c.arity-arity-2.ensures c.from-2.ensures h.atom) in
    record {
      adds = rw h.text w.adds;
      forward = omega (arith, ap length c.next-cell.ensures, ap length w.passed, length-drop (sizes h.terms) c.next-cell.new.cells.now);
      others = rw w.passed h.after;
    }
