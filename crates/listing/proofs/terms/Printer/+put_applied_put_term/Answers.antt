-- A term and a symbol with its arguments: whatever the cells begin with is what is printed.
use mathlib.Core.Path.{refl, ap, ◌∙◌}
use mathlib.Core.List.{[], ◌∷◌}
use native.Mathlib.Omega.{arith}
use lib.ListN.{length, length-drop}
use Rattle.rules.specs.Terms.{size}
use Rattle.rules.specs.Listing.{decimal}
use Rattle.listing.specs.Standing.{show_term}
use Rattle.listing.proofs.PutLaws.{all_left, left-room, rest-room, put_some, put_last}
use Rattle.listing.proofs.PrintLaws.{no_arguments, name-apart}
use Rattle.listing.proofs.StandLaws.{term-inside, variable-text, functor-text, after-cell, with-arity}
use Rattle.listing.proofs.ArgumentLaws.{first, named, begun, next, comma, passed_one, closing}
use Rattle.listing.proofs.terms.Printer.+put_applied_put_term.Goals as goal

pub put_applied-put_prefixed-requires : goal.put_applied-put_prefixed-requires
put_applied-put_prefixed-requires t c =
    rw c.from.ensures (left-room (115 ∷ decimal c.args.symbol []) _ (all_left c.args.out.now (name-apart c.args.self.now.sign c.args.symbol c.requires.0)) c.requires.2)

pub put_applied-returns-then-arity-eq0 : goal.put_applied-returns-then-arity-eq0
put_applied-returns-then-arity-eq0 t c = λ ts a.
    let z = no_arguments c.args.self.now.sign c.args.symbol ts (a.many ∙ c.if-arity-eq0.true) in
    record { adds = rw (z.0, ← c.from.ensures) c.put_prefixed.ensures; passed = rw z.1 refl }

pub put_applied-put-requires : goal.put_applied-put-requires
put_applied-put-requires t c =
    left-room (40 ∷ []) _
    (named c.args.self.now.sign c.args.symbol c.if-arity-eq0.false c.requires.0 c.requires.1 (rw c.from.ensures at c.put_prefixed.ensures)) c.requires.2

pub put_applied-put_term-requires : goal.put_applied-put_term-requires
put_applied-put_term-requires t c =
    let n = first c.args.self.now.sign c.args.symbol c.if-arity-eq0.false c.requires.0 c.requires.1 in
    let l = named c.args.self.now.sign c.args.symbol c.if-arity-eq0.false c.requires.0 c.requires.1 (rw c.from.ensures at c.put_prefixed.ensures) in
    (omega (arith, c.decreases), (n.first, n.here, left-room (show_term c.args.self.now.sign n.first []) _ (put_some l c.put.ensures) c.requires.2))

pub put_applied-loop-i-init : goal.put_applied-loop-i-init
put_applied-loop-i-init t c = (
  let n = first c.args.self.now.sign c.args.symbol c.if-arity-eq0.false c.requires.0 c.requires.1 in
      omega (arith, ap length (c.put_term.ensures n.first n.here).passed, length-drop (size n.first) c.args.cells.now.now),
  λ ts a.
      let n = first c.args.self.now.sign c.args.symbol c.if-arity-eq0.false ts a in
      begun c.args.self.now.sign c.args.symbol c.if-arity-eq0.false ts a (rw c.from.ensures at c.put_prefixed.ensures) c.put.ensures
      (c.put_term.ensures n.first n.here),
)

pub put_applied-put-requires-in-loop-i : goal.put_applied-put-requires-in-loop-i
put_applied-put-requires-in-loop-i t c = left-room (44 ∷ []) _ (comma (c.loop-i.invariant.1 c.requires.0 c.requires.1) (omega arith)) c.requires.2

pub put_applied-put_term-requires-in-loop-i : goal.put_applied-put_term-requires-in-loop-i
put_applied-put_term-requires-in-loop-i t c =
    let l = c.loop-i.invariant.1 c.requires.0 c.requires.1 in
    let n = next l (omega arith) in (
      omega (arith, c.decreases, c.loop-i.invariant.0),
      (n.first, n.here, left-room (show_term c.args.self.now.sign n.first []) _ (put_some (comma l (omega arith)) c.put-in-loop-i.ensures) c.requires.2),
    )

pub put_applied-loop-i-preserved : goal.put_applied-loop-i-preserved
put_applied-loop-i-preserved t c = (
  let n = next (c.loop-i.invariant.1 c.requires.0 c.requires.1) (omega arith) in
      omega (arith, c.loop-i.invariant.0, ap length (c.put_term-in-loop-i.ensures n.first n.here).passed, length-drop (size n.first) c.loop-i.cells.now),
  λ ts a.
      let l = c.loop-i.invariant.1 ts a in
      let n = next l (omega arith) in
      passed_one l (omega arith) c.put-in-loop-i.ensures (c.put_term-in-loop-i.ensures n.first n.here),
)

pub put_applied-put-requires-2 : goal.put_applied-put-requires-2
put_applied-put-requires-2 t c = rest-room (closing (c.loop-i.invariant.1 c.requires.0 c.requires.1) (omega arith)).0 c.requires.2

pub put_applied-returns : goal.put_applied-returns
put_applied-returns t c = λ ts a.
    let k = closing (c.loop-i.invariant.1 ts a) (omega arith) in
    record { adds = put_last k.0 c.put-2.ensures; passed = k.1 }

pub put_term-next-cell-requires : goal.put_term-next-cell-requires
put_term-next-cell-requires t c = term-inside c.args.self.now.symbols.now c.args.cells.now.now c.requires.0 c.requires.1

pub put_term-put_prefixed-requires : goal.put_term-put_prefixed-requires
put_term-put_prefixed-requires t c =
    rw c.from.ensures (rw (variable-text _ _ _ c.next-cell.ensures c.args.self.now.sign c.requires.0 c.requires.1 c.if-cell-ge-VARIABLE.true).0 at c.requires.2)

pub put_term-returns-then-cell-ge-VARIABLE : goal.put_term-returns-then-cell-ge-VARIABLE
put_term-returns-then-cell-ge-VARIABLE t c = λ u a.
    let v = variable-text _ _ _ c.next-cell.ensures c.args.self.now.sign u a c.if-cell-ge-VARIABLE.true in
    record { adds = rw (v.0, ← c.from.ensures) c.put_prefixed.ensures; passed = v.1 }

pub put_term-arity-arity-requires : goal.put_term-arity-arity-requires
put_term-arity-arity-requires t c =
    let f = functor-text _ _ _ c.next-cell.ensures c.requires.0 c.requires.1 c.if-cell-ge-VARIABLE.false in
    rw c.from-2.ensures f.standing.known

pub put_term-put_applied-requires : goal.put_term-put_applied-requires
put_term-put_applied-requires t c =
    let f = functor-text _ _ _ c.next-cell.ensures c.requires.0 c.requires.1 c.if-cell-ge-VARIABLE.false in
    (omega (arith, c.decreases, ap length c.next-cell.ensures), (f.arguments, with-arity c.arity-arity.ensures c.from-2.ensures f.standing, rw f.term at c.requires.2))

pub put_term-returns : goal.put_term-returns
put_term-returns t c = λ u a.
    let f = functor-text _ _ _ c.next-cell.ensures u a c.if-cell-ge-VARIABLE.false in
    let w = c.put_applied.ensures f.arguments (with-arity c.arity-arity.ensures c.from-2.ensures f.standing) in
    record { adds = rw f.term w.adds; passed = w.passed ∙ after-cell c.next-cell.ensures f.whole }
