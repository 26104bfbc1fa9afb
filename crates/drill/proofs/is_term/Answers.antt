-- `is_term` meets its contract. Assumes nothing.
use mathlib.Core.Path.{sym, ◌∙◌}
use native.Mathlib.Omega.{arith}
use Rattle.deck.specs.Kinds.{symbols_of}
use Rattle.drill.proofs.WordLaws.{fills-closed, fills-unknown, fills-predicate, fills-functor, fills-end}
use Rattle.drill.proofs.is_term.Goals as goal

pub returns-in_default : goal.returns-in_default
returns-in_default c =
    let l = c.loop-cell in
    sym (fills-closed c.args.symbols.now c.args.cells.now l.cell-index l.places c.loop-cell-test.true (omega (arith, c.in_default.ensures))) ∙ l.invariant.1

pub returns-then-count-f : goal.returns-then-count-f
returns-then-count-f c =
    let l = c.loop-cell in
    sym (fills-unknown c.args.symbols.now c.args.cells.now l.cell-index l.places c.loop-cell-test.true c.from-f.result c.from-f.ensures c.in-Some.ensures.0 (omega (arith, c.if-count-f.true, c.count.ensures)))
    ∙ l.invariant.1

pub returns-then-is_predicate : goal.returns-then-is_predicate
returns-then-is_predicate c =
    let l = c.loop-cell in
    sym (fills-predicate c.args.symbols.now c.args.cells.now l.cell-index l.places c.loop-cell-test.true c.from-f.result c.from-f.ensures c.in-Some.ensures.0 (omega (arith, c.if-count-f.false, c.count.ensures)) (sym c.if-is_predicate.ensures))
    ∙ l.invariant.1

pub loop-cell-preserved : goal.loop-cell-preserved
loop-cell-preserved c =
    let l = c.loop-cell in (
      omega (arith, c.arity.ensures, c.in-Some.ensures, l.invariant.0),
      rw (c.arity.ensures, c.in-Some.ensures.1)
          (sym (fills-functor c.args.symbols.now c.args.cells.now l.cell-index l.places c.loop-cell-test.true c.from-f.result c.from-f.ensures c.in-Some.ensures.0 (omega (arith, c.if-count-f.false, c.count.ensures)) (sym c.if-is_predicate.ensures))
          ∙ l.invariant.1),
    )

pub returns : goal.returns
returns c =
    let l = c.loop-cell in
    sym (fills-end (symbols_of c.args.symbols.now) c.args.cells.now l.cell-index l.places (omega (arith, l.auto.cell-index-end, c.loop-cell-test.false))) ∙ l.invariant.1
