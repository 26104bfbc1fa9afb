-- `add_named` meets its contract.
use Rattle.std.proofs.Common.{◌+◌, drop, get_or, sym, ap, ◌∙◌, arith}
use Rattle.std.proofs.lemmas.List.{at_drop_more, at_drop_all}
use Rattle.rules.specs.Goals.{appearing}
use Rattle.deck.specs.Kinds.{symbols_of}
use Rattle.rights.specs.Named.{named}
use Rattle.rights.proofs.BarLaws.{symbols-many}
use Rattle.rights.proofs.NamedLaws.{name-below, named-none, named-next, named-past}
use Rattle.rights.proofs.MarkLaws.{appearing-then, appearing-none}
use Rattle.rights.proofs.reached.Reached.add_named.Goals as goal
use Rattle.rights.proofs.reached.Reached.add_named.Goals.{in-Some, in_default}

pub add-requires : goal.add-requires
add-requires c =
    let S = symbols_of c.args.symbols.now in
    omega (arith, name-below S _ c.in-Some.p (sym c.named.ensures ∙ c.in-Some.is), symbols-many c.args.symbols.now, c.requires)

pub loop-cell-preserved : goal.loop-cell-preserved
loop-cell-preserved c =
    let S = symbols_of c.args.symbols.now in
    let cells = c.args.cells.now in
    let at = c.loop-cell.cell-index in
    let list = c.loop-cell.self.list.items in
    let more = at_drop_more (named S) cells at 0 (omega (arith, c.loop-cell-test.true)) in
    elim c.match-named.branch [
      | in-Some w ↦
          let e = named-next S (get_or cells at 0) (drop (at + 1) cells) w.in-Some.p (sym c.named.ensures ∙ w.in-Some.is) in
          rw w.self-is
          (ap (λ x. appearing x (named S (drop (at + 1) cells))) w.add.ensures
          ∙ appearing-then list _ (named S (drop (at + 1) cells)) ∙ ap (appearing list) (sym (more ∙ e)) ∙ c.loop-cell.invariant)
      | in_default w ↦
          let e = named-past S (get_or cells at 0) (drop (at + 1) cells) (sym c.named.ensures ∙ w.in_default.is) in
          rw w.self-is (ap (appearing list) (sym (more ∙ e)) ∙ c.loop-cell.invariant)
    ]

pub returns : goal.returns
returns c =
    let S = symbols_of c.args.symbols.now in
    let none = at_drop_all (named S) c.args.cells.now c.loop-cell.cell-index (omega (arith, c.loop-cell-test.false)) ∙ named-none S in
    sym (appearing-none c.loop-cell.self.list.items) ∙ ap (appearing c.loop-cell.self.list.items) (sym none) ∙ c.loop-cell.invariant
