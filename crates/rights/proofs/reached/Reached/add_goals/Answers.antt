-- `add_goals` meets its contract.
use Rattle.std.proofs.Common.{ap, arith}
use Rattle.std.proofs.Common.{◌%◌}
use Rattle.deck.specs.Kinds.{symbols_of}
use Rattle.rights.proofs.GoalLaws.{NextGoal, left-all, left-next, left-none}
use Rattle.rights.proofs.reached.Reached.add_goals.Goals as goal
use Rattle.rights.proofs.reached.Reached.add_goals.Goals.{After-from}

pub loop-at-init : goal.loop-at-init
loop-at-init c = record { inside = omega arith; left = λ ms a. left-all (symbols_of c.args.symbols.now) c.args.goals.now ms c.args.self.now.list.items a }

-- The goal at the place, of those that the words are known to be.
next : (k : goal.After-from)
    → NextGoal (symbols_of k.args.symbols.now) k.args.goals.now k.requires.goals.goals k.args.self.now.list.items k.loop-at.self.list.items k.loop-at.at (k.from.result % 4096)
next k =
    left-next (symbols_of k.args.symbols.now) k.args.goals.now k.requires.goals.goals k.args.self.now.list.items k.loop-at.self.list.items k.loop-at.at
    (k.loop-at.invariant.left k.requires.goals.goals k.requires.goals.are) k.loop-at-test.true (k.from.result % 4096) (ap (λ x. x % 4096) k.from.ensures)

pub slice_bounds-add_named-count : goal.slice_bounds-add_named-count
slice_bounds-add_named-count c = let n = next (goal.at.slice_bounds-add_named-count c).After-from in omega (arith, n.few)

pub slice_bounds-add_named-start : goal.slice_bounds-add_named-start
slice_bounds-add_named-start c = let n = next (goal.at.slice_bounds-add_named-start c).After-from in omega (arith, n.few, n.inside)

pub slice_bounds-add_named-end : goal.slice_bounds-add_named-end
slice_bounds-add_named-end c = let n = next (goal.at.slice_bounds-add_named-end c).After-from in omega (arith, n.few, n.inside)

pub loop-at-preserved : goal.loop-at-preserved
loop-at-preserved c = record {
  inside = let n = next (goal.at.loop-at-preserved c).After-from in omega (arith, n.inside);
  left = λ ms a.
      let n = left-next (symbols_of c.args.symbols.now) c.args.goals.now ms c.args.self.now.list.items c.loop-at.self.list.items c.loop-at.at (c.loop-at.invariant.left ms a) c.loop-at-test.true
      (c.from.result % 4096) (ap (λ x. x % 4096) c.from.ensures) in
      n.after _ c.add_named.ensures;
}

pub loop-at-smaller : goal.loop-at-smaller
loop-at-smaller c = let n = next (goal.at.loop-at-smaller c).After-from in omega (arith, n.few, n.inside)

pub returns : goal.returns
returns c = λ ms a.
    left-none (symbols_of c.args.symbols.now) c.args.goals.now ms c.args.self.now.list.items c.loop-at.self.list.items c.loop-at.at (c.loop-at.invariant.left ms a) (omega (arith, c.loop-at-test.false))
