-- `count_goals`: from one goal to the next by their lengths.
use mathlib.Core.List.{List}
use native.Mathlib.Omega.{arith}
use lib.ListN.{length-drop}
use Rattle.rules.specs.Syntax.{Symbol}
use Rattle.rules.specs.Goals.{Marked}
use Rattle.top_level.specs.Top.{Written}
use Rattle.top_level.proofs.StoredLaws.{part-all}
use Rattle.top_level.proofs.CountLaws.{Further, passed_none, passed-more, passed-all}
use Rattle.top_level.proofs.count_goals.Goals as goal
use Rattle.top_level.proofs.count_goals.Goals.{After-from}

-- The next goal, of those that the words are, and of those that are known to be there.
next : (c : goal.After-from) → let l = c.loop-rest in (S : List Symbol) (ms : List Marked) → Written S c.args.words.now ms → Further S l.rest.now l.n c.from.result ms
next c S ms w = passed-more _ (c.loop-rest.invariant.1 S ms w) c.in-len1-up.len_at_least c.from.ensures

known : (c : goal.After-from) → let l = c.loop-rest in Further c.requires.symbols l.rest.now l.n c.from.result c.requires.goals
known c = next c c.requires.symbols c.requires.goals c.requires.written

pub loop-rest-init : goal.loop-rest-init
loop-rest-init c = (omega arith, λ S ms w. passed_none w)

pub slice_bounds-rest-count : goal.slice_bounds-rest-count
slice_bounds-rest-count c = (known (goal.at.slice_bounds-rest-count c).After-from).inside

pub slice_bounds-rest-start : goal.slice_bounds-rest-start
slice_bounds-rest-start c = omega (arith, (known (goal.at.slice_bounds-rest-start c).After-from).inside)

pub loop-rest-smaller : goal.loop-rest-smaller
loop-rest-smaller c =
    let k = known (goal.at.loop-rest-smaller c).After-from in
    let r = c.loop-rest.rest.now in
    rw (part-all r c.from.result k.inside) (omega (arith, length-drop c.from.result r, k.least, k.inside))

pub loop-rest-preserved : goal.loop-rest-preserved
loop-rest-preserved c =
    let k = known (goal.at.loop-rest-preserved c).After-from in
    let r = c.loop-rest.rest.now in
    rw (part-all r c.from.result k.inside)
    (omega (arith, c.loop-rest.invariant.0, length-drop c.from.result r, k.least, k.inside), λ S ms w. (next (goal.at.loop-rest-preserved c).After-from S ms w).passed)

pub returns-clause-count : goal.returns-clause-count
returns-clause-count c = λ S ms w. passed-all (c.loop-rest.invariant.1 S ms w) (omega (arith, c.in_default.len_below))
