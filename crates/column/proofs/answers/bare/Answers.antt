-- `bare`: the first of the goals that are left, and the others.
use Prim.Native.Nat.{◌+◌, ◌-◌}
use mathlib.Core.Path.{◌≡◌, refl, sym, ◌∙◌, ap, subst}
use mathlib.Core.List.{List}
use native.Mathlib.Omega.{arith}
use lib.ListN.{length, drop, take, length-drop}
use lib.Seq.{take_all}
use Rattle.rules.specs.Terms.{sizes}
use Rattle.rules.specs.Syntax.{Goal}
use Rattle.rules.specs.Goals.{goal_words}
use Rattle.column.specs.Entries.{GoalsAt}
use Rattle.column.proofs.ListLaws.{GoalHere, goal-here, bare-goal, full-goal, bare-more, bare-ends, bare-none, all_bare}
use Rattle.column.proofs.answers.bare.Goals as goal
use Rattle.column.proofs.answers.bare.Goals.{In-loop-i}

pub loop-i-init : goal.loop-i-init
loop-i-init c = λ gs a e. record { others = gs; standing = a; many = omega (arith, e); left = refl }

module _ (c : In-loop-i) (gs : List Goal) (a : GoalsAt c.args.list.now gs) (e : length gs ≡ c.args.count) where
  here : GoalHere c.loop-i.rest.now (c.loop-i.invariant gs a e).others
  here = let l = c.loop-i.invariant gs a e in goal-here _ l.others l.standing (λ z. omega (arith, l.many))

pub bounds-rest-0 : goal.bounds-rest-0
bounds-rest-0 c = let r = c.requires in let h = here (goal.at.bounds-rest-0 c).In-loop-i r.0 r.1 r.2 in omega (arith, h.least, h.fits)

pub bounds-rest-1 : goal.bounds-rest-1
bounds-rest-1 c = let r = c.requires in let h = here (goal.at.bounds-rest-1 c).In-loop-i r.0 r.1 r.2 in omega (arith, h.least, h.fits)

pub returns-then-words-from : goal.returns-then-words-from
returns-then-words-from c = λ gs a e.
    let i = (goal.at.returns-then-words-from c).In-loop-i in
    let h = here i gs a e in
    let l = c.loop-i.invariant gs a e in
    let other : goal_words h.goal ≡ sizes h.goal.answer_terms + 2 → ⊥ = λ q. omega (arith, c.if-words-from.true, h.word, h.cells, q) in
    sym (l.left ∙ ap all_bare h.same ∙ bare-ends h.goal h.others (full-goal h.goal other))

pub slice_bounds-rest-count : goal.slice_bounds-rest-count
slice_bounds-rest-count c = let r = c.requires in let h = here (goal.at.slice_bounds-rest-count c).In-loop-i r.0 r.1 r.2 in omega (arith, h.word, h.fits)

pub slice_bounds-rest-start : goal.slice_bounds-rest-start
slice_bounds-rest-start c = let r = c.requires in let h = here (goal.at.slice_bounds-rest-start c).In-loop-i r.0 r.1 r.2 in omega (arith, h.word, h.fits)

pub loop-i-preserved : goal.loop-i-preserved
loop-i-preserved c = λ gs a e.
    let i = (goal.at.loop-i-preserved c).In-loop-i in
    let h = here i gs a e in
    let l = c.loop-i.invariant gs a e in
    let same : goal_words h.goal ≡ sizes h.goal.answer_terms + 2 = omega (arith, h.word, h.cells, c.if-words-from.false) in
    let rest = c.loop-i.rest.now in
    let n = c.from-words.result in
    let word : n ≡ goal_words h.goal = omega (arith, h.word) in
    let all : take (length rest - n) (drop n rest) ≡ drop n rest = take_all (length rest - n) (drop n rest) (omega (arith, length-drop n rest)) in
    record {
      others = h.others;
      standing = subst (λ r. GoalsAt r h.others) (sym (all ∙ ap (λ k. drop k rest) word)) h.after;
      many = omega (arith, l.many, ap length h.same);
      left = l.left ∙ ap all_bare h.same ∙ bare-more h.goal h.others (bare-goal h.goal same);
    }

pub returns : goal.returns
returns c = λ gs a e.
    let l = c.loop-i.invariant gs a e in
    sym (l.left ∙ bare-none l.others (omega (arith, l.many, c.loop-i-test.false)))
