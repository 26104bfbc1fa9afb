-- The pairs are counted as far as the loop has come.
use mathlib.Core.List.{List}
use Prim.Native.Nat.{ℕ, ◌+◌, ◌-◌, ◌<◌, ◌≤◌}
use mathlib.Core.Path.{◌≡◌, ap, sym, ◌∙◌, subst}
use native.Mathlib.Omega.{arith}
use borrow.Author.Tests.{eqb-true}
use lib.ListN.{length, length-drop, get_or, take, drop}
use Rattle.std.proofs.lemmas.List.{take_all}
use Rattle.uses.specs.Pairs.{mark_of, in_brackets}
use Rattle.uses.specs.Counting.{CountedBy}
use Rattle.uses.proofs.MarkLaws.{mark_token, marks, marks-next, marks-end, marks-numbers}
use Rattle.uses.proofs.BracketLaws.{given-full, given-all}
use Rattle.uses.proofs.brackets.count.Goals as goal
use Rattle.uses.proofs.brackets.count.Goals.{After-step}

-- The bytes that the loop goes over.
bytes : (text : List ℕ) (from : ℕ) → take (length text - from) (drop from text) ≡ drop from text
bytes text from = take_all _ _ (omega (arith, length-drop from text))

stepped : (c : goal.After-step) → let bs = drop c.args.from c.args.text.now in CountedBy (in_brackets (marks bs)) (c.loop-byte.byte-index + 1) c.step.new.self (marks (drop (c.loop-byte.byte-index + 1) bs))
stepped c =
    let bs = drop c.args.from c.args.text.now in
    let i = c.loop-byte.byte-index in
    let all = bytes c.args.text.now c.args.from in
    let inside : i < length bs = rw all at c.loop-byte-test.true in
    c.step.ensures (in_brackets (marks bs)) i (i + 1) (mark_token (get_or bs i 0)) (marks (drop (i + 1) bs)) (ap (λ l. mark_of (get_or l i 0)) (sym all)) (omega arith)
    (subst (CountedBy (in_brackets (marks bs)) i c.loop-byte.counting) (marks-next bs i inside) c.loop-byte.invariant)

pub returns-then-is_empty : goal.returns-then-is_empty
returns-then-is_empty c = λ i k ks l q.
    let bs = drop c.args.from c.args.text.now in
    let none : length c.step.new.self.row.items ≡ 0 = eqb-true _ _ (sym c.is_empty.ensures ∙ c.if-is_empty.true) in
    given-full _ _ _ _ _ (marks bs) _ (stepped (goal.at.returns-then-is_empty c).After-step) none c.if-counting-eq4096.true i k ks l (ap (drop i) (marks-numbers bs) ∙ q)

pub loop-byte-preserved : goal.loop-byte-preserved
loop-byte-preserved c = stepped (goal.at.loop-byte-preserved c).After-step

pub returns : goal.returns
returns c = λ i k ks l q.
    let bs = drop c.args.from c.args.text.now in
    let at = c.loop-byte.byte-index in
    let past : length bs ≤ at = rw (bytes c.args.text.now c.args.from) at c.loop-byte-test.false in
    let C : CountedBy (in_brackets (marks bs)) at c.loop-byte.counting _ = subst (CountedBy (in_brackets (marks bs)) at c.loop-byte.counting) (marks-end bs at past) c.loop-byte.invariant in
    given-all _ _ _ _ _ (marks bs) C i k ks l (ap (drop i) (marks-numbers bs) ∙ q)
