-- The first answer of those that a list begins with: its cells and its entry.
use Prim.Native.Nat.{ℕ, ◌-◌, ◌≤◌, ◌<◌}
use mathlib.Core.Path.{◌≡◌, subst}
use mathlib.Core.List.{List, ◌∷◌}
use native.Mathlib.Omega.{arith}
use lib.ListN.{length, get_or, take, drop}
use Rattle.rules.specs.Terms.{count}
use Rattle.rules.specs.Syntax.{Goal}
use Rattle.rules.specs.WellFormed.{All, WfGoal}
use Rattle.rules.proofs.GoalLaws.{goal-words}
use Rattle.listing.proofs.AnswerLaws.{AnswerHere, row-here}
use Rattle.column.specs.Entries.{EntryAt, ColumnAt}

module _ {symbols list : List ℕ} {gs : List Goal} {place : ℕ} (h : AnswerHere symbols list gs) (a : ColumnAt symbols list gs place) where
  inside : All (λ g. place < count g.answer_terms) (h.goal ∷ h.others)
  inside = subst (All (λ g. place < count g.answer_terms)) h.same a.inside

  pub column-after : ColumnAt symbols (drop (get_or list 0 0) list) h.others place
  column-after = record { answers = h.after; inside = inside.1 }

  pub entry-here :
      {answer : List ℕ} → answer ≡ take (get_or list 0 0) list → let row = take (length answer - 2) (drop 2 answer) in
      (2 ≤ length answer) × EntryAt symbols row h.goal.answer_terms place
  entry-here e =
      let r = row-here h e in
      let f = subst (All (WfGoal a.answers.symbols)) h.same a.answers.formed in
      let few = f.0.short in
      (r.0, record { terms = r.1; many = r.2; short = omega (arith, r.2, goal-words h.goal, few); inside = inside.0 })
