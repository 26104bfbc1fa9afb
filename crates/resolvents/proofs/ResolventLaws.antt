-- A resolvent's words: those of its terms, substituted and renumbered by first appearance.
use Prim.Native.Nat.{ℕ, ◌+◌}
use mathlib.Core.Path.{◌≡◌, refl, sym, ◌∙◌, ap, ap₂, subst}
use mathlib.Core.Option.{none, some}
use mathlib.Core.List.{List, [], ◌∷◌}
use native.Mathlib.Omega.{arith}
use lib.ListN.{length}
use Rattle.rules.specs.Terms.{Terms, ◌+++◌, sizes, renames}
use Rattle.rules.specs.Syntax.{Literal, Goal, map_goal, vars_goal}
use Rattle.rules.specs.Cells.{write_terms}
use Rattle.rules.specs.Goals.{pending, mark_number, marked, goal_cells, goal_words, write_goal, appearing, position, renumber}
use Rattle.rules.specs.Unification.{Unification, fails, spent, solved, equations, applys}
use Rattle.rules.specs.Resolution.{resolved}
use Rattle.resolvents.specs.Naming.{order_after, cells_under}
use Rattle.resolvents.specs.Deriving.{IsResolvent, IsAttempt}
use Rattle.resolvents.specs.Child.{IsChild, DerivedBy, AttemptedBy}
use Rattle.resolvents.specs.declared.resolve.Resolved.{Resolved}
use Rattle.resolvents.specs.declared.resolve.Resolved.TheVariants.{Nothing, Child, Oversized}
use Rattle.std.specs.Prelude as std
use Rattle.resolvents.proofs.WroteLaws.{renames-sizes, renames-join, length-under}
use Rattle.resolvents.proofs.CellTrees.{lit_terms, goal_terms, goal-cells, goal-vars, goal-applys, lits-renames}

-- A renumbered goal: its cells, its words, its answer terms.
module _ (d : Goal) where
  renumber-cells : goal_cells (renumber d) ≡ cells_under (order_after [] (goal_terms d)) (goal_terms d)
  unfolding renumber
  renumber-cells =
      let ρ : ℕ → ℕ = position (appearing [] (vars_goal d)) in
      goal-cells (map_goal (renames ρ) d)
      ∙ ap (λ ts. write_terms ts []) (ap (renames ρ d.answer_terms +++◌) (lits-renames ρ d.literals) ∙ sym (renames-join ρ d.answer_terms (lit_terms d.literals)))
      ∙ ap (λ vs. cells_under (appearing [] vs) (goal_terms d)) (sym (goal-vars d))

  renumber-words : goal_words (renumber d) ≡ 2 + sizes (goal_terms d)
  unfolding goal_words
  renumber-words = ap (2 +◌) (ap length renumber-cells ∙ length-under (order_after [] (goal_terms d)) (goal_terms d))

  renumber-answers : sizes (renumber d).answer_terms ≡ sizes d.answer_terms
  unfolding renumber
  renumber-answers = renames-sizes (position (appearing [] (vars_goal d))) d.answer_terms

  renumber-writes : write_goal (marked pending (renumber d)) ≡ (2 + sizes (goal_terms d)) ∷ sizes d.answer_terms ∷ cells_under (order_after [] (goal_terms d)) (goal_terms d)
  unfolding write_goal mark_number
  renumber-writes = ap₂ ◌∷◌ (omega (arith, renumber-words)) (ap₂ ◌∷◌ renumber-answers renumber-cells)

-- The answer is the resolvent.
child-resolvent : (d : Goal) (A L : Terms) (child : List ℕ) (r : Resolved) → goal_terms d ≡ A +++ L → d.answer_terms ≡ A → IsChild A L child r → IsResolvent (some (renumber d)) child r
child-resolvent d A L child Nothing e a h = h
child-resolvent d A L child (Child w) e a h = (
  omega (arith, h.0, renumber-words d, ap sizes e),
  h.1,
  h.2
      ∙ ap₂ ◌∷◌ (h.0 ∙ ap (λ ts. 2 + sizes ts) (sym e)) (ap₂ ◌∷◌ (ap sizes (sym a)) (ap (λ ts. cells_under (order_after [] ts) ts) (sym e)))
      ∙ sym (renumber-writes d),
)
child-resolvent d A L child Oversized e a h = omega (arith, h, renumber-words d, ap sizes e)

derived-resolvent :
    (ans : Terms) (ls : List Literal) (child : List ℕ) (r : Resolved) (u : Unification) → DerivedBy u ans (lit_terms ls) child r
    → IsResolvent (resolved (record { answer_terms = ans; literals = ls }) u) child r
unfolding resolved
derived-resolvent ans ls child r (fails k) h = subst (IsResolvent none child) (sym h) tt
derived-resolvent ans ls child r spent h = subst (IsResolvent none child) (sym h) tt
derived-resolvent ans ls child r (solved k es) h =
    let g : Goal = record { answer_terms = ans; literals = ls } in
    child-resolvent (map_goal (applys es) g) (applys es ans) (applys es (lit_terms ls)) child r (goal-applys es g) refl h

pub attempted-resolvent :
    (ans : Terms) (ls : List Literal) (left : ℕ) (child : List ℕ) (r : std.Option (Resolved × ℕ)) (u : Unification) → AttemptedBy u left ans (lit_terms ls) child r
    → IsAttempt (resolved (record { answer_terms = ans; literals = ls }) u) (equations u) left child r
attempted-resolvent ans ls left child (std.Some x) u h = (h.0, derived-resolvent ans ls child x.0 u h.1)
attempted-resolvent ans ls left child std.None u h = h
