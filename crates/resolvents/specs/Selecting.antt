-- Where the selected literal of a goal stands in its cells.
use Rattle.std.specs.Prelude.{ℕ, suc, ◌+◌, ◌≡◌, List}
use Rattle.std.proofs.Math.Option.{some}
use Rattle.rules.specs.Terms.{Terms, sizes}
use Rattle.rules.specs.Syntax.{Symbol, Literal, pos, neg, Goal, arguments}
use Rattle.rules.specs.Cells.{literal_sizes}
use Rattle.rules.specs.Decks.{read_all, read_symbol}
use Rattle.rules.specs.Goals.{goal_cells}
use Rattle.rules.specs.Resolution.{Selection, nothing, positive, negative}
use Rattle.rules.specs.WellFormed.{WfGoal}
use Rattle.resolvents.specs.declared.select.Selected.{Selected}
use Rattle.resolvents.specs.declared.select.Selected.TheVariants.{Nothing, Positive, Negative}

-- The cells are those of the goal g, over the symbols S whose words are `ar`; the literals begin at place `answer_cells`.
pub record GoalCells (ar cells : List ℕ) (answer_cells : ℕ) (S : List Symbol) (g : Goal) : Type 0 where
  pub symbols : read_all read_symbol ar ≡ some S
  pub well_formed : WfGoal S g
  pub goal : cells ≡ goal_cells g
  pub wide : answer_cells ≡ sizes g.answer_terms

-- There is such a goal: for a `requires`, which cannot quantify over what the rules have.
pub record SomeGoal (ar cells : List ℕ) (answer_cells : ℕ) : Type 0 where
  pub symbols : List Symbol
  pub goal : Goal
  pub is : GoalCells ar cells answer_cells symbols goal

-- A literal after the answer terms and the literals `before` stands from s up to e.
pub record Spans (answer_terms : Terms) (before : List Literal) (l : Literal) (s e : ℕ) : Type 0 where
  pub start : s ≡ sizes answer_terms + literal_sizes before
  pub end : e ≡ s + suc (sizes (arguments l))

-- The answer says what the rules select, and where it stands.
abbrev pub Selects : Goal → Selection → Selected → Type 0
Selects g nothing Nothing = Unit {0}
Selects g nothing (Positive s e) = ⊥
Selects g nothing (Negative s e) = ⊥
Selects g (positive before p ts after) Nothing = ⊥
Selects g (positive before p ts after) (Positive s e) = Spans g.answer_terms before (pos p ts) s e
Selects g (positive before p ts after) (Negative s e) = ⊥
Selects g (negative before p ts after) Nothing = ⊥
Selects g (negative before p ts after) (Positive s e) = ⊥
Selects g (negative before p ts after) (Negative s e) = Spans g.answer_terms before (neg p ts) s e
