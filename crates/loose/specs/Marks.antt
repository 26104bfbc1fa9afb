-- Whether the variables of a row stand in its positive literals, and the marks by which one walk over the row tells (document 02, U5).
use Rattle.std.specs.Prelude.{ℕ, ◌+◌, ◌<◌, max, ◌≡◌, Bool, true, false, List, length, get_or, eqb}
use Rattle.rules.specs.Syntax.{Symbol}
use Rattle.rules.specs.Loose.{among, standing}
use Rattle.deck.specs.declared.kinds.Kind.{Kind}
use Rattle.deck.specs.declared.kinds.Kind.TheVariants.{Variable, Function, Positive, Negative, Invalid}

-- Each variable stands in a positive literal, where the cells are those of a clause after its first, or of a query (`FlatLaws.tight-flat`).
unfoldable pub row_tight : List Symbol → List ℕ → Bool
row_tight S cells = among (standing S true true cells) (standing S false false cells)

-- Whether variables after a cell stand in a positive literal.
abbrev pub inside_after : Kind → Bool → Bool
inside_after (Variable v) inside = inside
inside_after (Function k) inside = inside
inside_after (Positive k) inside = true
inside_after (Negative k) inside = false
inside_after Invalid inside = inside

-- The mark of a variable after one more place where it stands: `stamp + 1` from the first place in a positive literal on, `stamp` before.
abbrev pub mark_after : ℕ → Bool → ℕ → ℕ
mark_after stamp true mark = stamp + 1
mark_after stamp false mark = max stamp mark

-- A variable with mark `stamp` waits for a positive literal.
unfoldable pub waiting : ℕ → ℕ → ℕ
waiting stamp mark = elim (eqb mark stamp) [ true ↦ 1 | false ↦ 0 ]

-- Marks of earlier rows.
pub record Below (stamp : ℕ) (marks : List ℕ) : Type 0 where
  pub size : length marks ≡ 1024
  pub below : (v : ℕ) → get_or marks v 0 < stamp
