-- Cells as literals without their terms.
use Rattle.std.specs.Prelude.{ℕ, suc, ◌<◌, ◌≡◌, Option, Some, None, List, get_or}
use Rattle.rules.specs.Cells.{Cell, variable, function, positive, negative, invalid}
use Rattle.ranks.specs.declared.literals.Bare.{Bare}

-- A predicate, and so many "nots".
pub record IsBare (p n : ℕ) (l : Bare) : Type 0 where
  pub predicate : l.predicate ≡ p
  pub nots : l.nots ≡ n
  pub small : p < 4096

-- The literal that begins in a cell, if one does.
abbrev pub Begins : Cell → Option Bare → Type 0
Begins (positive p k) (Some l) = IsBare p 0 l
Begins (negative p k) (Some l) = IsBare p 1 l
Begins (positive p k) None = ⊥
Begins (negative p k) None = ⊥
Begins (variable v) o = o ≡ None
Begins (function f k) o = o ≡ None
Begins invalid o = o ≡ None

-- What the literal that begins in a cell comes to: its predicate's word, and one more where it is negated; 0 where none begins.
abbrev pub value : List ℕ → Cell → ℕ
value words (positive p k) = get_or words p 0
value words (negative p k) = suc (get_or words p 0)
value words (variable v) = 0
value words (function f k) = 0
value words invalid = 0
