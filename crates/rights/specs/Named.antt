-- The predicates that cells name.
use Rattle.std.specs.Prelude.{ℕ, List, [], ◌∷◌, Option, Some, None}
use Rattle.rules.specs.Syntax.{Symbol}
use Rattle.rules.specs.Cells.{Cell, variable, function, positive, negative, invalid, read_cell}

-- The predicate of a cell that begins a literal, negated or not.
abbrev pub named_by : Cell → Option ℕ
named_by (variable v) = None
named_by (function f k) = None
named_by (positive p k) = Some p
named_by (negative p k) = Some p
named_by invalid = None

abbrev pub then_others : Option ℕ → List ℕ → List ℕ
then_others None ps = ps
then_others (Some p) ps = p ∷ ps

-- Those of cells, in order.
unfoldable pub named : List Symbol → List ℕ → List ℕ
named S [] = []
named S (c ∷ cs) = then_others (named_by (read_cell S c)) (named S cs)
