-- Cells read forward, with the number of terms that are still to come and the number of variables that have appeared.
use Rattle.std.specs.Prelude.{ℕ, zero, suc, ◌+◌, ◌≤◌, ◌<◌, max, ◌≡◌, Bool, true, false, ◌&&◌, List, [], ◌∷◌, leb, Option, Some, None}
use Rattle.rules.specs.Syntax.{Symbol}
use Rattle.rules.specs.Cells.{read_cell}
use Rattle.deck.specs.declared.kinds.Kind.{Kind}
use Rattle.deck.specs.declared.kinds.Kind.TheVariants.{Variable, Function, Positive, Negative, Invalid}
use Rattle.deck.specs.Kinds.{kind_of}

-- One cell: a literal starts where no term is to come, and a term where one is. `go` reads the cells after it.
unfoldable pub scan_cell : Kind → ℕ → ℕ → (ℕ → ℕ → Bool) → Bool
scan_cell (Variable v) zero next go = false
scan_cell (Variable v) (suc todo) next go = leb v next && go todo (max next (suc v))
scan_cell (Function k) zero next go = false
scan_cell (Function k) (suc todo) next go = go (k + todo) next
scan_cell (Positive k) zero next go = go k next
scan_cell (Positive k) (suc todo) next go = false
scan_cell (Negative k) zero next go = go k next
scan_cell (Negative k) (suc todo) next go = false
scan_cell Invalid todo next go = false

unfoldable pub scan : List Symbol → List ℕ → ℕ → ℕ → Bool
scan S [] zero next = true
scan S [] (suc todo) next = false
scan S (c ∷ cs) todo next = scan_cell (kind_of (read_cell S c)) todo next (scan S cs)

-- One cell with `room` cells after it: how the scan goes on, or that it does not pass, if the cells after it cannot hold more than `room` terms.
abbrev pub Stepped : ℕ → Kind → ℕ → ℕ → Option (ℕ × ℕ) → Type 0
Stepped room kind todo next (Some p) = (p.0 ≤ room) × (p.1 ≤ next + 1) × ((go : ℕ → ℕ → Bool) → scan_cell kind todo next go ≡ go p.0 p.1)
Stepped room kind todo next None = (go : ℕ → ℕ → Bool) → ((t n : ℕ) → room < t → go t n ≡ false) → scan_cell kind todo next go ≡ false
