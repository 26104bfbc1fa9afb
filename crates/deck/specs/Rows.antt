-- A clause's row of cells: from its start to the next start, or to the last cell (document 01, "The deck": "a clause runs to the next start or to T").
use Rattle.std.specs.Prelude.{ℕ, ◌+◌, ◌-◌, List, length, get_or, take, drop}

abbrev pub row_at : List ℕ → List ℕ → ℕ → List ℕ
row_at cells starts i = take (get_or starts (i + 1) (length cells) - get_or starts i 0) (drop (get_or starts i 0) cells)
