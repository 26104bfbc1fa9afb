-- The clauses of an opened deck.
use Rattle.std.specs.Prelude.{ℕ, ◌+◌, ◌≡◌, List, ◌∷◌, drop}
use Rattle.rules.specs.Syntax.{Clause}

-- c is clause i.
abbrev pub ClauseAt : List Clause → ℕ → Clause → Type 0
ClauseAt cs i c = drop i cs ≡ c ∷ drop (i + 1) cs
