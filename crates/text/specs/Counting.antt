-- Counting a name's arguments, token by token.
use Rattle.std.specs.Prelude.{ℕ, suc, ◌+◌, ◌≤◌, ◌≡◌, List, ◌∷◌, Option, Some, None}
use Rattle.text_rules.specs.TextTokens.{Token}
use Rattle.text_rules.specs.TextWords.{commas}
use Rattle.text.specs.declared.tokens.Kind.{Kind}
use Rattle.text.specs.declared.arguments.Count.{Count}
use Rattle.text.specs.Kinds.{kind_of}

-- What is counted from a state on.
abbrev pub count_from : Option Count → ℕ → List Token → ℕ
count_from (Some c) last ts = c.begun + commas c.depth ts
count_from None last ts = last

abbrev pub Grown : Option Count → Count → Type 0
Grown (Some d) c = (d.depth ≤ suc c.depth) × (d.begun ≤ suc c.begun)
Grown None c = Unit {0}

-- A token of that kind.
pub record Counts (c : Count) (kind : Kind) (r : Option Count) : Type 0 where
  pub step : (t : Token) (ts : List Token) → t.kind ≡ kind_of kind → c.begun + commas c.depth (t ∷ ts) ≡ count_from r c.begun ts
  pub grown : Grown r c
