-- The same of the value with which the code counts.
use Rattle.std.specs.Prelude.{ℕ, ◌<◌, ◌≡◌, List, [], ◌∷◌}
use Rattle.text_rules.specs.TextTokens.{Kind, Token}
use Rattle.uses.specs.declared.brackets.Counting.{Counting}
use Rattle.uses.specs.Pairs.{Counted}

abbrev pub CountedBy : List ℕ → ℕ → Counting → List Token → Type 0
CountedBy all at c ts = Counted all at c.met c.inner c.row.items c.given ts

-- Nothing is met.
pub record NothingMet (c : Counting) : Type 0 where
  pub met : c.met ≡ 0
  pub row : c.row.items ≡ []
  pub inner : c.inner ≡ 0

-- No sum wraps at the next token.
pub record Room (c : Counting) : Type 0 where
  pub shallow : c.inner < 18446744073709551615

-- A token of that kind.
abbrev pub Steps : Kind → Counting → Counting → Type 0
Steps kind c c' = (all : List ℕ) (at to : ℕ) (t : Token) (ts : List Token) → t.kind ≡ kind → at < to → CountedBy all at c (t ∷ ts) → CountedBy all to c' ts
