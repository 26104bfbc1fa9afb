-- Commas and brackets, token by token.
use Prim.Native.Nat.{ℕ, zero, suc}
use mathlib.Core.Path.{◌≡◌, refl, ap}
use mathlib.Core.Bool.{false}
use mathlib.Core.List.{List, [], ◌∷◌}
use Rattle.text_rules.specs.TextTokens.{Kind, opening, closing, comma, invalid, Token, end_token}
use Rattle.text_rules.specs.TextGrammar.{same_kind, is}
use Rattle.text_rules.specs.TextWords.{commas}
use Rattle.uses.specs.Pairs.{in_brackets}

module _ (t : Token) (kind : Kind) (e : t.kind ≡ kind) where
  -- Whether the token is of a kind.
  pub same_as : (k : Kind) → is k t ≡ same_kind k kind
  same_as k = ap (same_kind k) e

module _ (t : Token) (ts : List Token) where
  pub commas-opening : t.kind ≡ opening → (d : ℕ) → commas d (t ∷ ts) ≡ commas (suc d) ts
  unfolding commas
  commas-opening e zero = rw (same_as t opening e opening, commas) refl
  commas-opening e (suc d) = rw (same_as t opening e opening, commas) refl

  pub commas-closing : t.kind ≡ closing → (d : ℕ) → commas (suc d) (t ∷ ts) ≡ commas d ts
  unfolding commas
  commas-closing e d = rw (same_as t closing e opening, same_as t closing e closing, commas) refl

  pub commas-closed : t.kind ≡ closing → commas 0 (t ∷ ts) ≡ 0
  unfolding commas
  commas-closed e = rw (same_as t closing e opening, same_as t closing e closing, commas) refl

  pub commas-comma : t.kind ≡ comma → commas 0 (t ∷ ts) ≡ suc (commas 0 ts)
  unfolding commas
  commas-comma e = rw (same_as t comma e opening, same_as t comma e closing, same_as t comma e comma, commas) refl

  pub commas-inside : t.kind ≡ comma → (d : ℕ) → commas (suc d) (t ∷ ts) ≡ commas (suc d) ts
  unfolding commas
  commas-inside e d = rw (same_as t comma e opening, same_as t comma e closing, commas) refl

  pub commas-other : t.kind ≡ invalid → (d : ℕ) → commas d (t ∷ ts) ≡ commas d ts
  unfolding commas
  commas-other e zero = rw (same_as t invalid e opening, same_as t invalid e closing, same_as t invalid e comma, commas) refl
  commas-other e (suc d) = rw (same_as t invalid e opening, same_as t invalid e closing, commas) refl

  pub brackets-opening : t.kind ≡ opening → in_brackets (t ∷ ts) ≡ suc (commas 0 ts) ∷ in_brackets ts
  unfolding in_brackets
  brackets-opening e = rw (same_as t opening e opening, in_brackets) refl

  pub brackets-other : is opening t ≡ false → in_brackets (t ∷ ts) ≡ in_brackets ts
  unfolding in_brackets
  brackets-other e = rw (e, in_brackets) refl

-- After the last token nothing is counted.
pub commas-end : (d : ℕ) → commas d (end_token ∷ []) ≡ 0
unfolding commas
commas-end zero = refl
commas-end (suc d) = refl
