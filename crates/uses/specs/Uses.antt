-- Uses of names, token by token.
use Rattle.std.specs.Prelude.{ℕ, ◌+◌, ◌-◌, ◌≤◌, ◌<◌, ◌≡◌, Bool, true, false, List, [], ◌∷◌, Some, None, length, get_or, drop}
use Rattle.std.specs.List.{slice_range}
use Rattle.std.specs.Iterator.{Count, at_most}
use Rattle.std.specs.Prelude as answer
use Rattle.std.proofs.Math.Option.{Option, none, some}
use Rattle.text_rules.specs.TextTokens.{Kind, name, Token, tokens}
use Rattle.text_rules.specs.TextGrammar.{same_kind}
use Rattle.text_rules.specs.TextWords.{Declaration, given_arguments, number_of, has_arity, declared_at}
use Rattle.text_rules.specs.Text.{place_of, text_declarations}
use Rattle.uses.specs.declared.walk.Use.{Use}
use Rattle.uses.specs.declared.walk.Uses.{Uses}

-- Whether a name is declared with that many arguments.
abbrev pub takes : List Declaration → List ℕ → ℕ → Bool
takes ds bytes k = has_arity (declared_at ds (number_of bytes 0 ds)) k

-- Whether a token of that kind is no name, or one that is used well.
abbrev pub fits : List Declaration → Kind → List ℕ → List Token → Bool
fits ds kind bytes ts = elim (same_kind name kind) [ true ↦ takes ds bytes (given_arguments ts) | false ↦ true ]

-- The first name that is not.
unfoldable pub first_misuse : List Declaration → List Token → Option ℕ
first_misuse ds [] = none
first_misuse ds (t ∷ ts) = elim (fits ds t.kind t.bytes ts) [ true ↦ first_misuse ds ts | false ↦ some t.left ]

abbrev pub misuse_from : List ℕ → ℕ → Option ℕ
misuse_from text at = first_misuse (text_declarations text) (tokens 0 (drop at text))

-- The next use of a name from a place on: the first misuse is that one, or is looked for after it.
pub record UseFrom (text : List ℕ) (at : ℕ) (u : Use) : Type 0 where
  pub later : at ≤ u.from
  pub forward : u.from < u.to
  pub inside : u.to ≤ length text
  pub well : takes (text_declarations text) (slice_range text u.from u.to) u.arguments ≡ true → misuse_from text at ≡ misuse_from text u.to
  pub badly : takes (text_declarations text) (slice_range text u.from u.to) u.arguments ≡ false → place_of text (misuse_from text at) ≡ some u.from

abbrev pub UseOrEnd : List ℕ → ℕ → answer.Option Use → ℕ → Type 0
UseOrEnd text at (Some u) to = UseFrom text at u × (to ≡ u.to)
UseOrEnd text at None to = misuse_from text at ≡ none

-- The uses of names give the next one.
pub record GivesUse (s : Uses) (given : answer.Option Use) (t : Uses) : Type 0 where
  pub text : t.text ≡ s.text
  pub next : UseOrEnd s.text.text.now s.at given t.at

abbrev pub uses_left : Uses → Count
uses_left s = at_most (length s.text.text.now - s.at)
