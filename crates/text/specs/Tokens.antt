-- What a walk over the tokens gives, one after another.
use Rattle.std.specs.Prelude.{ℕ, ◌-◌, ◌≡◌, List, Option, Some, None, length}
use Rattle.std.specs.Iterator.{Count, at_most}
use Rattle.text.specs.declared.tokens.Kind.TheVariants.{Ending}
use Rattle.text.specs.declared.tokens.Token.{Token}
use Rattle.text.specs.declared.walk.Tokens.{Tokens}
use Rattle.text.specs.Scan.{NextToken}

-- The end of the text is the next token.
pub record TextEnds (text : List ℕ) (at : ℕ) : Type 0 where
  pub token : Token
  pub next : NextToken text at token
  pub kind : token.kind ≡ Ending

-- The next token is no end.
pub record Goes (text : List ℕ) (at : ℕ) (r : Token) : Type 0 where
  pub next : NextToken text at r
  pub in_text : r.kind ≡ Ending → ⊥

abbrev pub Finds : List ℕ → ℕ → Option Token → Type 0
Finds text at (Some r) = Goes text at r
Finds text at None = TextEnds text at

abbrev pub place_after : ℕ → Option Token → ℕ
place_after at (Some r) = r.to
place_after at None = at

-- The token at the walk's place is given.
pub record GivesToken (s : Tokens) (given : Option Token) (t : Tokens) : Type 0 where
  pub found : Finds s.text.now s.at given
  pub text : t.text ≡ s.text
  pub onward : t.at ≡ place_after s.at given

abbrev pub bytes_left : Tokens → Count
bytes_left s = at_most (length s.text.now - s.at)
