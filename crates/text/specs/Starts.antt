-- Where the items of a text begin.
use Rattle.std.specs.Prelude.{ℕ, ◌-◌, ◌≤◌, ◌≡◌, Bool, true, List, length, take, drop}
use Rattle.text_rules.specs.TextTokens.{tokens}
use Rattle.text_rules.specs.Text.{numbers_in, text_items}
use Rattle.text_rules.specs.TextTokens as rules
use Rattle.text_rules.specs.TextGrammar.{is_v2}
use Rattle.text.specs.declared.tokens.Kind.TheVariants.{Name}
use Rattle.text.specs.declared.tokens.Token.{Token}
use Rattle.text.specs.Kinds.{kind_of}
use Rattle.text.specs.declared.start.Start.{Start}

-- Whether the text begins with `v2.`, and the place after that.
pub record Starts (text : List ℕ) (r : Start) : Type 0 where
  pub numbers : r.numbers ≡ numbers_in text
  pub inside : r.at ≤ length text
  pub items : tokens 0 (drop r.at text) ≡ text_items text

-- Whether a token is `v2`: of every token of that kind and those bytes. If so it is a name.
pub record Version (text : List ℕ) (t : Token) (r : Bool) : Type 0 where
  pub tested : (u : rules.Token) → u.kind ≡ kind_of t.kind → u.bytes ≡ take (t.to - t.from) (drop t.from text) → is_v2 u ≡ r
  pub name : r ≡ true → t.kind ≡ Name
