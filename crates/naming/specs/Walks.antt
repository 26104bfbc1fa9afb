-- What the code finds at a place of a readable text: a declaration, or that there are no more.
use Rattle.std.specs.Prelude.{ℕ, ◌-◌, ◌≤◌, ◌<◌, ◌≡◌, List, [], ◌∷◌, Option, Some, None, length, drop}
use Rattle.std.proofs.Math.Option as math
use Rattle.std.proofs.Math.Option.{none, some}
use Rattle.std.specs.List.{slice_range}
use Rattle.rules.specs.Syntax as rules_syntax
use Rattle.rules.specs.Syntax.{functor, predicate}
use Rattle.text_rules.specs.TextTokens.{value, Token, tokens}
use Rattle.text_rules.specs.TextGrammar.{item, unread}
use Rattle.text_rules.specs.TextWords.{arity, value_word, declarations, clause_tokens}
use Rattle.text_rules.specs.TextWords as rules
use Rattle.text_rules.specs.Text.{numbers_in, text_items, text_declarations}
use Rattle.text.specs.declared.tokens.Token as code
use Rattle.naming.specs.declared.declarations.Symbol.{Symbol}
use Rattle.naming.specs.declared.declarations.Symbol.TheVariants.{Function, Predicate, Number}
use Rattle.naming.specs.declared.declarations.Counted.{Counted}
use Rattle.naming.specs.declared.declarations.Declaration.{Declaration}

-- The rules' symbol, and the word of a number's value.
abbrev pub symbol_of : Symbol → rules_syntax.Symbol
symbol_of (Function k) = functor k
symbol_of (Predicate k) = predicate k
symbol_of (Number w) = functor 0

abbrev pub value_of : Symbol → math.Option ℕ
value_of (Function k) = none
value_of (Predicate k) = none
value_of (Number w) = some w

abbrev pub declaration_of : List ℕ → Declaration → rules.Declaration
declaration_of text d =
    record { symbol = symbol_of d.symbol; value = value_of d.symbol; name = slice_range text d.from d.to; left = length text - d.from }

abbrev pub declared_as : code.Token → Symbol → ℕ → Declaration
declared_as name symbol end = record { from = name.from; to = name.to; symbol = symbol; end = end }

-- Where a text may go on after a declaration.
abbrev pub Readable : List ℕ → ℕ → Type 0
Readable text at = unread (item (numbers_in text)) (tokens 0 (drop at text)) ≡ none

-- A declaration from a place on, and what is left after it.
pub record Declares (text : List ℕ) (at : ℕ) (d : Declaration) : Type 0 where
  pub later : at < d.from
  pub forward : d.from ≤ d.to
  pub before : d.to < d.end
  pub inside : d.end ≤ length text
  pub small : arity (symbol_of d.symbol) ≤ 15
  pub first : declarations 0 (tokens 0 (drop at text)) ≡ declaration_of text d ∷ declarations 0 (tokens 0 (drop d.end text))
  pub clauses : clause_tokens 0 (tokens 0 (drop at text)) ≡ clause_tokens 0 (tokens 0 (drop d.end text))
  pub readable : Readable text d.end

-- After a declared name: an arity, or a value; each with the dot after it.
pub record Counts (text : List ℕ) (at : ℕ) (r : Counted) : Type 0 where
  pub later : at < r.end
  pub inside : r.end ≤ length text
  pub readable : Readable text r.end

pub record ArityAt (text : List ℕ) (at : ℕ) (r : Counted) : Type 0 where
  pub counts : Counts text at r
  pub small : r.number ≤ 15
  pub slash : Token
  pub given : Token
  pub dot : Token
  pub tokens : tokens 0 (drop at text) ≡ slash ∷ given ∷ dot ∷ tokens 0 (drop r.end text)
  pub value : r.number ≡ value 0 given.bytes

pub record ValueAt (text : List ℕ) (at : ℕ) (r : Counted) : Type 0 where
  pub counts : Counts text at r
  pub given : Token
  pub dot : Token
  pub tokens : tokens 0 (drop at text) ≡ given ∷ dot ∷ tokens 0 (drop r.end text)
  pub value : r.number ≡ value_word given.bytes

-- No declaration from a place on.
pub record Ends (text : List ℕ) (at : ℕ) : Type 0 where
  pub first : declarations 0 (tokens 0 (drop at text)) ≡ []
  pub clauses : clause_tokens 0 (tokens 0 (drop at text)) ≡ tokens 0 (drop at text)

abbrev pub At : List ℕ → ℕ → Option Declaration → Type 0
At text at (Some d) = Declares text at d
At text at None = Ends text at

-- n declarations are passed, up to a place.
pub record Passed (text : List ℕ) (at n : ℕ) : Type 0 where
  pub inside : at ≤ length text
  pub few : n ≤ at
  pub below : n ≤ length (text_declarations text)
  pub rest : drop n (text_declarations text) ≡ declarations 0 (tokens 0 (drop at text))
  pub clauses : clause_tokens 0 (text_items text) ≡ clause_tokens 0 (tokens 0 (drop at text))
  pub readable : Readable text at

-- All declarations: how many, and the place after the last one.
pub record AllCounted (text : List ℕ) (n end : ℕ) : Type 0 where
  pub count : length (text_declarations text) ≡ n
  pub inside : end ≤ length text
  pub clauses : clause_tokens 0 (text_items text) ≡ tokens 0 (drop end text)
