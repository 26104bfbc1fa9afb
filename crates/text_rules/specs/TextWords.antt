-- From the tokens of a readable text to a deck's words (document 02, U1 and U10).
use Rattle.std.specs.Prelude.{ℕ, zero, suc, ◌+◌, ◌-◌, Bool, true, false, ◌&&◌, ◌||◌, List, [], ◌∷◌, ◌++◌, map, length, get_or, drop, eqb}
use Rattle.std.proofs.Math.Option.{Option, none, some}
use Rattle.std.proofs.Math.ListN.{get_elem?}
use Rattle.rules.specs.Syntax.{Symbol, functor, predicate, Format, format1, format2}
use Rattle.rules.specs.Decks.{write_symbols, format_number, header_words}
use Rattle.text_rules.specs.TextTokens.{Kind, name, variable, dot, opening, closing, comma, tilde, value, Token, end_token}
use Rattle.text_rules.specs.TextGrammar.{same_kind, is, same_bytes, fn_text, is_key, is_number_key, is_v2}

-- A declaration: its symbol, the word of its value if it is a number, its name, and the bytes left from the name on.
pub record Declaration : Type 0 where
  pub symbol : Symbol
  pub value : Option ℕ
  pub name : List ℕ
  pub left : ℕ

unfoldable pub symbol_from : List ℕ → ℕ → Symbol
symbol_from key k = elim (same_bytes key fn_text) [ true ↦ functor k | false ↦ predicate k ]

abbrev pub token_at : List Token → ℕ → Token
token_at ts i = get_or ts i end_token

-- The word of a value: `-`, byte 45, and a number, or a number.
unfoldable pub value_word : List ℕ → ℕ
value_word [] = 0
value_word (b ∷ bs) = elim (eqb b 45) [ true ↦ 65536 - value 0 bs | false ↦ value 0 (b ∷ bs) ]

-- Text of a deck of format 2 begins with `v2.`, two tokens.
unfoldable pub begins_v2 : List Token → Bool
begins_v2 [] = false
begins_v2 (t ∷ ts) = is_v2 t && is dot (token_at ts 0)

unfoldable pub items : List Token → List Token
items ts = elim (begins_v2 ts) [ true ↦ drop 2 ts | false ↦ ts ]

-- A declaration is told from a clause by its second token, a name. It is five tokens; a number's is four.
unfoldable pub declares : Token → List Token → Bool
declares key ts = (is_key key || is_number_key key) && is name (token_at ts 0)

unfoldable pub number_declaration : List Token → Declaration
number_declaration ts =
    record { symbol = functor 0; value = some (value_word (token_at ts 1).bytes); name = (token_at ts 0).bytes; left = (token_at ts 0).left }

unfoldable pub symbol_declaration : Token → List Token → Declaration
symbol_declaration key ts =
    record { symbol = symbol_from key.bytes (value 0 (token_at ts 2).bytes); value = none; name = (token_at ts 0).bytes; left = (token_at ts 0).left }

unfoldable pub declaration : Token → List Token → Declaration
declaration key ts = elim (is_key key) [ true ↦ symbol_declaration key ts | false ↦ number_declaration ts ]

unfoldable pub tokens_after : Token → ℕ
tokens_after key = elim (is_key key) [ true ↦ 4 | false ↦ 3 ]

-- The declarations, and the tokens after them. The first `skip` tokens belong to the declaration before.
unfoldable pub declarations : ℕ → List Token → List Declaration
declarations skip [] = []
declarations (suc skip) (t ∷ ts) = declarations skip ts
declarations zero (t ∷ ts) = elim (declares t ts) [ true ↦ declaration t ts ∷ declarations (tokens_after t) ts | false ↦ [] ]

unfoldable pub clause_tokens : ℕ → List Token → List Token
clause_tokens skip [] = []
clause_tokens (suc skip) (t ∷ ts) = clause_tokens skip ts
clause_tokens zero (t ∷ ts) = elim (declares t ts) [ true ↦ clause_tokens (tokens_after t) ts | false ↦ t ∷ ts ]

-- The commas between here and the end of the brackets, in which `depth` further ones are open.
unfoldable pub commas : ℕ → List Token → ℕ
commas depth [] = 0
commas zero (t ∷ ts) =
    elim (is opening t) [
      | true ↦ commas 1 ts
      | false ↦ elim (is closing t) [ true ↦ 0 | false ↦ elim (is comma t) [ true ↦ suc (commas 0 ts) | false ↦ commas 0 ts ] ]
    ]
commas (suc depth) (t ∷ ts) =
    elim (is opening t) [ true ↦ commas (suc (suc depth)) ts | false ↦ elim (is closing t) [ true ↦ commas depth ts | false ↦ commas (suc depth) ts ] ]

-- The number of arguments of a name, by the tokens after it.
unfoldable pub given_arguments : List Token → ℕ
given_arguments [] = 0
given_arguments (t ∷ ts) = elim (is opening t) [ true ↦ suc (commas 0 ts) | false ↦ 0 ]

-- A use of a name: the name, the number of its arguments, and the bytes left from it on.
pub record Use : Type 0 where
  pub name : List ℕ
  pub arguments : ℕ
  pub left : ℕ

-- What takes a cell: a variable; a name that begins a clause, that stands after `~`, or that stands elsewhere.
pub data Entry : Type 0 where
  a_variable : ℕ → Entry
  a_head a_negated a_symbol : Use → Entry

unfoldable pub entry_after : Kind → Use → Entry
entry_after before u = elim (same_kind before dot) [ true ↦ a_head u | false ↦ elim (same_kind before tilde) [ true ↦ a_negated u | false ↦ a_symbol u ] ]

-- The entries of the clauses' tokens; `before` is the kind of the token before them.
unfoldable pub entries : Kind → List Token → List Entry
entries before [] = []
entries before (t ∷ ts) =
    elim (is name t) [
      | true ↦ entry_after before (record { name = t.bytes; arguments = given_arguments ts; left = t.left }) ∷ entries t.kind ts
      | false ↦ elim (is variable t) [
        | true ↦ a_variable (value 0 (drop 1 t.bytes)) ∷ entries t.kind ts
        | false ↦ entries t.kind ts
      ]
    ]

-- Symbols are numbered as declared.
unfoldable pub number_of : List ℕ → ℕ → List Declaration → Option ℕ
number_of n at [] = none
number_of n at (d ∷ ds) = elim (same_bytes n d.name) [ true ↦ some at | false ↦ number_of n (suc at) ds ]

-- The first name that is declared for the second time: its number is not the one of its place.
unfoldable pub is_number : Option ℕ → ℕ → Bool
is_number none at = false
is_number (some n) at = eqb n at

unfoldable pub declared_twice : List Declaration → ℕ → List Declaration → Option ℕ
declared_twice all at [] = none
declared_twice all at (d ∷ ds) = elim (is_number (number_of d.name 0 all) at) [ true ↦ declared_twice all (suc at) ds | false ↦ some d.left ]

-- The first name that is undeclared or used with another arity.
abbrev pub arity : Symbol → ℕ
arity (functor k) = k
arity (predicate k) = k

unfoldable pub has_arity : Option Declaration → ℕ → Bool
has_arity none k = false
has_arity (some d) k = eqb (arity d.symbol) k

unfoldable pub declared_at : List Declaration → Option ℕ → Option Declaration
declared_at ds none = none
declared_at ds (some n) = get_elem? ds n

unfoldable pub well_used : List Declaration → Use → Bool
well_used ds u = has_arity (declared_at ds (number_of u.name 0 ds)) u.arguments

unfoldable pub misused : List Declaration → List Entry → Option ℕ
misused ds [] = none
misused ds (a_variable v ∷ es) = misused ds es
misused ds (a_head u ∷ es) = elim (well_used ds u) [ true ↦ misused ds es | false ↦ some u.left ]
misused ds (a_negated u ∷ es) = elim (well_used ds u) [ true ↦ misused ds es | false ↦ some u.left ]
misused ds (a_symbol u ∷ es) = elim (well_used ds u) [ true ↦ misused ds es | false ↦ some u.left ]

-- The cell of an entry.
unfoldable pub symbol_number : List Declaration → Use → ℕ
symbol_number ds u = elim (number_of u.name 0 ds) [ none ↦ 0 | some n ↦ n ]

unfoldable pub entry_cell : List Declaration → Entry → ℕ
entry_cell ds (a_variable v) = 32768 + v
entry_cell ds (a_head u) = symbol_number ds u
entry_cell ds (a_negated u) = 16384 + symbol_number ds u
entry_cell ds (a_symbol u) = symbol_number ds u

-- Where clauses start, the first entry being cell `at`.
unfoldable pub starts_from : ℕ → List Entry → List ℕ
starts_from at [] = []
starts_from at (a_variable v ∷ es) = starts_from (suc at) es
starts_from at (a_head u ∷ es) = at ∷ starts_from (suc at) es
starts_from at (a_negated u ∷ es) = starts_from (suc at) es
starts_from at (a_symbol u ∷ es) = starts_from (suc at) es

unfoldable pub format_from : Bool → List Declaration → Format
format_from numbers ds = elim numbers [ true ↦ format2 (map (λ d. d.value) ds) | false ↦ format1 ]

unfoldable pub deck_from : Format → List Declaration → List Entry → List ℕ
deck_from F ds es =
    let starts = starts_from 0 es in
    header_words (format_number F) (length ds) (length starts) (length es)
    ++ (write_symbols F (map (λ d. d.symbol) ds) ++ (starts ++ map (entry_cell ds) es))
