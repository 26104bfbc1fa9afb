-- A deck as text (document 02, U1 and U10): one item a line, each ended by byte 10, with names s0, s1 and on. Most functions take `rest`, the bytes that follow.
use Rattle.std.specs.Prelude.{ℕ, suc, ◌-◌, true, false, List, [], ◌∷◌, ◌++◌, ltb}
use Rattle.std.proofs.Math.Option.{Option, none, some}
use Rattle.rules.specs.Terms.{Term, var, app, Terms, nil, cons}
use Rattle.rules.specs.Syntax.{Symbol, functor, predicate, Literal, pos, neg, Clause, Format, format1, format2, Deck}
use Rattle.rules.specs.Column.{number_word}
use Rattle.rules.specs.Listing.{decimal}
use Rattle.text_rules.specs.TextGrammar.{fn_text, pr_text, nu_text, v2_text}

-- `s` and the symbol's number.
unfoldable pub name_text : ℕ → List ℕ → List ℕ
name_text n rest = 115 ∷ decimal n rest

-- `fn s0/0.`, `pr s4/1.`
unfoldable pub declaration_text : List ℕ → ℕ → ℕ → List ℕ → List ℕ
declaration_text key n arity rest = key ++ (32 ∷ name_text n (47 ∷ decimal arity (46 ∷ 10 ∷ rest)))

unfoldable pub symbol_text : Symbol → ℕ → List ℕ → List ℕ
symbol_text (functor k) n rest = declaration_text fn_text n k rest
symbol_text (predicate k) n rest = declaration_text pr_text n k rest

-- `nu s2 -35.`, by the word of the value.
unfoldable pub value_text : ℕ → List ℕ → List ℕ
value_text w rest = elim (ltb w 32768) [ true ↦ decimal w rest | false ↦ 45 ∷ decimal (65536 - w) rest ]

unfoldable pub number_text : ℕ → ℕ → List ℕ → List ℕ
number_text w n rest = nu_text ++ (32 ∷ name_text n (32 ∷ value_text w (46 ∷ 10 ∷ rest)))

unfoldable pub symbol_line : Symbol → Option ℕ → ℕ → List ℕ → List ℕ
symbol_line s none n rest = symbol_text s n rest
symbol_line s (some w) n rest = number_text w n rest

-- Symbols from number n on, numbers with their values.
unfoldable pub symbols_text : Format → ℕ → List Symbol → List ℕ → List ℕ
symbols_text F n [] rest = rest
symbols_text F n (s ∷ ss) rest = symbol_line s (number_word F n) n (symbols_text F (suc n) ss rest)

-- `v2.` on a line of its own, for format 2.
unfoldable pub format_text : Format → List ℕ → List ℕ
format_text format1 rest = rest
format_text (format2 vs) rest = v2_text ++ (46 ∷ 10 ∷ rest)

-- Arguments in round brackets with bare commas between them; a variable as `_` and its number.
abbrev mutual
  pub term_text : Term → List ℕ → List ℕ
  term_text (var v) rest = 95 ∷ decimal v rest
  term_text (app f ts) rest = name_text f (arguments_text ts rest)

  pub arguments_text : Terms → List ℕ → List ℕ
  arguments_text nil rest = rest
  arguments_text (cons t ts) rest = 40 ∷ term_text t (more_text ts (41 ∷ rest))

  pub more_text : Terms → List ℕ → List ℕ
  more_text nil rest = rest
  more_text (cons t ts) rest = 44 ∷ term_text t (more_text ts rest)

unfoldable pub literal_text : Literal → List ℕ → List ℕ
literal_text (pos p ts) rest = name_text p (arguments_text ts rest)
literal_text (neg p ts) rest = 126 ∷ name_text p (arguments_text ts rest)

-- The literals after the first one, each after a comma and a space.
unfoldable pub literals_text : List Literal → List ℕ → List ℕ
literals_text [] rest = rest
literals_text (l ∷ ls) rest = 44 ∷ 32 ∷ literal_text l (literals_text ls rest)

-- ` :- ` and the body, where there is one.
unfoldable pub body_text : List Literal → List ℕ → List ℕ
body_text [] rest = rest
body_text (l ∷ ls) rest = 32 ∷ 58 ∷ 45 ∷ 32 ∷ literal_text l (literals_text ls rest)

unfoldable pub clause_text : Clause → List ℕ → List ℕ
clause_text c rest = name_text c.predicate (arguments_text c.arguments (body_text c.body (46 ∷ 10 ∷ rest)))

unfoldable pub clauses_text : List Clause → List ℕ
clauses_text [] = []
clauses_text (c ∷ cs) = clause_text c (clauses_text cs)

unfoldable pub deck_text : Deck → List ℕ
deck_text d = format_text d.format (symbols_text d.format 0 d.symbols (clauses_text d.clauses))
