-- A deck's text in the parts that the code writes one after another.
use Prim.Native.Nat.{ℕ, suc, ◌+◌, ◌-◌, ◌%◌, ◌≤◌, ◌<◌}
use mathlib.Core.Path.{◌≡◌, refl, ap, sym, ◌∙◌}
use mathlib.Core.Bool.{Bool, true, false}
use mathlib.Core.Option.{Option, none, some, none-ne-some, some-injective}
use borrow.Author.Tests.{lt-ltb, le-ltb}
use mathlib.Core.List.{List, [], ◌∷◌, ◌++◌, append_assoc, append-nil}
use native.Mathlib.Numerals.{add-one}
use lib.Dec.{leb, ltb}
use lib.ListN.{length, get_or, drop, drop_of_length-le}
use lib.Seq.{drop-cons}
use Rattle.rules.specs.Terms.{Term, var, app, Terms, nil, cons}
use Rattle.rules.specs.Syntax.{Symbol, functor, predicate, Literal, pos, neg, Clause, Format, format1, format2, Deck}
use Rattle.rules.specs.Column.{number_word}
use Rattle.rules.specs.Listing.{decimal}
use Rattle.text_rules.specs.TextGrammar.{fn_text, pr_text, nu_text, v2_text}
use Rattle.text_rules.specs.TextWriter.{name_text, declaration_text, symbol_text, value_text, number_text, symbol_line, symbols_text, format_text, term_text, arguments_text, more_text, literal_text, literals_text, body_text, clause_text, clauses_text, deck_text}
use Rattle.deck.specs.Kinds.{symbol_of, symbols_of}
use Rattle.deck.proofs.SymbolLaws.{kind-functor, kind-predicate}
use Rattle.listing.specs.Standing.{show_term, show_arguments, show_more}
use Rattle.listing.proofs.DigitLaws.{decimal-append}
use Rattle.listing.proofs.PrintLaws.{show-append}
use Rattle.writing.specs.Writes.{is_second, line_text}

-- Terms are shown with the sign `_`.
mutual
  unfolding name_text

  shown-term : (t : Term) (rest : List ℕ) → show_term 95 t rest ≡ term_text t rest
  shown-term (var v) rest = refl
  shown-term (app f ts) rest = ap {B = List ℕ} (λ x. 115 ∷ decimal f x) (shown-arguments ts rest)

  shown-arguments : (ts : Terms) (rest : List ℕ) → show_arguments 95 ts rest ≡ arguments_text ts rest
  shown-arguments nil rest = refl
  shown-arguments (cons t ts) rest = ap {B = List ℕ} (λ x. 40 ∷ x) (ap (show_term 95 t) (shown-more ts (41 ∷ rest)) ∙ shown-term t (more_text ts (41 ∷ rest)))

  shown-more : (ts : Terms) (rest : List ℕ) → show_more 95 ts rest ≡ more_text ts rest
  shown-more nil rest = refl
  shown-more (cons t ts) rest = ap {B = List ℕ} (λ x. 44 ∷ x) (ap (show_term 95 t) (shown-more ts rest) ∙ shown-term t (more_text ts rest))

pub positive-text : (p : ℕ) (ts : Terms) (rest : List ℕ) → literal_text (pos p ts) rest ≡ show_term 95 (app p ts) rest
unfolding literal_text
positive-text p ts rest = sym (shown-term (app p ts) rest)

pub negative-text : (p : ℕ) (ts : Terms) (rest : List ℕ) → literal_text (neg p ts) rest ≡ 126 ∷ show_term 95 (app p ts) rest
unfolding literal_text
negative-text p ts rest = ap {B = List ℕ} (λ x. 126 ∷ x) (sym (shown-term (app p ts) rest))

-- What follows is put behind.
literal-append : (l : Literal) (xs rest : List ℕ) → literal_text l (xs ++ rest) ≡ literal_text l xs ++ rest
literal-append (pos p ts) xs rest = positive-text p ts (xs ++ rest) ∙ show-append 95 (app p ts) xs rest ∙ ap (◌++ rest) (sym (positive-text p ts xs))
literal-append (neg p ts) xs rest =
    negative-text p ts (xs ++ rest) ∙ ap {B = List ℕ} (λ x. 126 ∷ x) (show-append 95 (app p ts) xs rest) ∙ ap (◌++ rest) (sym (negative-text p ts xs))

literals-append : (ls : List Literal) (xs rest : List ℕ) → literals_text ls (xs ++ rest) ≡ literals_text ls xs ++ rest
unfolding literals_text
literals-append [] xs rest = refl
literals-append (l ∷ ls) xs rest =
    ap {B = List ℕ} (λ x. 44 ∷ 32 ∷ x) (ap (literal_text l) (literals-append ls xs rest) ∙ literal-append l (literals_text ls xs) rest)

body-append : (ls : List Literal) (xs rest : List ℕ) → body_text ls (xs ++ rest) ≡ body_text ls xs ++ rest
unfolding body_text
body-append [] xs rest = refl
body-append (l ∷ ls) xs rest =
    ap {B = List ℕ} (λ x. 32 ∷ 58 ∷ 45 ∷ 32 ∷ x) (ap (literal_text l) (literals-append ls xs rest) ∙ literal-append l (literals_text ls xs) rest)

pub no-literals : literals_text [] [] ≡ []
unfolding literals_text
no-literals = refl

pub no_body : body_text [] [] ≡ []
unfolding body_text
no_body = refl

pub literals-parts : (l : Literal) (ls : List Literal) → literals_text (l ∷ ls) [] ≡ (44 ∷ 32 ∷ []) ++ (literal_text l [] ++ literals_text ls [])
unfolding literals_text
literals-parts l ls = ap {B = List ℕ} (λ x. 44 ∷ 32 ∷ x) (literal-append l [] (literals_text ls []))

pub body-parts : (l : Literal) (ls : List Literal) → body_text (l ∷ ls) [] ≡ (32 ∷ 58 ∷ 45 ∷ 32 ∷ []) ++ (literal_text l [] ++ literals_text ls [])
unfolding body_text
body-parts l ls = ap {B = List ℕ} (λ x. 32 ∷ 58 ∷ 45 ∷ 32 ∷ x) (literal-append l [] (literals_text ls []))

-- A clause: the head, the body and the end of the line.
clause-literals : (c : Clause) (rest : List ℕ) → clause_text c rest ≡ literal_text (pos c.predicate c.arguments) (body_text c.body (46 ∷ 10 ∷ rest))
unfolding clause_text literal_text
clause-literals c rest = refl

pub clause-parts :
    (c : Clause) → clause_text c [] ≡ literal_text (pos c.predicate c.arguments) [] ++ (body_text c.body [] ++ (46 ∷ 10 ∷ []))
clause-parts c =
    clause-literals c []
    ∙ ap (literal_text (pos c.predicate c.arguments)) (body-append c.body [] (46 ∷ 10 ∷ []))
    ∙ literal-append (pos c.predicate c.arguments) [] (body_text c.body [] ++ (46 ∷ 10 ∷ []))

clause-append : (c : Clause) (rest : List ℕ) → clause_text c rest ≡ clause_text c [] ++ rest
clause-append c rest =
    let head = pos c.predicate c.arguments in
    clause-literals c rest
    ∙ ap (literal_text head) (body-append c.body (46 ∷ 10 ∷ []) rest)
    ∙ literal-append head (body_text c.body (46 ∷ 10 ∷ [])) rest
    ∙ ap (◌++ rest) (sym (clause-literals c []))

no-clauses : clauses_text [] ≡ []
unfolding clauses_text
no-clauses = refl

clauses-parts : (c : Clause) (cs : List Clause) → clauses_text (c ∷ cs) ≡ clause_text c [] ++ clauses_text cs
unfolding clauses_text
clauses-parts c cs = clause-append c (clauses_text cs)

-- A declaration's line.
line-append : (key : List ℕ) (n arity : ℕ) (rest : List ℕ) → key ++ (115 ∷ decimal n (47 ∷ decimal arity (46 ∷ 10 ∷ rest))) ≡ line_text key n arity ++ rest
line-append key n arity rest =
    ap (key ++◌) (ap {B = List ℕ} (λ x. 115 ∷ x)
    (ap (decimal n) (ap {B = List ℕ} (λ x. 47 ∷ x) (decimal-append arity (46 ∷ 10 ∷ []) rest)) ∙ decimal-append n (47 ∷ decimal arity (46 ∷ 10 ∷ [])) rest))
    ∙ sym (append_assoc key (115 ∷ decimal n (47 ∷ decimal arity (46 ∷ 10 ∷ []))) rest)

pub line-parts : (key : List ℕ) (n arity : ℕ) → line_text key n arity ≡ key ++ ((115 ∷ decimal n []) ++ ((47 ∷ decimal arity []) ++ (46 ∷ 10 ∷ [])))
line-parts key n arity =
    ap (key ++◌) (ap {B = List ℕ} (λ x. 115 ∷ x)
    (ap (decimal n) (ap {B = List ℕ} (λ x. 47 ∷ x) (decimal-append arity [] (46 ∷ 10 ∷ []))) ∙ decimal-append n [] ((47 ∷ decimal arity []) ++ (46 ∷ 10 ∷ []))))

functor-line : (k n : ℕ) (rest : List ℕ) → symbol_text (functor k) n rest ≡ line_text (102 ∷ 110 ∷ 32 ∷ []) n k ++ rest
unfolding symbol_text declaration_text name_text fn_text
functor-line k n rest = line-append (102 ∷ 110 ∷ 32 ∷ []) n k rest

predicate-line : (k n : ℕ) (rest : List ℕ) → symbol_text (predicate k) n rest ≡ line_text (112 ∷ 114 ∷ 32 ∷ []) n k ++ rest
unfolding symbol_text declaration_text name_text pr_text
predicate-line k n rest = line-append (112 ∷ 114 ∷ 32 ∷ []) n k rest

symbol-append : (s : Symbol) (n : ℕ) (rest : List ℕ) → symbol_text s n rest ≡ symbol_text s n [] ++ rest
symbol-append (functor k) n rest =
    functor-line k n rest ∙ ap (◌++ rest) (sym (append-nil (line_text (102 ∷ 110 ∷ 32 ∷ []) n k)) ∙ sym (functor-line k n []))
symbol-append (predicate k) n rest =
    predicate-line k n rest ∙ ap (◌++ rest) (sym (append-nil (line_text (112 ∷ 114 ∷ 32 ∷ []) n k)) ∙ sym (predicate-line k n []))

-- A number's line.
value-append : (w : ℕ) (xs rest : List ℕ) → value_text w (xs ++ rest) ≡ value_text w xs ++ rest
unfolding value_text
value-append w xs rest = go (ltb w 32768) refl
  where
    go : (b : Bool) → ltb w 32768 ≡ b → value_text w (xs ++ rest) ≡ value_text w xs ++ rest
    go true e = rw (e, value_text) (decimal-append w xs rest)
    go false e = rw (e, value_text) (ap {B = List ℕ} (λ x. 45 ∷ x) (decimal-append (65536 - w) xs rest))

number-append : (w n : ℕ) (rest : List ℕ) → number_text w n rest ≡ number_text w n [] ++ rest
unfolding number_text name_text nu_text
number-append w n rest =
    ap {B = List ℕ} (λ x. 110 ∷ 117 ∷ 32 ∷ 115 ∷ x)
    (ap (decimal n) (ap {B = List ℕ} (λ x. 32 ∷ x) (value-append w (46 ∷ 10 ∷ []) rest)) ∙ decimal-append n (32 ∷ value_text w (46 ∷ 10 ∷ [])) rest)

pub number-parts : (w n : ℕ) → number_text w n [] ≡ (110 ∷ 117 ∷ 32 ∷ []) ++ ((115 ∷ decimal n []) ++ ((32 ∷ value_text w []) ++ (46 ∷ 10 ∷ [])))
unfolding number_text name_text nu_text
number-parts w n =
    ap {B = List ℕ} (λ x. 110 ∷ 117 ∷ 32 ∷ 115 ∷ x)
    (ap (decimal n) (ap {B = List ℕ} (λ x. 32 ∷ x) (value-append w [] (46 ∷ 10 ∷ []))) ∙ decimal-append n [] (32 ∷ (value_text w [] ++ (46 ∷ 10 ∷ []))))

pub value-small : (w : ℕ) → w < 32768 → value_text w [] ≡ decimal w []
unfolding value_text
value-small w h = rw (lt-ltb w 32768 h, value_text) refl

pub value-negative : (w : ℕ) → 32768 ≤ w → value_text w [] ≡ 45 ∷ decimal (65536 - w) []
unfolding value_text
value-negative w h = rw (le-ltb w 32768 h, value_text) refl

line-behind : (s : Symbol) (o : Option ℕ) (n : ℕ) (rest : List ℕ) → symbol_line s o n rest ≡ symbol_line s o n [] ++ rest
unfolding symbol_line
line-behind s none n rest = symbol-append s n rest
line-behind s (some w) n rest = number-append w n rest

pub plain-line : (s : Symbol) (o : Option ℕ) (n : ℕ) → o ≡ none → symbol_line s o n [] ≡ symbol_text s n []
unfolding symbol_line
plain-line s none n e = refl
plain-line s (some w) n e = absurd (none-ne-some w (sym e))

pub value-line : (s : Symbol) (o : Option ℕ) (n w : ℕ) → o ≡ some w → symbol_line s o n [] ≡ number_text w n []
unfolding symbol_line
value-line s none n w e = absurd (none-ne-some w e)
value-line s (some x) n w e = ap (λ k. number_text k n []) (some-injective x w e)

no-symbols : (F : Format) (n : ℕ) → symbols_text F n [] [] ≡ []
unfolding symbols_text
no-symbols F n = refl

symbols-parts : (F : Format) (n : ℕ) (s : Symbol) (ss : List Symbol) → symbols_text F n (s ∷ ss) [] ≡ symbol_line s (number_word F n) n [] ++ symbols_text F (suc n) ss []
unfolding symbols_text
symbols-parts F n s ss = line-behind s (number_word F n) n (symbols_text F (suc n) ss [])

symbols-append : (F : Format) (n : ℕ) (ss : List Symbol) (rest : List ℕ) → symbols_text F n ss rest ≡ symbols_text F n ss [] ++ rest
unfolding symbols_text
symbols-append F n [] rest = refl
symbols-append F n (s ∷ ss) rest =
    let line = symbol_line s (number_word F n) n in
    ap line (symbols-append F (suc n) ss rest)
    ∙ line-behind s (number_word F n) n (symbols_text F (suc n) ss [] ++ rest)
    ∙ sym (append_assoc (line []) (symbols_text F (suc n) ss []) rest)
    ∙ ap (◌++ rest) (sym (symbols-parts F n s ss))

-- The line of the format.
format-append : (F : Format) (rest : List ℕ) → format_text F rest ≡ format_text F [] ++ rest
unfolding format_text v2_text
format-append format1 rest = refl
format-append (format2 vs) rest = refl

pub format-line : (F : Format) → is_second F ≡ true → format_text F [] ≡ 118 ∷ 50 ∷ 46 ∷ 10 ∷ []
unfolding format_text v2_text
format-line format1 e = cc
format-line (format2 vs) e = refl

pub no-format-line : (F : Format) → is_second F ≡ false → format_text F [] ≡ []
unfolding format_text
no-format-line format1 e = refl
no-format-line (format2 vs) e = cc

-- The line of a symbol word, and the lines from a symbol on.
pub functor-text : (w n : ℕ) → leb 256 w ≡ false → symbol_text (symbol_of w) n [] ≡ line_text (102 ∷ 110 ∷ 32 ∷ []) n (w % 256)
functor-text w n h =
    ap (λ (s : Symbol). symbol_text s n []) (kind-functor w h) ∙ functor-line (w % 256) n [] ∙ append-nil (line_text (102 ∷ 110 ∷ 32 ∷ []) n (w % 256))

pub predicate-text : (w n : ℕ) → leb 256 w ≡ true → symbol_text (symbol_of w) n [] ≡ line_text (112 ∷ 114 ∷ 32 ∷ []) n (w % 256)
predicate-text w n h =
    ap (λ (s : Symbol). symbol_text s n []) (kind-predicate w h) ∙ predicate-line (w % 256) n [] ∙ append-nil (line_text (112 ∷ 114 ∷ 32 ∷ []) n (w % 256))

pub symbols-next :
    (F : Format) (ws : List ℕ) (i : ℕ) → i < length ws
    → symbols_text F i (symbols_of (drop i ws)) [] ≡ symbol_line (symbol_of (get_or ws i 0)) (number_word F i) i [] ++ symbols_text F (i + 1) (symbols_of (drop (i + 1) ws)) []
unfolding symbols_of
symbols-next F ws i h =
    rw (add-one i)
    (ap (λ (l : List ℕ). symbols_text F i (symbols_of l) []) (drop-cons ws i 0 h) ∙ symbols-parts F i (symbol_of (get_or ws i 0)) (symbols_of (drop (suc i) ws)))

pub symbols-end : (F : Format) (ws : List ℕ) (i : ℕ) → length ws ≤ i → symbols_text F i (symbols_of (drop i ws)) [] ≡ []
unfolding symbols_of
symbols-end F ws i h = ap (λ (l : List ℕ). symbols_text F i (symbols_of l) []) (drop_of_length-le ws {i = i} h) ∙ no-symbols F i

-- The clauses from a clause on.
pub clauses-next : (cs : List Clause) (i : ℕ) (c : Clause) → drop i cs ≡ c ∷ drop (i + 1) cs → clauses_text (drop i cs) ≡ clause_text c [] ++ clauses_text (drop (i + 1) cs)
clauses-next cs i c e = ap clauses_text e ∙ clauses-parts c (drop (i + 1) cs)

pub clauses-end : (cs : List Clause) (i : ℕ) → length cs ≤ i → clauses_text (drop i cs) ≡ []
clauses-end cs i h = ap clauses_text (drop_of_length-le cs {i = i} h) ∙ no-clauses

pub deck-parts : (d : Deck) → deck_text d ≡ (format_text d.format [] ++ symbols_text d.format 0 d.symbols []) ++ clauses_text d.clauses
unfolding deck_text
deck-parts d =
    let lines = symbols_text d.format 0 d.symbols [] in
    format-append d.format (symbols_text d.format 0 d.symbols (clauses_text d.clauses))
    ∙ ap (format_text d.format [] ++◌) (symbols-append d.format 0 d.symbols (clauses_text d.clauses))
    ∙ sym (append_assoc (format_text d.format []) lines (clauses_text d.clauses))
