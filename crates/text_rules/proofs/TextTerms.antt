-- The tokens of written terms, and what reading makes of them: the grammar takes them, their arguments are counted, and their cells are the terms' cells.
use Prim.Native.Nat.{ℕ, zero, suc, ◌+◌, ◌≤◌, ◌<◌}
use mathlib.Core.Path.{◌≡◌, refl, ap, ap₂, sym, ◌∙◌}
use mathlib.Core.Bool.{false}
use mathlib.Core.Option.{Option, none, some, none-ne-some}
use mathlib.Core.List.{List, [], ◌∷◌}
use native.Mathlib.Omega.{arith}
use lib.ListN.{length, get_elem?}
use Rattle.rules.specs.Terms.{Term, var, app, Terms, nil, cons, count, vars_term, vars_terms}
use Rattle.rules.specs.Syntax.{Symbol, functor, predicate}
use Rattle.rules.specs.Cells.{function, symbol_cell, read_cell}
use Rattle.rules.specs.WellFormed.{All, WfTerm, WfTerms}
use Rattle.text_rules.specs.TextTokens.{Kind, name, variable, opening, closing, comma, class_in, ranges, class_of, is_class, digit_byte, word_byte, longest, Token, token, token_from, tokens}
use Rattle.text_rules.specs.TextGrammar.{is, Part, term, named, after, after_term, after_name, follows, next, unread}
use Rattle.text_rules.specs.TextWords.{arity, commas, given_arguments, Use, Entry, a_variable, a_symbol, entry_after, entries}
use Rattle.text_rules.specs.TextWriter.{name_text, term_text, arguments_text, more_text}
use Rattle.rules.proofs.CellLaws.{Small, cell-symbol, written_as, after-term}
use Rattle.text_rules.proofs.TextScan.{name_token, var_token, scan-name, scan-variable, value-decimal}

-- Symbol f has arity k.
abbrev pub Has : List Symbol → ℕ → ℕ → Type 0
Has S f k = (s : Symbol) × (get_elem? S f ≡ some s) × (arity s ≡ k)

-- Terms that have a text: each symbol is followed by as many terms as its arity, each variable is at most 1,023.
abbrev mutual
  pub TextTerm : List Symbol → Term → Type 0
  TextTerm S (var v) = v ≤ 1023
  TextTerm S (app f ts) = Has S f (count ts) × TextTerms S ts

  pub TextTerms : List Symbol → Terms → Type 0
  TextTerms S nil = Unit {0}
  TextTerms S (cons t ts) = TextTerm S t × TextTerms S ts

function-has : (S : List Symbol) (f k : ℕ) → read_cell S f ≡ function f k → Has S f k
unfolding symbol_cell
function-has S f k e = go (get_elem? S f) refl (sym (cell-symbol S f (written_as S f (function f k) e).1) ∙ e)
  where
    go : (o : Option Symbol) → get_elem? S f ≡ o → symbol_cell f o ≡ function f k → Has S f k
    go none q z = let n : ◌≡◌ {A = ℕ} 0 1 = cc in absurd (omega arith)
    go (some (functor m)) q z = (functor m, q, cc)
    go (some (predicate m)) q z = let n : ◌≡◌ {A = ℕ} 0 1 = cc in absurd (omega arith)

mutual
  term-has : (S : List Symbol) (t : Term) (vs : List ℕ) → WfTerm S t → All Small (vars_term t vs) → TextTerm S t
  term-has S (var v) vs w h = h.0
  term-has S (app f ts) vs w h = (function-has S f (count ts) w.0, terms-have S ts vs w.1 h)

  pub terms-have : (S : List Symbol) (ts : Terms) (vs : List ℕ) → WfTerms S ts → All Small (vars_terms ts vs) → TextTerms S ts
  terms-have S nil vs w h = tt
  terms-have S (cons t ts) vs w h = (term-has S t (vars_terms ts vs) w.0 h, terms-have S ts vs w.1 (after-term Small t (vars_terms ts vs) h))

has-below : (S : List Symbol) (f k : ℕ) → Has S f k → f < length S
has-below S f k h = go S f h.0 h.1
  where
    go : (S : List Symbol) (i : ℕ) (s : Symbol) → get_elem? S i ≡ some s → i < length S
    go [] i s e = absurd (none-ne-some s e)
    go (t ∷ S) zero s e = omega arith
    go (t ∷ S) (suc i) s e = omega (arith, go S i s e)

-- A byte that ends a name and a number.
abbrev pub Ends : List ℕ → Type 0
Ends rest = (longest word_byte rest ≡ []) × (longest digit_byte rest ≡ [])

abbrev pub mark_token : Kind → ℕ → List ℕ → Token
mark_token k b rest = token k (b ∷ []) (length (b ∷ rest))

-- The tokens of terms; `rest` and `ts` are the bytes and the tokens that follow.
abbrev mutual
  pub term_tokens : Term → List ℕ → List Token → List Token
  term_tokens (var v) rest ts = var_token v rest ∷ ts
  term_tokens (app f us) rest ts = name_token f (arguments_text us rest) ∷ arguments_tokens us rest ts

  pub arguments_tokens : Terms → List ℕ → List Token → List Token
  arguments_tokens nil rest ts = ts
  arguments_tokens (cons u us) rest ts =
      mark_token opening 40 (term_text u (more_text us (41 ∷ rest))) ∷ term_tokens u (more_text us (41 ∷ rest)) (more_tokens us (41 ∷ rest) (mark_token closing 41 rest ∷ ts))

  pub more_tokens : Terms → List ℕ → List Token → List Token
  more_tokens nil rest ts = ts
  more_tokens (cons u us) rest ts = mark_token comma 44 (term_text u (more_text us rest)) ∷ term_tokens u (more_text us rest) (more_tokens us rest ts)

pub mark-ends : (b : ℕ) (rest : List ℕ) → word_byte b ≡ false → digit_byte b ≡ false → Ends (b ∷ rest)
unfolding longest
mark-ends b rest p q = (rw (p, longest), rw (q, longest))

more-ends : (us : Terms) (rest : List ℕ) → Ends rest → Ends (more_text us rest)
unfolding word_byte digit_byte is_class class_of class_in ranges
more-ends nil rest e = e
more-ends (cons u us) rest e = mark-ends 44 (term_text u (more_text us rest)) refl refl

pub arguments-end : (us : Terms) (rest : List ℕ) → Ends rest → Ends (arguments_text us rest)
unfolding word_byte digit_byte is_class class_of class_in ranges
arguments-end nil rest e = e
arguments-end (cons u us) rest e = mark-ends 40 (term_text u (more_text us (41 ∷ rest))) refl refl

pub scan-atom :
    (S : List Symbol) → length S ≤ 4096 → (f k : ℕ) (rest : List ℕ) (ts : List Token) → Has S f k → Ends rest → tokens 0 rest ≡ ts
    → tokens 0 (name_text f rest) ≡ name_token f rest ∷ ts
scan-atom S few f k rest ts h e r = scan-name f rest (omega (arith, has-below S f k h)) e.0 ∙ ap {B = List Token} (name_token f rest ∷◌) r

module _ (S : List Symbol) (few : length S ≤ 4096) where
  mutual
    unfolding tokens token_from word_byte digit_byte is_class class_of class_in ranges

    scan-term : (t : Term) (rest : List ℕ) → TextTerm S t → Ends rest → tokens 0 (term_text t rest) ≡ term_tokens t rest (tokens 0 rest)
    scan-term (var v) rest w e = scan-variable v rest w e.1
    scan-term (app f us) rest w e = scan-atom S few f (count us) (arguments_text us rest) _ w.0 (arguments-end us rest e) (scan-arguments us rest w.1 e)

    pub scan-arguments : (us : Terms) (rest : List ℕ) → TextTerms S us → Ends rest → tokens 0 (arguments_text us rest) ≡ arguments_tokens us rest (tokens 0 rest)
    scan-arguments nil rest w e = refl
    scan-arguments (cons u us) rest w e =
        let r : List ℕ = 41 ∷ rest in
        let er : Ends r = mark-ends 41 rest refl refl in
        ap {B = List Token} (mark_token opening 40 (term_text u (more_text us r)) ∷◌)
        (scan-term u (more_text us r) w.0 (more-ends us r er) ∙ ap (term_tokens u (more_text us r)) (scan-more us r w.1 er))

    scan-more : (us : Terms) (rest : List ℕ) → TextTerms S us → Ends rest → tokens 0 (more_text us rest) ≡ more_tokens us rest (tokens 0 rest)
    scan-more nil rest w e = refl
    scan-more (cons u us) rest w e =
        ap {B = List Token} (mark_token comma 44 (term_text u (more_text us rest)) ∷◌)
        (scan-term u (more_text us rest) w.0 (more-ends us rest e) ∙ ap (term_tokens u (more_text us rest)) (scan-more us rest w.1 e))

-- The next token is neither an opening bracket nor a name.
abbrev pub Apart : List Token → Type 0
Apart [] = Unit {0}
Apart (t ∷ ts) = (is opening t ≡ false) × (is name t ≡ false)

more-apart : (us : Terms) (rest : List ℕ) (ts : List Token) → Apart ts → Apart (more_tokens us rest ts)
more-apart nil rest ts h = h
more-apart (cons u us) rest ts h = (refl, refl)

-- The grammar takes them.
name-next : (p : Part) (d : ℕ) (t : Token) → is opening t ≡ false → next (after_name p d) t ≡ next (after_term p d) t
unfolding after_name next
name-next p d t e = rw (e, next)

named-after : (p : Part) (d : ℕ) (ts : List Token) → Apart ts → unread (named p d) ts ≡ unread (after p d) ts
unfolding unread follows
named-after p d [] h = refl
named-after p d (t ∷ ts) h = rw (name-next p d t h.0, unread)

mutual
  unfolding unread follows after_name after_term next

  unread-term : (p : Part) (d : ℕ) (t : Term) (rest : List ℕ) (ts : List Token) → Apart ts → unread (term p (suc d)) (term_tokens t rest ts) ≡ unread (after p (suc d)) ts
  unread-term p d (var v) rest ts h = refl
  unread-term p d (app f us) rest ts h = unread-arguments p (suc d) us rest ts h

  pub unread-arguments : (p : Part) (d : ℕ) (us : Terms) (rest : List ℕ) (ts : List Token) → Apart ts → unread (named p d) (arguments_tokens us rest ts) ≡ unread (after p d) ts
  unread-arguments p d nil rest ts h = named-after p d ts h
  unread-arguments p d (cons u us) rest ts h =
      let more = more_tokens us (41 ∷ rest) (mark_token closing 41 rest ∷ ts) in
      unread-term p d u (more_text us (41 ∷ rest)) more (more-apart us (41 ∷ rest) (mark_token closing 41 rest ∷ ts) (refl, refl))
      ∙ unread-more p d us (41 ∷ rest) (mark_token closing 41 rest ∷ ts) (refl, refl)

  unread-more : (p : Part) (d : ℕ) (us : Terms) (rest : List ℕ) (ts : List Token) → Apart ts → unread (after p (suc d)) (more_tokens us rest ts) ≡ unread (after p (suc d)) ts
  unread-more p d nil rest ts h = refl
  unread-more p d (cons u us) rest ts h =
      unread-term p d u (more_text us rest) (more_tokens us rest ts) (more-apart us rest ts h) ∙ unread-more p d us rest ts h

-- Their arguments are counted.
commas-opening : (d : ℕ) (rest : List ℕ) (ts : List Token) → commas d (mark_token opening 40 rest ∷ ts) ≡ commas (suc d) ts
unfolding commas
commas-opening zero rest ts = refl
commas-opening (suc d) rest ts = refl

commas-name : (d f : ℕ) (rest : List ℕ) (ts : List Token) → commas d (name_token f rest ∷ ts) ≡ commas d ts
unfolding commas
commas-name zero f rest ts = refl
commas-name (suc d) f rest ts = refl

commas-variable : (d v : ℕ) (rest : List ℕ) (ts : List Token) → commas d (var_token v rest ∷ ts) ≡ commas d ts
unfolding commas
commas-variable zero v rest ts = refl
commas-variable (suc d) v rest ts = refl

mutual
  unfolding commas

  commas-term : (d : ℕ) (t : Term) (rest : List ℕ) (ts : List Token) → commas d (term_tokens t rest ts) ≡ commas d ts
  commas-term d (var v) rest ts = commas-variable d v rest ts
  commas-term d (app f us) rest ts = commas-name d f (arguments_text us rest) (arguments_tokens us rest ts) ∙ commas-arguments d us rest ts

  commas-arguments : (d : ℕ) (us : Terms) (rest : List ℕ) (ts : List Token) → commas d (arguments_tokens us rest ts) ≡ commas d ts
  commas-arguments d nil rest ts = refl
  commas-arguments d (cons u us) rest ts =
      let more = more_tokens us (41 ∷ rest) (mark_token closing 41 rest ∷ ts) in
      commas-opening d (term_text u (more_text us (41 ∷ rest))) (term_tokens u (more_text us (41 ∷ rest)) more)
      ∙ commas-term (suc d) u (more_text us (41 ∷ rest)) more
      ∙ commas-more d us (41 ∷ rest) (mark_token closing 41 rest ∷ ts)

  commas-more : (d : ℕ) (us : Terms) (rest : List ℕ) (ts : List Token) → commas (suc d) (more_tokens us rest ts) ≡ commas (suc d) ts
  commas-more d nil rest ts = refl
  commas-more d (cons u us) rest ts = commas-term (suc d) u (more_text us rest) (more_tokens us rest ts) ∙ commas-more d us rest ts

commas-count : (us : Terms) (rest : List ℕ) (ts : List Token) → commas 0 (more_tokens us rest ts) ≡ count us + commas 0 ts
unfolding commas
commas-count nil rest ts = omega arith
commas-count (cons u us) rest ts = ap suc (commas-term 0 u (more_text us rest) (more_tokens us rest ts) ∙ commas-count us rest ts) ∙ omega arith

pub arguments-given : (us : Terms) (rest : List ℕ) (ts : List Token) → Apart ts → given_arguments (arguments_tokens us rest ts) ≡ count us
unfolding given_arguments commas
arguments-given nil rest [] h = refl
arguments-given nil rest (t ∷ ts) h = rw (h.0, given_arguments)
arguments-given (cons u us) rest ts h =
    let close = mark_token closing 41 rest ∷ ts in
    ap suc (commas-term 0 u (more_text us (41 ∷ rest)) (more_tokens us (41 ∷ rest) close) ∙ commas-count us (41 ∷ rest) close ∙ omega arith)

-- Their entries.
abbrev pub use_of : ℕ → ℕ → List ℕ → Use
use_of f k rest = record { name = name_text f []; arguments = k; left = length (name_text f rest) }

abbrev mutual
  pub term_entries : Term → List ℕ → List Entry → List Entry
  term_entries (var v) rest es = a_variable v ∷ es
  term_entries (app f us) rest es = a_symbol (use_of f (count us) (arguments_text us rest)) ∷ arguments_entries us rest es

  pub arguments_entries : Terms → List ℕ → List Entry → List Entry
  arguments_entries nil rest es = es
  arguments_entries (cons u us) rest es = term_entries u (more_text us (41 ∷ rest)) (more_entries us (41 ∷ rest) es)

  pub more_entries : Terms → List ℕ → List Entry → List Entry
  more_entries nil rest es = es
  more_entries (cons u us) rest es = term_entries u (more_text us rest) (more_entries us rest es)

-- What comes before tells nothing of a token that is no name.
pub entries-any : (k l : Kind) (ts : List Token) → Apart ts → entries k ts ≡ entries l ts
unfolding entries
entries-any k l [] h = refl
entries-any k l (t ∷ ts) h = rw (h.1, entries)

pub entries-name :
    (k : Kind) (make : Use → Entry) (f : ℕ) (us : Terms) (rest : List ℕ) (ts : List Token) → ((u : Use) → entry_after k u ≡ make u) → Apart ts
    → entries k (name_token f (arguments_text us rest) ∷ arguments_tokens us rest ts)
    ≡ make (use_of f (count us) (arguments_text us rest)) ∷ entries name (arguments_tokens us rest ts)
unfolding entries
entries-name k make f us rest ts e h =
    ap {B = List Entry} (◌∷ entries name (arguments_tokens us rest ts)) (rw (arguments-given us rest ts h) (e (use_of f (count us) (arguments_text us rest))))

mutual
  unfolding entries entry_after

  entries-term :
      (k : Kind) (t : Term) (rest : List ℕ) (ts : List Token) → ((u : Use) → entry_after k u ≡ a_symbol u) → Apart ts
      → entries k (term_tokens t rest ts) ≡ term_entries t rest (entries name ts)
  entries-term k (var v) rest ts e h = ap₂ {C = List Entry} (λ n es. a_variable n ∷ es) (value-decimal v) (entries-any variable name ts h)
  entries-term k (app f us) rest ts e h =
      entries-name k a_symbol f us rest ts e h
      ∙ ap {B = List Entry} (a_symbol (use_of f (count us) (arguments_text us rest)) ∷◌) (entries-arguments us rest ts h)

  pub entries-arguments : (us : Terms) (rest : List ℕ) (ts : List Token) → Apart ts → entries name (arguments_tokens us rest ts) ≡ arguments_entries us rest (entries name ts)
  entries-arguments nil rest ts h = refl
  entries-arguments (cons u us) rest ts h =
      let close = mark_token closing 41 rest ∷ ts in
      entries-term opening u (more_text us (41 ∷ rest)) (more_tokens us (41 ∷ rest) close) (λ u. refl) (more-apart us (41 ∷ rest) close (refl, refl))
      ∙ ap (term_entries u (more_text us (41 ∷ rest)))
      (entries-more us (41 ∷ rest) close (refl, refl) ∙ ap (more_entries us (41 ∷ rest)) (entries-any closing name ts h))

  entries-more : (us : Terms) (rest : List ℕ) (ts : List Token) → Apart ts → entries name (more_tokens us rest ts) ≡ more_entries us rest (entries name ts)
  entries-more nil rest ts h = refl
  entries-more (cons u us) rest ts h =
      entries-term comma u (more_text us rest) (more_tokens us rest ts) (λ u. refl) (more-apart us rest ts h)
      ∙ ap (term_entries u (more_text us rest)) (entries-more us rest ts h)
