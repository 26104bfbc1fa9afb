-- Reading what the writer writes gives back the deck's words.
use Prim.Native.Nat.{ℕ, zero, suc, ◌+◌, ◌-◌, ◌≤◌, ◌<◌}
use mathlib.Core.Path.{◌≡◌, refl, ap, ap₂, sym, ◌∙◌, subst}
use mathlib.Core.Bool.{Bool, true, false, ◌&&◌, and-eq-true_iff}
use mathlib.Core.Option.{Option, none, some, none-ne-some, some-injective}
use mathlib.Core.List.{List, [], ◌∷◌, ◌++◌, map, append_assoc}
use native.Mathlib.Omega.{arith}
use lib.ListN.{length, get_elem?, length-map}
use lib.Dec.{leb}
use borrow.Author.Tests.{eq-eqb, le-leb}
use Rattle.rules.specs.Terms.{Term, var, app, Terms, nil, cons, count, size, sizes}
use Rattle.rules.specs.Syntax.{Symbol, functor, predicate, Literal, pos, neg, Clause, Format, format1, format2, Deck, arguments, vars_literals}
use Rattle.rules.specs.Cells.{write_term, write_terms, write_literal, write_literals, positive, negative, symbol_cell, negated_cell, read_cell}
use Rattle.rules.specs.Refusals.{accepted, and_then, require}
use Rattle.rules.specs.Decks.{write_pairs, write_symbols, format_number, write_clause, clauses_cells, clause_starts, header_words, write_deck, open_deck}
use Rattle.rules.specs.WellFormed.{All, WfLiterals, WfClause, WfSymbol, WfValues, WfFormat, WfDeck, clause_literals}
use Rattle.rules.specs.Column.{flatten, number_word}
use Rattle.rules.specs.Listing.{decimal}
use Rattle.text_rules.specs.TextTokens.{Kind, name, number, implies, slash, dot, comma, tilde, class_in, ranges, class_of, is_class, digit_byte, word_byte, longest, value, Token, token, end_token, implies_token, token_from, tokens}
use Rattle.text_rules.specs.TextGrammar.{same_bytes, fn_text, pr_text, nu_text, v2_text, is_key, is_number_key, is_v2, head, body, item, clause, literal, named, after, after_term, follows, next, unread}
use Rattle.text_rules.specs.TextWords.{Declaration, symbol_from, value_word, begins_v2, items, declares, symbol_declaration, number_declaration, declaration, tokens_after, declarations, clause_tokens, arity, Use, Entry, a_variable, a_head, a_negated, a_symbol, entry_after, entries, number_of, is_number, declared_twice, has_arity, declared_at, well_used, misused, symbol_number, entry_cell, starts_from, format_from, deck_from}
use Rattle.text_rules.specs.TextWriter.{name_text, declaration_text, symbol_text, value_text, number_text, symbol_line, symbols_text, format_text, arguments_text, more_text, literal_text, literals_text, body_text, clause_text, clauses_text, deck_text}
use Rattle.text_rules.specs.Text.{numbers_in, text_items, text_declarations, text_entries, text_unread, text_format, text_words, or_else, bad_left, place_of, bad_place, absent, read_text, write_text}
use Rattle.rules.proofs.CellLaws.{Small, in_order-small, literals-vars, literals-length, literal_sizes, terms-length, write-append, after-terms, cell-symbol, cell-negated, written_as}
use Rattle.rules.proofs.DeckLaws.{deck-length, starts-length, open-written, opened-written}
use Rattle.text_rules.proofs.TextTrees.{on-value}
use Rattle.rules.proofs.ListLaws.{all_split}
use Rattle.text_rules.proofs.TextScan.{name_token, value_token, scan-arity, scan-value, value-stands, value-read, value-decimal, same_name, other_name, scan-name}
use Rattle.text_rules.proofs.TextTerms.{Has, TextTerm, TextTerms, terms-have, Ends, mark_token, mark-ends, arguments_tokens, arguments-end, scan-atom, scan-arguments, Apart, unread-arguments, use_of, term_entries, arguments_entries, more_entries, entries-name, entries-arguments}

-- Declarations of the symbols from number n on.
abbrev Declares : Format → ℕ → List Symbol → List Declaration → Type 0
Declares F n [] [] = Unit {0}
Declares F n [] (d ∷ ds) = ⊥
Declares F n (s ∷ S) [] = ⊥
Declares F n (s ∷ S) (d ∷ ds) = (d.symbol ≡ s) × (d.name ≡ name_text n []) × (d.value ≡ number_word F n) × Declares F (suc n) S ds

number-here : (n : List ℕ) (at : ℕ) (d : Declaration) (ds : List Declaration) → same_bytes n d.name ≡ true → number_of n at (d ∷ ds) ≡ some at
unfolding number_of
number-here n at d ds e = rw (e, number_of)

number-later : (n : List ℕ) (at : ℕ) (d : Declaration) (ds : List Declaration) → same_bytes n d.name ≡ false → number_of n at (d ∷ ds) ≡ number_of n (suc at) ds
unfolding number_of
number-later n at d ds e = rw (e, number_of)

found :
    (F : Format) (n : ℕ) (S : List Symbol) (ds : List Declaration) (i : ℕ) (s : Symbol) → Declares F n S ds → get_elem? S i ≡ some s
    → (number_of (name_text (n + i) []) n ds ≡ some (n + i)) × (d : Declaration) × (get_elem? ds i ≡ some d) × (d.symbol ≡ s)
found F n [] ds i s w e = absurd (none-ne-some s e)
found F n (s' ∷ S) [] i s w e = absurd w
found F n (s' ∷ S) (d ∷ ds) zero s w e =
    let z : n + 0 ≡ n = omega arith in
    let q : same_bytes (name_text n []) d.name ≡ true = ap (same_bytes (name_text n [])) w.1 ∙ same_name n in
    let t : s' ≡ s = cc in
    (subst (λ m. number_of (name_text m []) n (d ∷ ds) ≡ some m) (sym z) (number-here (name_text n []) n d ds q), d, refl, w.0 ∙ t)
found F n (s' ∷ S) (d ∷ ds) (suc i) s w e =
    let r = found F (suc n) S ds i s w.3 e in
    let z : n + suc i ≡ suc n + i = omega arith in
    let q : same_bytes (name_text (suc n + i) []) d.name ≡ false = ap (same_bytes (name_text (suc n + i) [])) w.1 ∙ other_name (suc n + i) n (λ e. omega arith) in
    (subst (λ m. number_of (name_text m []) n (d ∷ ds) ≡ some m) (sym z) (number-later (name_text (suc n + i) []) n d ds q ∙ r.0), r.1, r.2, r.3)

module _ (F : Format) (S : List Symbol) (ds : List Declaration) (w : Declares F 0 S ds) where
  number-found : (f : ℕ) (s : Symbol) → get_elem? S f ≡ some s → (number_of (name_text f []) 0 ds ≡ some f) × (d : Declaration) × (get_elem? ds f ≡ some d) × (d.symbol ≡ s)
  number-found f s e = let r = found F 0 S ds f s w e in let z : 0 + f ≡ f = omega arith in (rw z at r.0, r.1, r.2, r.3)

  well-used : (f k : ℕ) (rest : List ℕ) → Has S f k → well_used ds (use_of f k rest) ≡ true
  unfolding well_used declared_at has_arity
  well-used f k rest h =
      let r = number-found f h.0 h.1 in
      rw (r.0, r.2) (eq-eqb (arity r.1.symbol) k (ap arity r.3 ∙ h.2))

  right-number : (f k : ℕ) (rest : List ℕ) → Has S f k → symbol_number ds (use_of f k rest) ≡ f
  unfolding symbol_number
  right-number f k rest h = rw ((number-found f h.0 h.1).0, symbol_number)

  -- Entries in front of others: nothing is misused, and there are n cells.
  abbrev StandFor : List Entry → List Entry → (List ℕ → List ℕ) → ℕ → Type 0
  StandFor es fs write n =
      (misused ds es ≡ misused ds fs) × (map (entry_cell ds) es ≡ write (map (entry_cell ds) fs)) × ((at : ℕ) → starts_from at es ≡ starts_from (at + n) fs)

  stands-none : (es : List Entry) → StandFor es es (λ x. x) 0
  stands-none es = (refl, refl, λ at. ap (λ k. starts_from k es) (omega arith))

  stands-join :
      (es fs gs : List Entry) (write write' : List ℕ → List ℕ) (n m : ℕ) → StandFor es fs write n → StandFor fs gs write' m
      → StandFor es gs (λ x. write (write' x)) (n + m)
  stands-join es fs gs write write' n m a b =
      (a.0 ∙ b.0, a.1 ∙ ap write b.1, λ at. a.2 at ∙ b.2 (at + n) ∙ ap (λ k. starts_from k gs) (omega arith))

  stands-variable : (v : ℕ) (es : List Entry) → StandFor (a_variable v ∷ es) es ((32768 + v) ∷◌) 1
  unfolding misused entry_cell starts_from
  stands-variable v es = (refl, refl, λ at. ap (λ k. starts_from k es) (omega arith))

  stands-symbol : (f k : ℕ) (rest : List ℕ) (es : List Entry) → Has S f k → StandFor (a_symbol (use_of f k rest) ∷ es) es (f ∷◌) 1
  unfolding misused entry_cell starts_from
  stands-symbol f k rest es h =
      (rw (well-used f k rest h, misused), ap {B = List ℕ} (◌∷ map (entry_cell ds) es) (right-number f k rest h), λ at. ap (λ k. starts_from k es) (omega arith))

  stands-negated : (f k : ℕ) (rest : List ℕ) (es : List Entry) → Has S f k → StandFor (a_negated (use_of f k rest) ∷ es) es ((16384 + f) ∷◌) 1
  unfolding misused entry_cell starts_from
  stands-negated f k rest es h = (
    rw (well-used f k rest h, misused),
    ap {B = List ℕ} (λ n. (16384 + n) ∷ map (entry_cell ds) es) (right-number f k rest h),
    λ at. ap (λ k. starts_from k es) (omega arith),
  )

  mutual
    stands-term : (t : Term) (rest : List ℕ) (es : List Entry) → TextTerm S t → StandFor (term_entries t rest es) es (write_term t) (size t)
    stands-term (var v) rest es h = stands-variable v es
    stands-term (app f us) rest es h =
        let a = stands-symbol f (count us) (arguments_text us rest) (arguments_entries us rest es) h.0 in
        let b = stands-arguments us rest es h.1 in
        (a.0 ∙ b.0, a.1 ∙ ap {B = List ℕ} (f ∷◌) b.1, λ at. a.2 at ∙ b.2 (at + 1) ∙ ap (λ k. starts_from k es) (omega arith))

    stands-arguments : (us : Terms) (rest : List ℕ) (es : List Entry) → TextTerms S us → StandFor (arguments_entries us rest es) es (write_terms us) (sizes us)
    stands-arguments nil rest es h = stands-none es
    stands-arguments (cons u us) rest es h =
        stands-join (term_entries u (more_text us (41 ∷ rest)) (more_entries us (41 ∷ rest) es)) (more_entries us (41 ∷ rest) es) es (write_term u) (write_terms us) (size u) (sizes us)
        (stands-term u (more_text us (41 ∷ rest)) (more_entries us (41 ∷ rest) es) h.0) (stands-more us (41 ∷ rest) es h.1)

    stands-more : (us : Terms) (rest : List ℕ) (es : List Entry) → TextTerms S us → StandFor (more_entries us rest es) es (write_terms us) (sizes us)
    stands-more nil rest es h = stands-none es
    stands-more (cons u us) rest es h =
        stands-join (term_entries u (more_text us rest) (more_entries us rest es)) (more_entries us rest es) es (write_term u) (write_terms us) (size u) (sizes us)
        (stands-term u (more_text us rest) (more_entries us rest es) h.0) (stands-more us rest es h.1)

-- Literals that have a text.
abbrev TextLiteral : List Symbol → Literal → Type 0
TextLiteral S (pos p us) = Has S p (count us) × TextTerms S us
TextLiteral S (neg p us) = Has S p (count us) × TextTerms S us

positive_has : (S : List Symbol) (p k : ℕ) → read_cell S p ≡ positive p k → Has S p k
unfolding symbol_cell
positive_has S p k e = go (get_elem? S p) refl (sym (cell-symbol S p (written_as S p (positive p k) e).1) ∙ e)
  where
    go : (o : Option Symbol) → get_elem? S p ≡ o → symbol_cell p o ≡ positive p k → Has S p k
    go none q z = let n : ◌≡◌ {A = ℕ} 0 1 = cc in absurd (omega arith)
    go (some (functor m)) q z = let n : ◌≡◌ {A = ℕ} 0 1 = cc in absurd (omega arith)
    go (some (predicate m)) q z = (predicate m, q, cc)

negative-has : (S : List Symbol) (p k : ℕ) → read_cell S (16384 + p) ≡ negative p k → Has S p k
unfolding negated_cell
negative-has S p k e =
    let n : 16384 + p - 16384 ≡ p = omega arith in
    go (get_elem? S p) refl
    (sym (cell-negated S (16384 + p) (omega arith) (written_as S (16384 + p) (negative p k) e).1 ∙ ap (λ m. negated_cell m (get_elem? S m)) n) ∙ e)
  where
    go : (o : Option Symbol) → get_elem? S p ≡ o → negated_cell p o ≡ negative p k → Has S p k
    go none q z = let n : ◌≡◌ {A = ℕ} 0 1 = cc in absurd (omega arith)
    go (some (functor m)) q z = let n : ◌≡◌ {A = ℕ} 0 1 = cc in absurd (omega arith)
    go (some (predicate m)) q z = (predicate m, q, cc)

literals-have : (S : List Symbol) (ls : List Literal) → WfLiterals S ls → All Small (vars_literals ls) → All (TextLiteral S) ls
literals-have S [] w h = tt
literals-have S (pos p us ∷ ls) w h =
    ((positive_has S p (count us) w.0.0, terms-have S us (vars_literals ls) w.0.1 h), literals-have S ls w.1 (after-terms Small us (vars_literals ls) h))
literals-have S (neg p us ∷ ls) w h =
    ((negative-has S p (count us) w.0.0, terms-have S us (vars_literals ls) w.0.1 h), literals-have S ls w.1 (after-terms Small us (vars_literals ls) h))

abbrev TextClause : List Symbol → Clause → Type 0
TextClause S c = (Has S c.predicate (count c.arguments) × TextTerms S c.arguments) × All (TextLiteral S) c.body

clauses-have : (S : List Symbol) (cs : List Clause) → All (WfClause S) cs → All (TextClause S) cs
unfolding write_clause
clauses-have S [] w = tt
clauses-have S (c ∷ cs) w =
    let few : length (vars_literals (clause_literals c)) ≤ 1024 = omega (arith, literals-vars (clause_literals c), literals-length (clause_literals c), w.0.short) in
    (literals-have S (clause_literals c) w.0.literals (in_order-small (vars_literals (clause_literals c)) w.0.in_order few), clauses-have S cs w.1)

-- Tokens of literals and clauses.
abbrev literal_tokens : Literal → List ℕ → List Token → List Token
literal_tokens (pos p us) rest ts = name_token p (arguments_text us rest) ∷ arguments_tokens us rest ts
literal_tokens (neg p us) rest ts = mark_token tilde 126 (name_text p (arguments_text us rest)) ∷ name_token p (arguments_text us rest) ∷ arguments_tokens us rest ts

abbrev literals_tokens : List Literal → List ℕ → List Token → List Token
literals_tokens [] rest ts = ts
literals_tokens (l ∷ ls) rest ts = mark_token comma 44 (32 ∷ literal_text l (literals_text ls rest)) ∷ literal_tokens l (literals_text ls rest) (literals_tokens ls rest ts)

abbrev body_tokens : List Literal → List ℕ → List Token → List Token
body_tokens [] rest ts = ts
body_tokens (l ∷ ls) rest ts =
    token implies (58 ∷ 45 ∷ []) (length (58 ∷ 45 ∷ 32 ∷ literal_text l (literals_text ls rest))) ∷ literal_tokens l (literals_text ls rest) (literals_tokens ls rest ts)

abbrev body_and_dot : Clause → List ℕ → List Token → List Token
body_and_dot c rest ts = body_tokens c.body (46 ∷ 10 ∷ rest) (mark_token dot 46 (10 ∷ rest) ∷ ts)

abbrev one_clause : Clause → List ℕ → List Token → List Token
one_clause c rest ts =
    let after = body_text c.body (46 ∷ 10 ∷ rest) in
    name_token c.predicate (arguments_text c.arguments after) ∷ arguments_tokens c.arguments after (body_and_dot c rest ts)

abbrev all_clauses : List Clause → List Token
all_clauses [] = end_token ∷ []
all_clauses (c ∷ cs) = one_clause c (clauses_text cs) (all_clauses cs)

literals_end : (ls : List Literal) (rest : List ℕ) → Ends rest → Ends (literals_text ls rest)
unfolding literals_text word_byte digit_byte is_class class_of class_in ranges
literals_end [] rest e = e
literals_end (l ∷ ls) rest e = mark-ends 44 (32 ∷ literal_text l (literals_text ls rest)) refl refl

body_end : (ls : List Literal) (rest : List ℕ) → Ends rest → Ends (body_text ls rest)
unfolding body_text word_byte digit_byte is_class class_of class_in ranges
body_end [] rest e = e
body_end (l ∷ ls) rest e = mark-ends 32 (58 ∷ 45 ∷ 32 ∷ literal_text l (literals_text ls rest)) refl refl

dot-ends : (rest : List ℕ) → Ends (46 ∷ rest)
unfolding word_byte digit_byte is_class class_of class_in ranges
dot-ends rest = mark-ends 46 rest refl refl

module _ (S : List Symbol) (few : length S ≤ 4096) where
  scan-literal : (l : Literal) (rest : List ℕ) → TextLiteral S l → Ends rest → tokens 0 (literal_text l rest) ≡ literal_tokens l rest (tokens 0 rest)
  unfolding literal_text tokens token_from is_class class_of class_in ranges
  scan-literal (pos p us) rest w e =
      scan-atom S few p (count us) (arguments_text us rest) _ w.0 (arguments-end us rest e) (scan-arguments S few us rest w.1 e)
  scan-literal (neg p us) rest w e =
      ap {B = List Token} (mark_token tilde 126 (name_text p (arguments_text us rest)) ∷◌)
      (scan-atom S few p (count us) (arguments_text us rest) _ w.0 (arguments-end us rest e) (scan-arguments S few us rest w.1 e))

  scan-literals : (ls : List Literal) (rest : List ℕ) → All (TextLiteral S) ls → Ends rest → tokens 0 (literals_text ls rest) ≡ literals_tokens ls rest (tokens 0 rest)
  unfolding literals_text tokens token_from is_class class_of class_in ranges
  scan-literals [] rest w e = refl
  scan-literals (l ∷ ls) rest w e =
      ap {B = List Token} (mark_token comma 44 (32 ∷ literal_text l (literals_text ls rest)) ∷◌)
      (scan-literal l (literals_text ls rest) w.0 (literals_end ls rest e) ∙ ap (literal_tokens l (literals_text ls rest)) (scan-literals ls rest w.1 e))

  scan-body : (ls : List Literal) (rest : List ℕ) → All (TextLiteral S) ls → Ends rest → tokens 0 (body_text ls rest) ≡ body_tokens ls rest (tokens 0 rest)
  unfolding body_text tokens token_from implies_token is_class class_of class_in ranges
  scan-body [] rest w e = refl
  scan-body (l ∷ ls) rest w e =
      ap {B = List Token} (token implies (58 ∷ 45 ∷ []) (length (58 ∷ 45 ∷ 32 ∷ literal_text l (literals_text ls rest))) ∷◌)
      (scan-literal l (literals_text ls rest) w.0 (literals_end ls rest e) ∙ ap (literal_tokens l (literals_text ls rest)) (scan-literals ls rest w.1 e))

  scan-clause : (c : Clause) (rest : List ℕ) → TextClause S c → tokens 0 (clause_text c rest) ≡ one_clause c rest (tokens 0 rest)
  unfolding clause_text tokens token_from is_class class_of class_in ranges
  scan-clause c rest w =
      let after = body_text c.body (46 ∷ 10 ∷ rest) in
      let e : Ends after = body_end c.body (46 ∷ 10 ∷ rest) (dot-ends (10 ∷ rest)) in
      scan-atom S few c.predicate (count c.arguments) (arguments_text c.arguments after) _ w.0.0 (arguments-end c.arguments after e)
      (scan-arguments S few c.arguments after w.0.1 e ∙ ap (arguments_tokens c.arguments after) (scan-body c.body (46 ∷ 10 ∷ rest) w.1 (dot-ends (10 ∷ rest))))

  scan-clauses : (cs : List Clause) → All (TextClause S) cs → tokens 0 (clauses_text cs) ≡ all_clauses cs
  unfolding clauses_text tokens
  scan-clauses [] w = refl
  scan-clauses (c ∷ cs) w = scan-clause c (clauses_text cs) w.0 ∙ ap (one_clause c (clauses_text cs)) (scan-clauses cs w.1)

-- The grammar takes them.
literals-apart : (ls : List Literal) (rest : List ℕ) (ts : List Token) → Apart ts → Apart (literals_tokens ls rest ts)
literals-apart [] rest ts h = h
literals-apart (l ∷ ls) rest ts h = (refl, refl)

body-apart : (ls : List Literal) (rest : List ℕ) (ts : List Token) → Apart ts → Apart (body_tokens ls rest ts)
body-apart [] rest ts h = h
body-apart (l ∷ ls) rest ts h = (refl, refl)

unread-literal : (l : Literal) (rest : List ℕ) (ts : List Token) → Apart ts → unread literal (literal_tokens l rest ts) ≡ unread (after body 0) ts
unfolding unread follows next
unread-literal (pos p us) rest ts h = unread-arguments body 0 us rest ts h
unread-literal (neg p us) rest ts h = unread-arguments body 0 us rest ts h

unread-literals : (ls : List Literal) (rest : List ℕ) (ts : List Token) → Apart ts → unread (after body 0) (literals_tokens ls rest ts) ≡ unread (after body 0) ts
unfolding unread follows after_term next
unread-literals [] rest ts h = refl
unread-literals (l ∷ ls) rest ts h =
    unread-literal l (literals_text ls rest) (literals_tokens ls rest ts) (literals-apart ls rest ts h) ∙ unread-literals ls rest ts h

unread-clause : (c : Clause) (rest : List ℕ) (ts : List Token) → unread (named head 0) (arguments_tokens c.arguments (body_text c.body (46 ∷ 10 ∷ rest)) (body_and_dot c rest ts)) ≡ unread clause ts
unfolding unread follows after_term next
unread-clause c rest ts =
    unread-arguments head 0 c.arguments (body_text c.body (46 ∷ 10 ∷ rest)) (body_and_dot c rest ts)
    (body-apart c.body (46 ∷ 10 ∷ rest) (mark_token dot 46 (10 ∷ rest) ∷ ts) (refl, refl))
    ∙ go c.body
  where
    go : (ls : List Literal) → unread (after head 0) (body_tokens ls (46 ∷ 10 ∷ rest) (mark_token dot 46 (10 ∷ rest) ∷ ts)) ≡ unread clause ts
    go [] = refl
    go (l ∷ ls) =
        let end = mark_token dot 46 (10 ∷ rest) ∷ ts in
        let after : List ℕ = 46 ∷ 10 ∷ rest in
        unread-literal l (literals_text ls after) (literals_tokens ls after end) (literals-apart ls after end (refl, refl)) ∙ unread-literals ls after end (refl, refl)

unread-clauses : (cs : List Clause) → unread clause (all_clauses cs) ≡ none
unfolding unread follows next
unread-clauses [] = refl
unread-clauses (c ∷ cs) = unread-clause c (clauses_text cs) (all_clauses cs) ∙ unread-clauses cs

unread-first : (m : Bool) (cs : List Clause) → unread (item m) (all_clauses cs) ≡ none
unfolding unread follows next is_key is_number_key same_bytes fn_text pr_text nu_text name_text
unread-first false [] = refl
unread-first true [] = refl
unread-first false (c ∷ cs) = unread-clause c (clauses_text cs) (all_clauses cs) ∙ unread-clauses cs
unread-first true (c ∷ cs) = unread-clause c (clauses_text cs) (all_clauses cs) ∙ unread-clauses cs

-- Their entries.
abbrev literal_entries : Literal → List ℕ → List Entry → List Entry
literal_entries (pos p us) rest es = a_symbol (use_of p (count us) (arguments_text us rest)) ∷ arguments_entries us rest es
literal_entries (neg p us) rest es = a_negated (use_of p (count us) (arguments_text us rest)) ∷ arguments_entries us rest es

abbrev literals_entries : List Literal → List ℕ → List Entry → List Entry
literals_entries [] rest es = es
literals_entries (l ∷ ls) rest es = literal_entries l (literals_text ls rest) (literals_entries ls rest es)

abbrev clause_entries : Clause → List ℕ → List Entry → List Entry
clause_entries c rest es =
    let after = body_text c.body (46 ∷ 10 ∷ rest) in
    a_head (use_of c.predicate (count c.arguments) (arguments_text c.arguments after))
    ∷ arguments_entries c.arguments after (literals_entries c.body (46 ∷ 10 ∷ rest) es)

abbrev all_entries : List Clause → List Entry
all_entries [] = []
all_entries (c ∷ cs) = clause_entries c (clauses_text cs) (all_entries cs)

entries-literal :
    (k : Kind) (l : Literal) (rest : List ℕ) (ts : List Token) → ((u : Use) → entry_after k u ≡ a_symbol u) → Apart ts
    → entries k (literal_tokens l rest ts) ≡ literal_entries l rest (entries name ts)
unfolding entries entry_after
entries-literal k (pos p us) rest ts e h =
    entries-name k a_symbol p us rest ts e h ∙ ap {B = List Entry} (a_symbol (use_of p (count us) (arguments_text us rest)) ∷◌) (entries-arguments us rest ts h)
entries-literal k (neg p us) rest ts e h =
    entries-name tilde a_negated p us rest ts (λ u. refl) h
    ∙ ap {B = List Entry} (a_negated (use_of p (count us) (arguments_text us rest)) ∷◌) (entries-arguments us rest ts h)

entries-literals : (ls : List Literal) (rest : List ℕ) (ts : List Token) → Apart ts → entries name (literals_tokens ls rest ts) ≡ literals_entries ls rest (entries name ts)
unfolding entries entry_after
entries-literals [] rest ts h = refl
entries-literals (l ∷ ls) rest ts h =
    entries-literal comma l (literals_text ls rest) (literals_tokens ls rest ts) (λ u. refl) (literals-apart ls rest ts h)
    ∙ ap (literal_entries l (literals_text ls rest)) (entries-literals ls rest ts h)

entries-body : (ls : List Literal) (rest : List ℕ) (ts : List Token) → Apart ts → entries name (body_tokens ls rest ts) ≡ literals_entries ls rest (entries name ts)
unfolding entries entry_after
entries-body [] rest ts h = refl
entries-body (l ∷ ls) rest ts h =
    entries-literal implies l (literals_text ls rest) (literals_tokens ls rest ts) (λ u. refl) (literals-apart ls rest ts h)
    ∙ ap (literal_entries l (literals_text ls rest)) (entries-literals ls rest ts h)

entries-clauses : (cs : List Clause) → entries dot (all_clauses cs) ≡ all_entries cs
unfolding entries entry_after
entries-clauses [] = refl
entries-clauses (c ∷ cs) =
    let rest = clauses_text cs in
    let behind : List ℕ = 46 ∷ 10 ∷ rest in
    let end = mark_token dot 46 (10 ∷ rest) ∷ all_clauses cs in
    let after = body_text c.body behind in
    let apart = body-apart c.body behind end (refl, refl) in
    entries-name dot a_head c.predicate c.arguments after (body_and_dot c rest (all_clauses cs)) (λ u. refl) apart
    ∙ ap {B = List Entry} (a_head (use_of c.predicate (count c.arguments) (arguments_text c.arguments after)) ∷◌)
    (entries-arguments c.arguments after (body_and_dot c rest (all_clauses cs)) apart
    ∙ ap (arguments_entries c.arguments after)
    (entries-body c.body behind end (refl, refl) ∙ ap (literals_entries c.body behind) (entries-clauses cs)))

-- Cells that follow are put behind.
terms-behind : (ts : Terms) (xs ys : List ℕ) → write_terms ts (xs ++ ys) ≡ write_terms ts xs ++ ys
terms-behind ts xs ys = write-append ts (xs ++ ys) ∙ sym (append_assoc (write_terms ts []) xs ys) ∙ ap (◌++ ys) (sym (write-append ts xs))

literal-behind : (l : Literal) (xs ys : List ℕ) → write_literal l (xs ++ ys) ≡ write_literal l xs ++ ys
literal-behind (pos p ts) xs ys = ap {B = List ℕ} (p ∷◌) (terms-behind ts xs ys)
literal-behind (neg p ts) xs ys = ap {B = List ℕ} ((16384 + p) ∷◌) (terms-behind ts xs ys)

module _ (F : Format) (S : List Symbol) (ds : List Declaration) (w : Declares F 0 S ds) where
  stands-literal : (l : Literal) (rest : List ℕ) (es : List Entry) → TextLiteral S l → StandFor F S ds w (literal_entries l rest es) es (write_literal l) (suc (sizes (arguments l)))
  stands-literal (pos p us) rest es h =
      let a = stands-symbol F S ds w p (count us) (arguments_text us rest) (arguments_entries us rest es) h.0 in
      let b = stands-arguments F S ds w us rest es h.1 in
      (a.0 ∙ b.0, a.1 ∙ ap {B = List ℕ} (p ∷◌) b.1, λ at. a.2 at ∙ b.2 (at + 1) ∙ ap (λ k. starts_from k es) (omega arith))
  stands-literal (neg p us) rest es h =
      let a = stands-negated F S ds w p (count us) (arguments_text us rest) (arguments_entries us rest es) h.0 in
      let b = stands-arguments F S ds w us rest es h.1 in
      (a.0 ∙ b.0, a.1 ∙ ap {B = List ℕ} ((16384 + p) ∷◌) b.1, λ at. a.2 at ∙ b.2 (at + 1) ∙ ap (λ k. starts_from k es) (omega arith))

  stands-literals :
      (ls : List Literal) (rest : List ℕ) (es : List Entry) → All (TextLiteral S) ls → StandFor F S ds w (literals_entries ls rest es) es (write_literals ls ++◌) (literal_sizes ls)
  stands-literals [] rest es h = stands-none F S ds w es
  stands-literals (l ∷ ls) rest es h =
      let a = stands-literal l (literals_text ls rest) (literals_entries ls rest es) h.0 in
      let b = stands-literals ls rest es h.1 in (
        a.0 ∙ b.0,
        a.1 ∙ ap (write_literal l) b.1 ∙ literal-behind l (write_literals ls) (map (entry_cell ds) es),
        λ at. a.2 at ∙ b.2 (at + suc (sizes (arguments l))) ∙ ap (λ k. starts_from k es) (omega arith),
      )

  -- A clause: its cells, and its start before those of the others.
  stands-clause :
      (c : Clause) (rest : List ℕ) (es : List Entry) → TextClause S c
      → (misused ds (clause_entries c rest es) ≡ misused ds es)
      × (map (entry_cell ds) (clause_entries c rest es) ≡ write_clause c ++ map (entry_cell ds) es)
      × ((at : ℕ) → starts_from at (clause_entries c rest es) ≡ at ∷ starts_from (at + length (write_clause c)) es)
  unfolding misused entry_cell starts_from write_clause
  stands-clause c rest es h =
      let behind : List ℕ = 46 ∷ 10 ∷ rest in
      let after = body_text c.body behind in
      let fs = literals_entries c.body behind es in
      let more = arguments_text c.arguments after in
      let k = count c.arguments in
      let a = stands-arguments F S ds w c.arguments after fs h.0.1 in
      let b = stands-literals c.body behind es h.1 in (
        rw (well-used F S ds w c.predicate k more h.0.0, misused) (a.0 ∙ b.0),
        ap₂ {C = List ℕ} ◌∷◌ (right-number F S ds w c.predicate k more h.0.0) (a.1 ∙ ap (write_terms c.arguments) b.1 ∙ terms-behind c.arguments (write_literals c.body) (map (entry_cell ds) es)),
        λ at.
            ap {B = List ℕ} (at ∷◌)
            (a.2 (suc at)
            ∙ b.2 (suc at + sizes c.arguments)
            ∙ ap (λ n. starts_from n es) (omega (arith, terms-length c.arguments (write_literals c.body), literals-length c.body))),
      )

  stands-clauses :
      (cs : List Clause) → All (TextClause S) cs
      → (misused ds (all_entries cs) ≡ none) × (map (entry_cell ds) (all_entries cs) ≡ clauses_cells cs) × ((at : ℕ) → starts_from at (all_entries cs) ≡ clause_starts at cs)
  unfolding misused starts_from clauses_cells clause_starts
  stands-clauses [] h = (refl, refl, λ at. refl)
  stands-clauses (c ∷ cs) h =
      let a = stands-clause c (clauses_text cs) (all_entries cs) h.0 in
      let b = stands-clauses cs h.1 in
      (a.0 ∙ b.0, a.1 ∙ ap (write_clause c ++◌) b.1, λ at. a.2 at ∙ ap {B = List ℕ} (at ∷◌) (b.2 (at + length (write_clause c))))

-- Tokens of declarations.
abbrev key_token : List ℕ → ℕ → ℕ → List ℕ → Token
key_token key n k rest = token name key (length (key ++ (32 ∷ name_text n (47 ∷ decimal k (46 ∷ 10 ∷ rest)))))

abbrev declaration_tokens : List ℕ → ℕ → ℕ → List ℕ → List Token → List Token
declaration_tokens key n k rest ts =
    let end : List ℕ = 46 ∷ 10 ∷ rest in
    let count : List ℕ = 47 ∷ decimal k end in
    key_token key n k rest
    ∷ name_token n count
    ∷ mark_token slash 47 (decimal k end)
    ∷ token number (decimal k []) (length (decimal k end))
    ∷ mark_token dot 46 (10 ∷ rest)
    ∷ ts

abbrev symbol_tokens : Symbol → ℕ → List ℕ → List Token → List Token
symbol_tokens (functor k) n rest ts = declaration_tokens fn_text n k rest ts
symbol_tokens (predicate k) n rest ts = declaration_tokens pr_text n k rest ts

abbrev number_tokens : ℕ → ℕ → List ℕ → List Token → List Token
number_tokens w n rest ts =
    let end : List ℕ = 46 ∷ 10 ∷ rest in
    let amount : List ℕ = 32 ∷ value_text w end in
    token name nu_text (length (nu_text ++ (32 ∷ name_text n amount)))
    ∷ name_token n amount
    ∷ value_token w end
    ∷ mark_token dot 46 (10 ∷ rest)
    ∷ ts

abbrev line_tokens : Symbol → Option ℕ → ℕ → List ℕ → List Token → List Token
line_tokens s none n rest ts = symbol_tokens s n rest ts
line_tokens s (some w) n rest ts = number_tokens w n rest ts

abbrev symbols_tokens : Format → ℕ → List Symbol → List ℕ → List Token → List Token
symbols_tokens F n [] rest ts = ts
symbols_tokens F n (s ∷ S) rest ts = line_tokens s (number_word F n) n (symbols_text F (suc n) S rest) (symbols_tokens F (suc n) S rest ts)

abbrev format_tokens : Format → List ℕ → List Token → List Token
format_tokens format1 rest ts = ts
format_tokens (format2 vs) rest ts = token name v2_text (length (v2_text ++ (46 ∷ 10 ∷ rest))) ∷ mark_token dot 46 (10 ∷ rest) ∷ ts

-- Lines that can be written: an arity of at most 15; a functor of arity 0 with a value of 16 bits.
abbrev LineFits : Symbol → Option ℕ → Type 0
LineFits s none = WfSymbol s
LineFits s (some w) = (s ≡ functor 0) × (w < 65536)

abbrev LinesFit : Format → ℕ → List Symbol → Type 0
LinesFit F n [] = Unit {0}
LinesFit F n (s ∷ S) = LineFits s (number_word F n) × LinesFit F (suc n) S

scan-declared : (n k : ℕ) (rest : List ℕ) → n < 4096 → k ≤ 15
    → tokens 0 (name_text n (47 ∷ decimal k (46 ∷ 10 ∷ rest)))
    ≡ name_token n (47 ∷ decimal k (46 ∷ 10 ∷ rest))
    ∷ mark_token slash 47 (decimal k (46 ∷ 10 ∷ rest))
    ∷ token number (decimal k []) (length (decimal k (46 ∷ 10 ∷ rest)))
    ∷ mark_token dot 46 (10 ∷ rest)
    ∷ tokens 0 rest
unfolding tokens token_from longest word_byte digit_byte is_class class_of class_in ranges
scan-declared n k rest h l =
    let end : List ℕ = 46 ∷ 10 ∷ rest in
    scan-name n (47 ∷ decimal k end) h refl
    ∙ ap {B = List Token} (λ ts. name_token n (47 ∷ decimal k end) ∷ mark_token slash 47 (decimal k end) ∷ ts) (scan-arity k (10 ∷ rest) l)

scan-symbol : (s : Symbol) (n : ℕ) (rest : List ℕ) → n < 4096 → WfSymbol s → tokens 0 (symbol_text s n rest) ≡ symbol_tokens s n rest (tokens 0 rest)
unfolding symbol_text declaration_text fn_text pr_text tokens token_from longest word_byte digit_byte is_class class_of class_in ranges
scan-symbol (functor k) n rest h l = ap {B = List Token} (key_token fn_text n k rest ∷◌) (scan-declared n k rest h l)
scan-symbol (predicate k) n rest h l = ap {B = List Token} (key_token pr_text n k rest ∷◌) (scan-declared n k rest h l)

scan-number-line : (w n : ℕ) (rest : List ℕ) → n < 4096 → tokens 0 (number_text w n rest) ≡ number_tokens w n rest (tokens 0 rest)
unfolding number_text nu_text tokens token_from longest word_byte digit_byte is_class class_of class_in ranges
scan-number-line w n rest h =
    let end : List ℕ = 46 ∷ 10 ∷ rest in
    let amount : List ℕ = 32 ∷ value_text w end in
    ap {B = List Token} (token name nu_text (length (nu_text ++ (32 ∷ name_text n amount))) ∷◌)
    (scan-name n amount h refl ∙ ap {B = List Token} (name_token n amount ∷◌) (scan-value w end refl))

scan-line : (s : Symbol) (o : Option ℕ) (n : ℕ) (rest : List ℕ) → n < 4096 → LineFits s o → tokens 0 (symbol_line s o n rest) ≡ line_tokens s o n rest (tokens 0 rest)
unfolding symbol_line
scan-line s none n rest h l = scan-symbol s n rest h l
scan-line s (some w) n rest h l = scan-number-line w n rest h

scan-symbols :
    (F : Format) (n : ℕ) (S : List Symbol) (rest : List ℕ) → n + length S ≤ 4096 → LinesFit F n S
    → tokens 0 (symbols_text F n S rest) ≡ symbols_tokens F n S rest (tokens 0 rest)
unfolding symbols_text
scan-symbols F n [] rest h w = refl
scan-symbols F n (s ∷ S) rest h w =
    scan-line s (number_word F n) n (symbols_text F (suc n) S rest) (omega arith) w.0
    ∙ ap (line_tokens s (number_word F n) n (symbols_text F (suc n) S rest)) (scan-symbols F (suc n) S rest (omega arith) w.1)

scan-format : (F : Format) (rest : List ℕ) → tokens 0 (format_text F rest) ≡ format_tokens F rest (tokens 0 rest)
unfolding format_text v2_text tokens token_from longest word_byte digit_byte is_class class_of class_in ranges
scan-format format1 rest = refl
scan-format (format2 vs) rest = refl

-- Numbers are declared in format 2 alone.
abbrev has_numbers : Format → Bool
has_numbers format1 = false
has_numbers (format2 vs) = true

unread-symbol : (m : Bool) (s : Symbol) (n : ℕ) (rest : List ℕ) (ts : List Token) → unread (item m) (symbol_tokens s n rest ts) ≡ unread (item m) ts
unfolding unread follows next is_key same_bytes fn_text pr_text
unread-symbol false (functor k) n rest ts = refl
unread-symbol false (predicate k) n rest ts = refl
unread-symbol true (functor k) n rest ts = refl
unread-symbol true (predicate k) n rest ts = refl

unread-number : (w n : ℕ) (rest : List ℕ) (ts : List Token) → w < 65536 → unread (item true) (number_tokens w n rest ts) ≡ unread (item true) ts
unfolding unread follows next is_key is_number_key same_bytes fn_text pr_text nu_text
unread-number w n rest ts h = on-value (value_token w (46 ∷ 10 ∷ rest)) (mark_token dot 46 (10 ∷ rest) ∷ ts) (value-stands w (46 ∷ 10 ∷ rest) h)

unread-line :
    (s : Symbol) (o : Option ℕ) (n : ℕ) (rest : List ℕ) (ts : List Token) → LineFits s o → unread (item true) (line_tokens s o n rest ts) ≡ unread (item true) ts
unread-line s none n rest ts w = unread-symbol true s n rest ts
unread-line s (some v) n rest ts w = unread-number v n rest ts w.1

unread-symbols :
    (F : Format) (n : ℕ) (S : List Symbol) (rest : List ℕ) (ts : List Token) → LinesFit F n S
    → unread (item (has_numbers F)) (symbols_tokens F n S rest ts) ≡ unread (item (has_numbers F)) ts
unfolding number_word
unread-symbols F n [] rest ts w = refl
unread-symbols format1 n (s ∷ S) rest ts w =
    unread-symbol false s n (symbols_text format1 (suc n) S rest) (symbols_tokens format1 (suc n) S rest ts) ∙ unread-symbols format1 (suc n) S rest ts w.1
unread-symbols (format2 vs) n (s ∷ S) rest ts w =
    let F = format2 vs in
    unread-line s (number_word F n) n (symbols_text F (suc n) S rest) (symbols_tokens F (suc n) S rest ts) w.0 ∙ unread-symbols F (suc n) S rest ts w.1

-- What is left after them, and what they declare.
no-declarations : (cs : List Clause) → declarations 0 (all_clauses cs) ≡ []
unfolding declarations declares is_key is_number_key same_bytes fn_text pr_text nu_text name_text
no-declarations [] = refl
no-declarations (c ∷ cs) = refl

no-skip : (cs : List Clause) → clause_tokens 0 (all_clauses cs) ≡ all_clauses cs
unfolding clause_tokens declares is_key is_number_key same_bytes fn_text pr_text nu_text name_text
no-skip [] = refl
no-skip (c ∷ cs) = refl

line-left : (s : Symbol) (o : Option ℕ) (n : ℕ) (rest : List ℕ) (ts : List Token) → clause_tokens 0 (line_tokens s o n rest ts) ≡ clause_tokens 0 ts
unfolding clause_tokens declares tokens_after is_key is_number_key same_bytes fn_text pr_text nu_text
line-left (functor k) none n rest ts = refl
line-left (predicate k) none n rest ts = refl
line-left s (some w) n rest ts = refl

clauses-left : (F : Format) (n : ℕ) (S : List Symbol) (rest : List ℕ) (cs : List Clause) → clause_tokens 0 (symbols_tokens F n S rest (all_clauses cs)) ≡ all_clauses cs
clauses-left F n [] rest cs = no-skip cs
clauses-left F n (s ∷ S) rest cs =
    line-left s (number_word F n) n (symbols_text F (suc n) S rest) (symbols_tokens F (suc n) S rest (all_clauses cs)) ∙ clauses-left F (suc n) S rest cs

line-declared :
    (s : Symbol) (o : Option ℕ) (n : ℕ) (rest : List ℕ) (ts : List Token) → LineFits s o
    → (d : Declaration) × (declarations 0 (line_tokens s o n rest ts) ≡ d ∷ declarations 0 ts) × (d.symbol ≡ s) × (d.name ≡ name_text n []) × (d.value ≡ o)
unfolding declarations declares declaration symbol_declaration number_declaration tokens_after symbol_from is_key is_number_key same_bytes fn_text pr_text nu_text
line-declared (functor k) none n rest ts w = (
  record { symbol = functor (value 0 (decimal k [])); value = none; name = name_text n []; left = length (name_text n (47 ∷ decimal k (46 ∷ 10 ∷ rest))) },
  refl,
  ap {B = Symbol} functor (value-decimal k),
  refl,
  refl,
)
line-declared (predicate k) none n rest ts w = (
  record { symbol = predicate (value 0 (decimal k [])); value = none; name = name_text n []; left = length (name_text n (47 ∷ decimal k (46 ∷ 10 ∷ rest))) },
  refl,
  ap {B = Symbol} predicate (value-decimal k),
  refl,
  refl,
)
line-declared s (some v) n rest ts w = (
  record { symbol = functor 0; value = some (value_word (value_text v [])); name = name_text n []; left = length (name_text n (32 ∷ value_text v (46 ∷ 10 ∷ rest))) },
  refl,
  sym w.0,
  refl,
  ap {B = Option ℕ} some (value-read v w.1),
)

declared-symbols :
    (F : Format) (n : ℕ) (S : List Symbol) (rest : List ℕ) (cs : List Clause) → LinesFit F n S
    → Declares F n S (declarations 0 (symbols_tokens F n S rest (all_clauses cs)))
declared-symbols F n [] rest cs w = rw (no-declarations cs) tt
declared-symbols F n (s ∷ S) rest cs w =
    let ts = symbols_tokens F (suc n) S rest (all_clauses cs) in
    let d = line-declared s (number_word F n) n (symbols_text F (suc n) S rest) ts w.0 in
    rw d.1 (d.2, d.3, d.4, declared-symbols F (suc n) S rest cs w.1)

declared-kinds : (F : Format) (n : ℕ) (S : List Symbol) (ds : List Declaration) → Declares F n S ds → map (λ (d : Declaration). d.symbol) ds ≡ S
declared-kinds F n [] [] w = refl
declared-kinds F n [] (d ∷ ds) w = absurd w
declared-kinds F n (s ∷ S) [] w = absurd w
declared-kinds F n (s ∷ S) (d ∷ ds) w = ap₂ {C = List Symbol} ◌∷◌ w.0 (declared-kinds F (suc n) S ds w.3)

rest-values : (s : Symbol) (S : List Symbol) (v : Option ℕ) (vs : List (Option ℕ)) → WfValues (s ∷ S) (v ∷ vs) → WfValues S vs
rest-values s S none vs f = f
rest-values s S (some x) vs f = f.1

-- Their values, where the first n of all are passed.
declared-values :
    (all : List (Option ℕ)) (n : ℕ) (S : List Symbol) (ds : List Declaration) (vs : List (Option ℕ)) → WfValues S vs → ((i : ℕ) → number_word (format2 all) (n + i) ≡ flatten (get_elem? vs i))
    → Declares (format2 all) n S ds → map (λ (d : Declaration). d.value) ds ≡ vs
declared-values all n [] [] [] f h w = refl
declared-values all n [] [] (v ∷ vs) f h w = absurd f
declared-values all n [] (d ∷ ds) vs f h w = absurd w
declared-values all n (s ∷ S) [] vs f h w = absurd w
declared-values all n (s ∷ S) (d ∷ ds) [] f h w = absurd f
declared-values all n (s ∷ S) (d ∷ ds) (v ∷ vs) f h w =
    let here : number_word (format2 all) n ≡ v = ap (number_word (format2 all)) (omega arith) ∙ h 0 ∙ (unfold flatten in refl) in
    let next = λ (i : ℕ). ap (number_word (format2 all)) (omega arith) ∙ h (suc i) in
    ap₂ {C = List (Option ℕ)} ◌∷◌ (w.2 ∙ here) (declared-values all (suc n) S ds vs (rest-values s S v vs f) next w.3)

declared-many : (F : Format) (n : ℕ) (S : List Symbol) (ds : List Declaration) → Declares F n S ds → length ds ≡ length S
declared-many F n S ds w = sym (length-map ds (λ (d : Declaration). d.symbol)) ∙ ap length (declared-kinds F n S ds w)

-- None is declared twice.
elem-some : (S : List Symbol) (i : ℕ) → i < length S → (s : Symbol) × (get_elem? S i ≡ some s)
elem-some [] i h = absurd (omega arith)
elem-some (s ∷ S) zero h = (s, refl)
elem-some (s ∷ S) (suc i) h = elem-some S i (omega arith)

once :
    (F : Format) (all : List Declaration) (n : ℕ) (S : List Symbol) (ds : List Declaration) → Declares F n S ds
    → ((i : ℕ) → i < n + length S → number_of (name_text i []) 0 all ≡ some i) → declared_twice all n ds ≡ none
unfolding declared_twice is_number
once F all n [] [] w h = refl
once F all n [] (d ∷ ds) w h = absurd w
once F all n (s ∷ S) [] w h = absurd w
once F all n (s ∷ S) (d ∷ ds) w h =
    let q : is_number (number_of d.name 0 all) n ≡ true = ap (λ x. is_number (number_of x 0 all) n) w.1 ∙ ap (λ o. is_number o n) (h n (omega arith)) ∙ eq-eqb n n refl in
    rw (q, declared_twice) (once F all (suc n) S ds w.3 (λ i l. h i (omega arith)))

-- The values of a deck of 16-bit words.
abbrev pub SmallValues : Format → Type 0
SmallValues F = (i w : ℕ) → number_word F i ≡ some w → w < 65536

plain-lines : (n : ℕ) (S : List Symbol) → All WfSymbol S → LinesFit format1 n S
unfolding number_word
plain-lines n [] a = tt
plain-lines n (s ∷ S) a = (a.0, plain-lines (suc n) S a.1)

line-fits : (F : Format) (n : ℕ) (s : Symbol) (S : List Symbol) (v : Option ℕ) (vs : List (Option ℕ)) → WfSymbol s → WfValues (s ∷ S) (v ∷ vs) → SmallValues F → number_word F n ≡ v → LineFits s (number_word F n)
line-fits F n s S none vs a f k e = subst (LineFits s) (sym e) a
line-fits F n s S (some w) vs a f k e = subst (LineFits s) (sym e) (f.0, k n w e)

valued-lines :
    (all : List (Option ℕ)) (n : ℕ) (S : List Symbol) (vs : List (Option ℕ)) → All WfSymbol S → WfValues S vs → SmallValues (format2 all)
    → ((i : ℕ) → number_word (format2 all) (n + i) ≡ flatten (get_elem? vs i)) → LinesFit (format2 all) n S
unfolding flatten
valued-lines all n [] vs a f k h = tt
valued-lines all n (s ∷ S) [] a f k h = absurd f
valued-lines all n (s ∷ S) (v ∷ vs) a f k h =
    let F = format2 all in
    let here : number_word F n ≡ v = ap (number_word F) (omega arith) ∙ h 0 in
    (line-fits F n s S v vs a.0 f k here, valued-lines all (suc n) S vs a.1 (rest-values s S v vs f) k (λ i. ap (number_word F) (omega arith) ∙ h (suc i)))

lines-fit : (F : Format) (S : List Symbol) → All WfSymbol S → WfFormat S F → SmallValues F → LinesFit F 0 S
unfolding number_word
lines-fit format1 S a f k = plain-lines 0 S a
lines-fit (format2 vs) S a f k = valued-lines vs 0 S vs a f.0 k (λ i. ap (λ j. flatten (get_elem? vs j)) (omega arith))

-- The format that they declare.
declared-format : (F : Format) (S : List Symbol) (ds : List Declaration) → WfFormat S F → Declares F 0 S ds → format_from (has_numbers F) ds ≡ F
unfolding format_from number_word
declared-format format1 S ds f w = refl
declared-format (format2 vs) S ds f w =
    ap {B = Format} format2 (declared-values vs 0 S ds vs f.0 (λ i. ap (λ j. flatten (get_elem? vs j)) (omega arith)) w)

-- Words of 16 bits have such values.
pairs-small : (S : List Symbol) (vs : List (Option ℕ)) → WfValues S vs → All (λ w. w < 65536) (write_pairs S vs) → (i w : ℕ) → flatten (get_elem? vs i) ≡ some w → w < 65536
unfolding write_pairs flatten
pairs-small [] [] f a i w e = absurd (none-ne-some w e)
pairs-small [] (v ∷ vs) f a i w e = absurd f
pairs-small (s ∷ S) [] f a i w e = absurd f
pairs-small (s ∷ S) (none ∷ vs) f a zero w e = absurd (none-ne-some w e)
pairs-small (s ∷ S) (none ∷ vs) f a (suc i) w e = pairs-small S vs f a.1.1 i w e
pairs-small (s ∷ S) (some v ∷ vs) f a zero w e = subst (λ x. x < 65536) (some-injective v w e) a.1.0
pairs-small (s ∷ S) (some v ∷ vs) f a (suc i) w e = pairs-small S vs f.1 a.1.1 i w e

values-small : (F : Format) (S : List Symbol) → WfFormat S F → All (λ w. w < 65536) (write_symbols F S) → SmallValues F
unfolding write_symbols number_word
values-small format1 S f a i w e = absurd (none-ne-some w e)
values-small (format2 vs) S f a i w e = pairs-small S vs f.0 a i w e

pub deck-small : (d : Deck) → WfDeck d → All (λ w. w < 65536) (write_deck d) → SmallValues d.format
unfolding write_deck
deck-small d wf a =
    let cells = clauses_cells d.clauses in
    let starts = clause_starts 0 d.clauses in
    let behind = (all_split (λ w. w < 65536) (header_words (format_number d.format) (length d.symbols) (length d.clauses) (length cells)) (write_symbols d.format d.symbols ++ (starts ++ cells)) a).1 in
    values-small d.format d.symbols wf.format (all_split (λ w. w < 65536) (write_symbols d.format d.symbols) (starts ++ cells) behind).0

-- Whether the text begins with `v2.`, and what is left.
no-mark : (S : List Symbol) (rest : List ℕ) (cs : List Clause) → begins_v2 (symbols_tokens format1 0 S rest (all_clauses cs)) ≡ false
unfolding begins_v2 is_v2 number_word same_bytes fn_text pr_text v2_text name_text
no-mark [] rest [] = refl
no-mark [] rest (c ∷ cs) = refl
no-mark (functor k ∷ S) rest cs = refl
no-mark (predicate k ∷ S) rest cs = refl

format-marked :
    (F : Format) (S : List Symbol) (cs : List Clause) → let rest = clauses_text cs in let ts = symbols_tokens F 0 S rest (all_clauses cs) in
    (begins_v2 (format_tokens F (symbols_text F 0 S rest) ts) ≡ has_numbers F) × (items (format_tokens F (symbols_text F 0 S rest) ts) ≡ ts)
unfolding items begins_v2 is_v2 same_bytes v2_text
format-marked format1 S cs = let e = no-mark S (clauses_text cs) cs in (e, rw (e, items) refl)
format-marked (format2 vs) S cs = (refl, refl)

-- THE DECK'S TEXT: it is not refused with 10, and stands for the deck's words.
module _ (d : Deck) (wf : WfDeck d) (small : SmallValues d.format) where
  abbrev item_tokens : List Token
  item_tokens = symbols_tokens d.format 0 d.symbols (clauses_text d.clauses) (all_clauses d.clauses)

  abbrev all_tokens : List Token
  all_tokens = format_tokens d.format (symbols_text d.format 0 d.symbols (clauses_text d.clauses)) item_tokens

  fits : LinesFit d.format 0 d.symbols
  fits = lines-fit d.format d.symbols wf.symbols wf.format small

  have : All (TextClause d.symbols) d.clauses
  have = clauses-have d.symbols d.clauses wf.clauses

  scan-deck : tokens 0 (deck_text d) ≡ all_tokens
  unfolding deck_text
  scan-deck =
      scan-format d.format (symbols_text d.format 0 d.symbols (clauses_text d.clauses))
      ∙ ap (format_tokens d.format (symbols_text d.format 0 d.symbols (clauses_text d.clauses)))
      (scan-symbols d.format 0 d.symbols (clauses_text d.clauses) (omega (arith, wf.few_symbols)) fits
      ∙ ap (symbols_tokens d.format 0 d.symbols (clauses_text d.clauses)) (scan-clauses d.symbols wf.few_symbols d.clauses have))

  deck-numbers : numbers_in (deck_text d) ≡ has_numbers d.format
  unfolding numbers_in
  deck-numbers = ap begins_v2 scan-deck ∙ (format-marked d.format d.symbols d.clauses).0

  deck-items : text_items (deck_text d) ≡ item_tokens
  unfolding text_items
  deck-items = ap items scan-deck ∙ (format-marked d.format d.symbols d.clauses).1

  deck-declares : Declares d.format 0 d.symbols (text_declarations (deck_text d))
  unfolding text_declarations
  deck-declares = rw deck-items (declared-symbols d.format 0 d.symbols (clauses_text d.clauses) d.clauses fits)

  deck-entries : text_entries (deck_text d) ≡ all_entries d.clauses
  unfolding text_entries
  deck-entries =
      ap (λ ts. entries dot (clause_tokens 0 ts)) deck-items
      ∙ ap (entries dot) (clauses-left d.format 0 d.symbols (clauses_text d.clauses) d.clauses)
      ∙ entries-clauses d.clauses

  deck-stands :
      (misused (text_declarations (deck_text d)) (text_entries (deck_text d)) ≡ none)
      × (map (entry_cell (text_declarations (deck_text d))) (text_entries (deck_text d)) ≡ clauses_cells d.clauses)
      × (starts_from 0 (text_entries (deck_text d)) ≡ clause_starts 0 d.clauses)
  deck-stands =
      let r = stands-clauses d.format d.symbols (text_declarations (deck_text d)) deck-declares d.clauses have in
      rw deck-entries (r.0, r.1, r.2 0)

  deck-once : declared_twice (text_declarations (deck_text d)) 0 (text_declarations (deck_text d)) ≡ none
  deck-once =
      let ds = text_declarations (deck_text d) in
      once d.format ds 0 d.symbols ds deck-declares
      (λ i h. let e = elem-some d.symbols i (omega arith) in (number-found d.format d.symbols ds deck-declares i e.0 e.1).0)

  pub text-readable : bad_place (deck_text d) ≡ none
  unfolding bad_place bad_left place_of or_else text_unread
  text-readable =
      let grammar : text_unread (deck_text d) ≡ none =
      ap₂ (λ m ts. unread (item m) ts) deck-numbers deck-items
      ∙ unread-symbols d.format 0 d.symbols (clauses_text d.clauses) (all_clauses d.clauses) fits
      ∙ unread-first (has_numbers d.format) d.clauses in
      ap (place_of (deck_text d)) (ap₂ or_else grammar (ap₂ or_else deck-once deck-stands.0))

  pub deck-format : text_format (deck_text d) ≡ d.format
  unfolding text_format
  deck-format =
      ap (λ m. format_from m (text_declarations (deck_text d))) deck-numbers
      ∙ declared-format d.format d.symbols (text_declarations (deck_text d)) wf.format deck-declares

  pub text-words : text_words (deck_text d) ≡ write_deck d
  unfolding text_words deck_from write_deck
  text-words =
      let ds = text_declarations (deck_text d) in
      let es = text_entries (deck_text d) in
      let many : length es ≡ length (clauses_cells d.clauses) = sym (length-map es (entry_cell ds)) ∙ ap length deck-stands.1 in
      let starts : length (starts_from 0 es) ≡ length d.clauses = ap length deck-stands.2 ∙ starts-length 0 d.clauses in
      ap₂ ◌++◌
      (ap (λ F. header_words (format_number F) (length ds) (length (starts_from 0 es)) (length es)) deck-format
      ∙ ap₂ (λ n c. header_words (format_number d.format) n c (length es)) (declared-many d.format 0 d.symbols ds deck-declares) starts
      ∙ ap (header_words (format_number d.format) (length d.symbols) (length d.clauses)) many)
      (ap₂ ◌++◌ (ap₂ write_symbols deck-format (declared-kinds d.format 0 d.symbols ds deck-declares)) (ap₂ ◌++◌ deck-stands.2 deck-stands.1))

  pub read-written : (room : ℕ) → length (write_deck d) ≤ room → read_text (deck_text d) room ≡ accepted (write_deck d)
  unfolding read_text and_then require absent
  read-written room h =
      let fits : (leb (length (write_deck d)) room && leb (length (write_deck d)) 16384) ≡ true =
      (and-eq-true_iff (leb (length (write_deck d)) room) (leb (length (write_deck d)) 16384)).1
      (le-leb (length (write_deck d)) room h, le-leb (length (write_deck d)) 16384 (omega (arith, deck-length d, wf.total))) in
      rw (text-readable, text-words, fits, open-written d wf) refl

-- READING WHAT WAS WRITTEN: the text that an openable deck's words, of 16 bits each, are written as is read as those words again, in the format they had,
-- in any list with room for them.
pub text-again :
    (words : List ℕ) (d : Deck) → open_deck words ≡ accepted d → All (λ w. w < 65536) words → (room room' : ℕ) → length (deck_text d) ≤ room → length words ≤ room'
    → (write_text words room ≡ accepted (deck_text d)) × (read_text (deck_text d) room' ≡ accepted words)
unfolding write_text and_then require
text-again words d e a room room' h h' =
    let o = opened-written words d e in
    let small = deck-small d o.1 (subst (All (λ w. w < 65536)) o.0 a) in (
      rw (e, le-leb (length (deck_text d)) room h) refl,
      subst (λ ws. length ws ≤ room' → read_text (deck_text d) room' ≡ accepted ws) (sym o.0) (read-written d o.1 small room') h',
    )
