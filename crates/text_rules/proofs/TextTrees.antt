-- The grammar of texts as trees, and that the states take just what it derives.
use Prim.Native.Nat.{ℕ, zero, suc, ◌+◌, ◌*◌, ◌-◌, ◌≤◌, ◌<◌}
use mathlib.Core.Path.{◌≡◌, refl, ap, sym, ◌∙◌, subst}
use mathlib.Core.Bool.{Bool, true, false, and-eq-true_iff}
use mathlib.Core.Option.{none, some, none-ne-some}
use mathlib.Core.List.{List, [], ◌∷◌}
use native.Mathlib.Omega.{arith}
use mathlib.Core.Logic.{◌↔◌}
use lib.ListN.{length, drop}
use lib.Dec.{eqb}
use borrow.Author.Tests.{eqb-true}
use Rattle.text_rules.specs.TextTokens.{Kind, name, number, amount, variable, implies, slash, dot, opening, closing, comma, tilde, ending, space, kind_number, class_of, is_class, Token, token_from, tokens}
use Rattle.text_rules.specs.TextGrammar.{same_bytes, fn_text, pr_text, nu_text, is, is_key, is_number_key, is_v2, is_value, Part, head, body, State, item, keyed, declared, slashed, counted, number_keyed, number_declared, clause, literal, negated, finished, term, named, after, Follow, ◌⇒◌, after_term, after_name, item_follows, follows, next, unread}
use Rattle.text_rules.specs.TextWords.{begins_v2, items}
use Rattle.text_rules.specs.Text.{numbers_in, text_items, text_unread}
use Rattle.text_rules.proofs.TextScan.{same_bytes_lem}

-- `TermOf ts us`: ts are the tokens of a term and then us. A term is a variable, or a name and its arguments.
mutual
  pub data TermOf : List Token → List Token → Type 0 where
    a_variable : {t : Token} {ts : List Token} → is variable t ≡ true → TermOf (t ∷ ts) ts
    an_atom : {t : Token} {ts us : List Token} → is name t ≡ true → ArgumentsOf ts us → TermOf (t ∷ ts) us

  pub data ArgumentsOf : List Token → List Token → Type 0 where
    bare : {ts : List Token} → ArgumentsOf ts ts
    bracketed : {t : Token} {ts us : List Token} → is opening t ≡ true → TermsOf ts us → ArgumentsOf (t ∷ ts) us

  -- Terms with commas between them, and the closing bracket.
  pub data TermsOf : List Token → List Token → Type 0 where
    last_term : {t : Token} {ts us : List Token} → TermOf ts (t ∷ us) → is closing t ≡ true → TermsOf ts us
    one_term : {t : Token} {ts us vs : List Token} → TermOf ts (t ∷ us) → is comma t ≡ true → TermsOf us vs → TermsOf ts vs

pub data LiteralOf : List Token → List Token → Type 0 where
  positive : {t : Token} {ts us : List Token} → is name t ≡ true → ArgumentsOf ts us → LiteralOf (t ∷ ts) us
  negative : {t u : Token} {ts us : List Token} → is tilde t ≡ true → is name u ≡ true → ArgumentsOf ts us → LiteralOf (t ∷ u ∷ ts) us

-- Literals with commas between them, and the dot.
pub data LiteralsOf : List Token → List Token → Type 0 where
  last_literal : {t : Token} {ts us : List Token} → LiteralOf ts (t ∷ us) → is dot t ≡ true → LiteralsOf ts us
  one_literal : {t : Token} {ts us vs : List Token} → LiteralOf ts (t ∷ us) → is comma t ≡ true → LiteralsOf us vs → LiteralsOf ts vs

pub data ClausesOf : List Token → Type 0 where
  no_clause : {t : Token} → is ending t ≡ true → ClausesOf (t ∷ [])
  fact : {t u : Token} {ts us : List Token} → is name t ≡ true → ArgumentsOf ts (u ∷ us) → is dot u ≡ true → ClausesOf us → ClausesOf (t ∷ ts)
  rule :
      {t u : Token} {ts us vs : List Token} → is name t ≡ true → ArgumentsOf ts (u ∷ us) → is implies u ≡ true → LiteralsOf us vs → ClausesOf vs
      → ClausesOf (t ∷ ts)

-- The declarations and then the clauses; numbers are declared in format 2 alone.
pub data ItemsOf : Bool → List Token → Type 0 where
  clauses : {numbers : Bool} {ts : List Token} → ClausesOf ts → ItemsOf numbers ts
  declaration :
      {numbers : Bool} {key n s k d : Token} {ts : List Token} → is_key key ≡ true → is name n ≡ true → is slash s ≡ true → is number k ≡ true → is dot d ≡ true
      → ItemsOf numbers ts → ItemsOf numbers (key ∷ n ∷ s ∷ k ∷ d ∷ ts)
  number_declaration :
      {key n v d : Token} {ts : List Token} → is_number_key key ≡ true → is name n ≡ true → is_value v ≡ true → is dot d ≡ true → ItemsOf true ts
      → ItemsOf true (key ∷ n ∷ v ∷ d ∷ ts)

-- `v2.` stands in front of them in format 2.
abbrev pub TextOf : List Token → Type 0
TextOf ts = ItemsOf (begins_v2 ts) (items ts)

-- Kinds exclude each other.
other-kind : (k l : Kind) (t : Token) → is k t ≡ true → eqb (kind_number l) (kind_number k) ≡ false → is l t ≡ false
other-kind k l t e f =
    let q : kind_number k ≡ kind_number t.kind = eqb-true (kind_number k) (kind_number t.kind) e in
    ap (eqb (kind_number l)) (sym q) ∙ f

take-rule : (f : Token → Bool) (s : State) (fs : List Follow) (t : Token) → f t ≡ true → next ((f ⇒ s) ∷ fs) t ≡ some s
unfolding next
take-rule f s fs t e = rw (e, next)

leave-rule : (f : Token → Bool) (s : State) (fs : List Follow) (t : Token) → f t ≡ false → next ((f ⇒ s) ∷ fs) t ≡ next fs t
unfolding next
leave-rule f s fs t e = rw (e, next)

goes : (s u : State) (t : Token) (ts : List Token) → next (follows s) t ≡ some u → unread s (t ∷ ts) ≡ unread u ts
unfolding unread
goes s u t ts e = rw (e, unread)

-- The steps of the states, for tokens of their kinds.
module _ (p : Part) (d : ℕ) (t : Token) (ts : List Token) where
  on-variable : is variable t ≡ true → unread (term p d) (t ∷ ts) ≡ unread (after p d) ts
  unfolding follows
  on-variable e = goes (term p d) (after p d) t ts (take-rule (is variable) (after p d) ((is name ⇒ named p d) ∷ []) t e)

  on-name : is name t ≡ true → unread (term p d) (t ∷ ts) ≡ unread (named p d) ts
  unfolding follows
  on-name e =
      goes (term p d) (named p d) t ts
      (leave-rule (is variable) (after p d) ((is name ⇒ named p d) ∷ []) t (other-kind name variable t e refl) ∙ take-rule (is name) (named p d) [] t e)

  on-opening : is opening t ≡ true → unread (named p d) (t ∷ ts) ≡ unread (term p (suc d)) ts
  unfolding follows after_name
  on-opening e = goes (named p d) (term p (suc d)) t ts (take-rule (is opening) (term p (suc d)) (after_term p d) t e)

  on-comma : is comma t ≡ true → unread (after p (suc d)) (t ∷ ts) ≡ unread (term p (suc d)) ts
  unfolding follows after_term
  on-comma e = goes (after p (suc d)) (term p (suc d)) t ts (take-rule (is comma) (term p (suc d)) ((is closing ⇒ after p d) ∷ []) t e)

  on-closing : is closing t ≡ true → unread (after p (suc d)) (t ∷ ts) ≡ unread (after p d) ts
  unfolding follows after_term
  on-closing e =
      goes (after p (suc d)) (after p d) t ts
      (leave-rule (is comma) (term p (suc d)) ((is closing ⇒ after p d) ∷ []) t (other-kind closing comma t e refl) ∙ take-rule (is closing) (after p d) [] t e)

  on-other : is opening t ≡ false → unread (named p d) (t ∷ ts) ≡ unread (after p d) (t ∷ ts)
  unfolding follows after_name unread
  on-other e = rw (leave-rule (is opening) (term p (suc d)) (after_term p d) t e, unread)

-- A token after which no brackets open.
Shut : List Token → Type 0
Shut [] = Unit {0}
Shut (t ∷ ts) = is opening t ≡ false

shut_by : (k : Kind) (t : Token) (ts : List Token) → is k t ≡ true → eqb 8 (kind_number k) ≡ false → Shut (t ∷ ts)
unfolding Shut
shut_by k t ts e f = other-kind k opening t e f

no-brackets : (p : Part) (d : ℕ) (ts : List Token) → Shut ts → unread (named p d) ts ≡ unread (after p d) ts
unfolding Shut unread
no-brackets p d [] h = refl
no-brackets p d (t ∷ ts) h = on-other p d t ts h

-- What the trees derive is taken.
mutual
  take-term : (p : Part) (d : ℕ) {ts us : List Token} → TermOf ts us → Shut us → unread (term p d) ts ≡ unread (after p d) us
  take-term p d (a_variable {t = t} {ts = ts} e) h = on-variable p d t ts e
  take-term p d (an_atom {t = t} {ts = ts} e a) h = on-name p d t ts e ∙ take-arguments p d a h

  take-arguments : (p : Part) (d : ℕ) {ts us : List Token} → ArgumentsOf ts us → Shut us → unread (named p d) ts ≡ unread (after p d) us
  take-arguments p d (bare {ts = ts}) h = no-brackets p d ts h
  take-arguments p d (bracketed {t = t} {ts = ts} e a) h = on-opening p d t ts e ∙ take-terms p d a

  take-terms : (p : Part) (d : ℕ) {ts us : List Token} → TermsOf ts us → unread (term p (suc d)) ts ≡ unread (after p d) us
  take-terms p d (last_term {t = t} {us = us} a e) = take-term p (suc d) a (shut_by closing t us e refl) ∙ on-closing p d t us e
  take-terms p d (one_term {t = t} {us = us} a e b) = take-term p (suc d) a (shut_by comma t us e refl) ∙ on-comma p d t us e ∙ take-terms p d b

-- Literals and clauses.
module _ (t : Token) (ts : List Token) where
  on-tilde : is tilde t ≡ true → unread literal (t ∷ ts) ≡ unread negated ts
  unfolding follows
  on-tilde e = goes literal negated t ts (take-rule (is tilde) negated ((is name ⇒ named body 0) ∷ []) t e)

  on-predicate : is name t ≡ true → unread literal (t ∷ ts) ≡ unread (named body 0) ts
  unfolding follows
  on-predicate e =
      goes literal (named body 0) t ts
      (leave-rule (is tilde) negated ((is name ⇒ named body 0) ∷ []) t (other-kind name tilde t e refl) ∙ take-rule (is name) (named body 0) [] t e)

  on-negated : is name t ≡ true → unread negated (t ∷ ts) ≡ unread (named body 0) ts
  unfolding follows
  on-negated e = goes negated (named body 0) t ts (take-rule (is name) (named body 0) [] t e)

  on-next : is comma t ≡ true → unread (after body 0) (t ∷ ts) ≡ unread literal ts
  unfolding follows after_term
  on-next e = goes (after body 0) literal t ts (take-rule (is comma) literal ((is dot ⇒ clause) ∷ []) t e)

  on-implies : is implies t ≡ true → unread (after head 0) (t ∷ ts) ≡ unread literal ts
  unfolding follows after_term
  on-implies e = goes (after head 0) literal t ts (take-rule (is implies) literal ((is dot ⇒ clause) ∷ []) t e)

  on-dot : (p : Part) → is dot t ≡ true → unread (after p 0) (t ∷ ts) ≡ unread clause ts
  unfolding follows after_term
  on-dot head e =
      goes (after head 0) clause t ts
      (leave-rule (is implies) literal ((is dot ⇒ clause) ∷ []) t (other-kind dot implies t e refl) ∙ take-rule (is dot) clause [] t e)
  on-dot body e =
      goes (after body 0) clause t ts (leave-rule (is comma) literal ((is dot ⇒ clause) ∷ []) t (other-kind dot comma t e refl) ∙ take-rule (is dot) clause [] t e)

  on-head : is name t ≡ true → unread clause (t ∷ ts) ≡ unread (named head 0) ts
  unfolding follows
  on-head e = goes clause (named head 0) t ts (take-rule (is name) (named head 0) ((is ending ⇒ finished) ∷ []) t e)

  on-ending : is ending t ≡ true → unread clause (t ∷ ts) ≡ unread finished ts
  unfolding follows
  on-ending e =
      goes clause finished t ts
      (leave-rule (is name) (named head 0) ((is ending ⇒ finished) ∷ []) t (other-kind ending name t e refl) ∙ take-rule (is ending) finished [] t e)

take-literal : {ts us : List Token} → LiteralOf ts us → Shut us → unread literal ts ≡ unread (after body 0) us
take-literal (positive {t = t} {ts = ts} e a) h = on-predicate t ts e ∙ take-arguments body 0 a h
take-literal (negative {t = t} {u = u} {ts = ts} e f a) h = on-tilde t (u ∷ ts) e ∙ on-negated u ts f ∙ take-arguments body 0 a h

take-literals : {ts us : List Token} → LiteralsOf ts us → unread literal ts ≡ unread clause us
take-literals (last_literal {t = t} {us = us} a e) = take-literal a (shut_by dot t us e refl) ∙ on-dot t us body e
take-literals (one_literal {t = t} {us = us} a e b) = take-literal a (shut_by comma t us e refl) ∙ on-next t us e ∙ take-literals b

take-clauses : {ts : List Token} → ClausesOf ts → unread clause ts ≡ none
unfolding unread
take-clauses (no_clause {t = t} e) = on-ending t [] e
take-clauses (fact {t = t} {u = u} {ts = ts} {us = us} e a f b) =
    on-head t ts e ∙ take-arguments head 0 a (shut_by dot u us f refl) ∙ on-dot u us head f ∙ take-clauses b
take-clauses (rule {t = t} {u = u} {ts = ts} {us = us} e a f b c) =
    on-head t ts e ∙ take-arguments head 0 a (shut_by implies u us f refl) ∙ on-implies u us f ∙ take-literals b ∙ take-clauses c

-- The first clause, before which declarations may stand.
key-name : (t : Token) → is_key t ≡ true → is name t ≡ true
unfolding is_key
key-name t e = ((and-eq-true_iff (is name t) _).0 e).0

no_key : (t : Token) → is name t ≡ false → is_key t ≡ false
unfolding is_key
no_key t e = rw e refl

-- The keys exclude each other.
number-name : (t : Token) → is_number_key t ≡ true → is name t ≡ true
unfolding is_number_key
number-name t e = ((and-eq-true_iff (is name t) _).0 e).0

other-key : (t : Token) → is_number_key t ≡ true → is_key t ≡ false
unfolding is_number_key is_key same_bytes fn_text pr_text nu_text
other-key t e =
    let w = (and-eq-true_iff (is name t) _).0 e in
    rw (same_bytes_lem t.bytes nu_text w.1, w.0) refl

no-number-key : (t : Token) → is name t ≡ false → is_number_key t ≡ false
unfolding is_number_key
no-number-key t e = rw e refl

module _ (t : Token) (ts : List Token) where
  on-key : (m : Bool) → is_key t ≡ true → unread (item m) (t ∷ ts) ≡ unread (keyed m) ts
  unfolding follows
  on-key false e = goes (item false) (keyed false) t ts (take-rule is_key (keyed false) item_follows t e)
  on-key true e = goes (item true) (keyed true) t ts (take-rule is_key (keyed true) ((is_number_key ⇒ number_keyed) ∷ item_follows) t e)

  on-number-key : is_number_key t ≡ true → unread (item true) (t ∷ ts) ≡ unread number_keyed ts
  unfolding follows
  on-number-key e =
      goes (item true) number_keyed t ts
      (leave-rule is_key (keyed true) ((is_number_key ⇒ number_keyed) ∷ item_follows) t (other-key t e) ∙ take-rule is_number_key number_keyed item_follows t e)

  no-key-here : is_key t ≡ false → unread (item false) (t ∷ ts) ≡ unread clause (t ∷ ts)
  unfolding follows unread
  no-key-here e = rw (leave-rule is_key (keyed false) item_follows t e, unread)

  neither-key : is_key t ≡ false → is_number_key t ≡ false → unread (item true) (t ∷ ts) ≡ unread clause (t ∷ ts)
  unfolding follows unread
  neither-key e f =
      rw (leave-rule is_key (keyed true) ((is_number_key ⇒ number_keyed) ∷ item_follows) t e ∙ leave-rule is_number_key number_keyed item_follows t f, unread)

  on-declared : (m : Bool) → is name t ≡ true → unread (keyed m) (t ∷ ts) ≡ unread (declared m) ts
  unfolding follows
  on-declared m e = goes (keyed m) (declared m) t ts (take-rule (is name) (declared m) (after_name head 0) t e)

  no-name-here : (m : Bool) → is name t ≡ false → unread (keyed m) (t ∷ ts) ≡ unread (named head 0) (t ∷ ts)
  unfolding follows unread
  no-name-here m e = rw (leave-rule (is name) (declared m) (after_name head 0) t e, unread)

  on-named-number : is name t ≡ true → unread number_keyed (t ∷ ts) ≡ unread number_declared ts
  unfolding follows
  on-named-number e = goes number_keyed number_declared t ts (take-rule (is name) number_declared (after_name head 0) t e)

  no-name-of-number : is name t ≡ false → unread number_keyed (t ∷ ts) ≡ unread (named head 0) (t ∷ ts)
  unfolding follows unread
  no-name-of-number e = rw (leave-rule (is name) number_declared (after_name head 0) t e, unread)

  on-slash : (m : Bool) → is slash t ≡ true → unread (declared m) (t ∷ ts) ≡ unread (slashed m) ts
  unfolding follows
  on-slash m e = goes (declared m) (slashed m) t ts (take-rule (is slash) (slashed m) [] t e)

  on-number : (m : Bool) → is number t ≡ true → unread (slashed m) (t ∷ ts) ≡ unread (counted m) ts
  unfolding follows
  on-number m e = goes (slashed m) (counted m) t ts (take-rule (is number) (counted m) [] t e)

  pub on-value : is_value t ≡ true → unread number_declared (t ∷ ts) ≡ unread (counted true) ts
  unfolding follows
  on-value e = goes number_declared (counted true) t ts (take-rule is_value (counted true) [] t e)

  on-end : (m : Bool) → is dot t ≡ true → unread (counted m) (t ∷ ts) ≡ unread (item m) ts
  unfolding follows
  on-end m e = goes (counted m) (item m) t ts (take-rule (is dot) (item m) [] t e)

-- What follows a head's name is no name.
after-head :
    (s : State) → ((t : Token) (ts : List Token) → is name t ≡ false → unread s (t ∷ ts) ≡ unread (named head 0) (t ∷ ts))
    → {ts : List Token} {u : Token} {us : List Token} → ArgumentsOf ts (u ∷ us) → is name u ≡ false → unread s ts ≡ unread (named head 0) ts
after-head s h (bare {ts = ts}) f = h _ _ f
after-head s h (bracketed {t = t} {ts = ts} e a) f = h t ts (other-kind opening name t e refl)

first-name :
    (m : Bool) {ts us : List Token} {u : Token} (t : Token) → is name t ≡ true → ArgumentsOf ts (u ∷ us) → is name u ≡ false
    → unread (item m) (t ∷ ts) ≡ unread clause (t ∷ ts)
first-name m {ts = ts} t e a f = go m (is_key t) (is_number_key t) refl refl
  where
    go : (m k l : Bool) → is_key t ≡ k → is_number_key t ≡ l → unread (item m) (t ∷ ts) ≡ unread clause (t ∷ ts)
    go m true l q r = on-key t ts m q ∙ after-head (keyed m) (λ t ts e. no-name-here t ts m e) a f ∙ sym (on-head t ts e)
    go false false l q r = no-key-here t ts q
    go true false true q r = on-number-key t ts r ∙ after-head number_keyed (λ t ts e. no-name-of-number t ts e) a f ∙ sym (on-head t ts e)
    go true false false q r = neither-key t ts q r

no-name : (m : Bool) (t : Token) (ts : List Token) → is name t ≡ false → unread (item m) (t ∷ ts) ≡ unread clause (t ∷ ts)
no-name false t ts e = no-key-here t ts (no_key t e)
no-name true t ts e = neither-key t ts (no_key t e) (no-number-key t e)

first-clause : (m : Bool) {ts : List Token} → ClausesOf ts → unread (item m) ts ≡ unread clause ts
first-clause m (no_clause {t = t} e) = no-name m t [] (other-kind ending name t e refl)
first-clause m (fact {t = t} {u = u} e a f b) = first-name m t e a (other-kind dot name u f refl)
first-clause m (rule {t = t} {u = u} e a f b c) = first-name m t e a (other-kind implies name u f refl)

-- EVERY TEXT OF THE GRAMMAR IS READ.
pub items-taken : {m : Bool} {ts : List Token} → ItemsOf m ts → unread (item m) ts ≡ none
items-taken {m} (clauses c) = first-clause m c ∙ take-clauses c
items-taken {m} (declaration {key = key} {n = n} {s = s} {k = k} {d = d} {ts = ts} a b c e f r) =
    on-key key (n ∷ s ∷ k ∷ d ∷ ts) m a
    ∙ on-declared n (s ∷ k ∷ d ∷ ts) m b
    ∙ on-slash s (k ∷ d ∷ ts) m c
    ∙ on-number k (d ∷ ts) m e
    ∙ on-end d ts m f
    ∙ items-taken r
items-taken (number_declaration {key = key} {n = n} {v = v} {d = d} {ts = ts} a b c f r) =
    on-number-key key (n ∷ v ∷ d ∷ ts) a
    ∙ on-named-number n (v ∷ d ∷ ts) b
    ∙ on-value v (d ∷ ts) c
    ∙ on-end d ts true f
    ∙ items-taken r

-- The other way round: what is read is of the grammar. A list of tokens that ends with the end.
abbrev pub Ended : List Token → Type 0
Ended [] = ⊥
Ended (t ∷ []) = is ending t ≡ true
Ended (t ∷ u ∷ ts) = Ended (u ∷ ts)

not-both : (b : Bool) → b ≡ true → b ≡ false → ⊥
not-both b p q = let z : ◌≡◌ {A = ℕ} 0 1 = cc in omega arith

ended-rest : (t : Token) (ts : List Token) → Ended (t ∷ ts) → is ending t ≡ false → Ended ts
ended-rest t [] e f = absurd (not-both (is ending t) e f)
ended-rest t (u ∷ ts) e f = e

stops : (s : State) (t : Token) (ts : List Token) → next (follows s) t ≡ none → unread s (t ∷ ts) ≡ none → ⊥
unfolding unread
stops s t ts e r =
    let q : unread s (t ∷ ts) ≡ some t.left = rw (e, unread) in
    none-ne-some t.left (sym r ∙ q)

not-of-one : (f : Token → Bool) (s : State) (t : Token) → f t ≡ false → next ((f ⇒ s) ∷ []) t ≡ none
unfolding next
not-of-one f s t e = leave-rule f s [] t e

not-of-two : (f g : Token → Bool) (s u : State) (t : Token) → f t ≡ false → g t ≡ false → next ((f ⇒ s) ∷ (g ⇒ u) ∷ []) t ≡ none
not-of-two f g s u t e q = leave-rule f s ((g ⇒ u) ∷ []) t e ∙ not-of-one g u t q

-- Tokens ts derived up to us, from which the text is read on at s.
abbrev Found : (List Token → List Token → Type 0) → State → List Token → Type 0
Found P s ts = (us : List Token) × P ts us × Ended us × (unread s us ≡ none) × (length us < length ts)

abbrev FoundArguments : State → List Token → Type 0
FoundArguments s ts = (us : List Token) × ArgumentsOf ts us × Ended us × (unread s us ≡ none) × (length us ≤ length ts)

mutual
  unfolding follows after_term

  find-term : (n : ℕ) (p : Part) (d : ℕ) (ts : List Token) → 3 * length ts + 1 ≤ n → Ended ts → unread (term p d) ts ≡ none → Found TermOf (after p d) ts
  find-term zero p d ts h e r = absurd (omega arith)
  find-term (suc n) p d [] h e r = absurd e
  find-term (suc n) p d (t ∷ ts) h e r = go (is variable t) (is name t) refl refl (λ w q. find-arguments n p d ts (omega arith) w q)
    where
      go :
          (a b : Bool) → is variable t ≡ a → is name t ≡ b → (Ended ts → unread (named p d) ts ≡ none → FoundArguments (after p d) ts)
          → Found TermOf (after p d) (t ∷ ts)
      go true b q s f = (ts, a_variable q, ended-rest t ts e (other-kind variable ending t q refl), sym (on-variable p d t ts q) ∙ r, omega arith)
      go false true q s f =
          let x = f (ended-rest t ts e (other-kind name ending t s refl)) (sym (on-name p d t ts s) ∙ r) in
          (x.0, an_atom s x.1, x.2, x.3, omega (arith, x.4))
      go false false q s f = absurd (stops (term p d) t ts (not-of-two (is variable) (is name) (after p d) (named p d) t q s) r)

  find-arguments : (n : ℕ) (p : Part) (d : ℕ) (ts : List Token) → 3 * length ts + 3 ≤ n → Ended ts → unread (named p d) ts ≡ none → FoundArguments (after p d) ts
  find-arguments zero p d ts h e r = absurd (omega arith)
  find-arguments (suc n) p d [] h e r = absurd e
  find-arguments (suc n) p d (t ∷ ts) h e r = go (is opening t) refl (λ w q. find-terms n p d ts (omega arith) w q)
    where
      go : (a : Bool) → is opening t ≡ a → (Ended ts → unread (term p (suc d)) ts ≡ none → Found TermsOf (after p d) ts) → FoundArguments (after p d) (t ∷ ts)
      go true q f =
          let x = f (ended-rest t ts e (other-kind opening ending t q refl)) (sym (on-opening p d t ts q) ∙ r) in
          (x.0, bracketed q x.1, x.2, x.3, omega (arith, x.4))
      go false q f = (t ∷ ts, bare, e, sym (on-other p d t ts q) ∙ r, omega arith)

  find-terms : (n : ℕ) (p : Part) (d : ℕ) (ts : List Token) → 3 * length ts + 2 ≤ n → Ended ts → unread (term p (suc d)) ts ≡ none → Found TermsOf (after p d) ts
  find-terms zero p d ts h e r = absurd (omega arith)
  find-terms (suc n) p d ts h e r =
      let x = find-term n p (suc d) ts (omega arith) e r in
      close x.0 x.1 x.2 x.3 x.4 (λ us l w q. find-terms n p d us (omega arith) w q)
    where
      close :
          (us : List Token) → TermOf ts us → Ended us → unread (after p (suc d)) us ≡ none → length us < length ts
          → ((vs : List Token) → length vs < length ts → Ended vs → unread (term p (suc d)) vs ≡ none → Found TermsOf (after p d) vs) → Found TermsOf (after p d) ts
      close [] a w q l f = absurd w
      close (c ∷ us) a w q l f = go (is comma c) (is closing c) refl refl
        where
          go : (x y : Bool) → is comma c ≡ x → is closing c ≡ y → Found TermsOf (after p d) ts
          go true y s z =
              let g = f us (omega arith) (ended-rest c us w (other-kind comma ending c s refl)) (sym (on-comma p d c us s) ∙ q) in
              (g.0, one_term a s g.1, g.2, g.3, omega (arith, g.4))
          go false true s z = (us, last_term a z, ended-rest c us w (other-kind closing ending c z refl), sym (on-closing p d c us z) ∙ q, omega arith)
          go false false s z = absurd (stops (after p (suc d)) c us (not-of-two (is comma) (is closing) (term p (suc d)) (after p d) c s z) q)

arguments-found : (p : Part) (ts : List Token) → Ended ts → unread (named p 0) ts ≡ none → FoundArguments (after p 0) ts
arguments-found p ts e r = find-arguments (3 * length ts + 3) p 0 ts (omega arith) e r

find-literal : (ts : List Token) → Ended ts → unread literal ts ≡ none → Found LiteralOf (after body 0) ts
unfolding follows
find-literal [] e r = absurd e
find-literal (t ∷ ts) e r = go (is tilde t) (is name t) refl refl
  where
    atom : (ts : List Token) → Ended ts → unread negated ts ≡ none → is tilde t ≡ true → Found LiteralOf (after body 0) (t ∷ ts)
    atom [] w q s = absurd w
    atom (u ∷ us) w q s = go (is name u) refl
      where
        go : (b : Bool) → is name u ≡ b → Found LiteralOf (after body 0) (t ∷ u ∷ us)
        go true z =
            let x = arguments-found body us (ended-rest u us w (other-kind name ending u z refl)) (sym (on-negated u us z) ∙ q) in
            (x.0, negative s z x.1, x.2, x.3, omega (arith, x.4))
        go false z = absurd (stops negated u us (not-of-one (is name) (named body 0) u z) q)

    go : (a b : Bool) → is tilde t ≡ a → is name t ≡ b → Found LiteralOf (after body 0) (t ∷ ts)
    go true b s z = atom ts (ended-rest t ts e (other-kind tilde ending t s refl)) (sym (on-tilde t ts s) ∙ r) s
    go false true s z =
        let x = arguments-found body ts (ended-rest t ts e (other-kind name ending t z refl)) (sym (on-predicate t ts z) ∙ r) in
        (x.0, positive z x.1, x.2, x.3, omega (arith, x.4))
    go false false s z = absurd (stops literal t ts (not-of-two (is tilde) (is name) negated (named body 0) t s z) r)

empty : {A : Type 0} (ts : List Token) → length ts ≤ 0 → Ended ts → A
empty [] h e = absurd e
empty (t ∷ ts) h e = absurd (omega arith)

find-literals : (n : ℕ) (ts : List Token) → length ts ≤ n → Ended ts → unread literal ts ≡ none → Found LiteralsOf clause ts
unfolding follows after_term
find-literals zero ts h e r = empty ts h e
find-literals (suc n) [] h e r = absurd e
find-literals (suc n) (t ∷ ts) h e r = let x = find-literal (t ∷ ts) e r in close x.0 x.1 x.2 x.3 x.4 (λ us l w q. find-literals n us (omega arith) w q)
  where
    close :
        (us : List Token) → LiteralOf (t ∷ ts) us → Ended us → unread (after body 0) us ≡ none → length us < length (t ∷ ts)
        → ((vs : List Token) → length vs < length (t ∷ ts) → Ended vs → unread literal vs ≡ none → Found LiteralsOf clause vs) → Found LiteralsOf clause (t ∷ ts)
    close [] a w q l f = absurd w
    close (c ∷ us) a w q l f = go (is comma c) (is dot c) refl refl
      where
        go : (x y : Bool) → is comma c ≡ x → is dot c ≡ y → Found LiteralsOf clause (t ∷ ts)
        go true y s z =
            let g = f us (omega arith) (ended-rest c us w (other-kind comma ending c s refl)) (sym (on-next c us s) ∙ q) in
            (g.0, one_literal a s g.1, g.2, g.3, omega (arith, g.4))
        go false true s z = (us, last_literal a z, ended-rest c us w (other-kind dot ending c z refl), sym (on-dot c us body z) ∙ q, omega arith)
        go false false s z = absurd (stops (after body 0) c us (not-of-two (is comma) (is dot) literal clause c s z) q)

find-clauses : (n : ℕ) (ts : List Token) → length ts ≤ n → Ended ts → unread clause ts ≡ none → ClausesOf ts
unfolding follows after_term next
find-clauses zero ts h e r = empty ts h e
find-clauses (suc n) [] h e r = absurd e
find-clauses (suc n) (t ∷ ts) h e r = go (is name t) (is ending t) refl refl (λ us l w q. find-clauses n us (omega arith) w q)
  where
    nothing-after : (us : List Token) → is ending t ≡ true → unread finished us ≡ none → ClausesOf (t ∷ us)
    nothing-after [] z q = no_clause z
    nothing-after (u ∷ us) z q = absurd (stops finished u us refl q)

    body_of :
        is name t ≡ true → (us : List Token) → ArgumentsOf ts us → Ended us → unread (after head 0) us ≡ none → length us ≤ length ts
        → ((vs : List Token) → length vs ≤ length ts → Ended vs → unread clause vs ≡ none → ClausesOf vs) → ClausesOf (t ∷ ts)
    body_of s [] a w q l f = absurd w
    body_of s (c ∷ us) a w q l f = go (is implies c) (is dot c) refl refl
      where
        go : (x y : Bool) → is implies c ≡ x → is dot c ≡ y → ClausesOf (t ∷ ts)
        go true y p z =
            let g = find-literals (length us) us (omega arith) (ended-rest c us w (other-kind implies ending c p refl)) (sym (on-implies c us p) ∙ q) in
            rule s a p g.1 (f g.0 (omega (arith, g.4)) g.2 g.3)
        go false true p z = fact s a z (f us (omega arith) (ended-rest c us w (other-kind dot ending c z refl)) (sym (on-dot c us head z) ∙ q))
        go false false p z = absurd (stops (after head 0) c us (not-of-two (is implies) (is dot) literal clause c p z) q)

    go :
        (a b : Bool) → is name t ≡ a → is ending t ≡ b → ((vs : List Token) → length vs ≤ length ts → Ended vs → unread clause vs ≡ none → ClausesOf vs)
        → ClausesOf (t ∷ ts)
    go true b s z f =
        let x = arguments-found head ts (ended-rest t ts e (other-kind name ending t s refl)) (sym (on-head t ts s) ∙ r) in
        body_of s x.0 x.1 x.2 x.3 x.4 f
    go false true s z f = nothing-after ts z (sym (on-ending t ts z) ∙ r)
    go false false s z f = absurd (stops clause t ts (not-of-two (is name) (is ending) (named head 0) finished t s z) r)

clauses-found : (ts : List Token) → Ended ts → unread clause ts ≡ none → ClausesOf ts
clauses-found ts e r = find-clauses (length ts) ts (omega arith) e r

-- A state with one rule.
abbrev Steps : (Token → Bool) → State → List Token → Type 0
Steps f u ts = (t : Token) × (us : List Token) × (ts ≡ t ∷ us) × (f t ≡ true) × Ended us × (unread u us ≡ none)

one-step :
    (f : Token → Bool) (s u : State) (ts : List Token) → follows s ≡ (f ⇒ u) ∷ [] → ((t : Token) → f t ≡ true → is ending t ≡ false) → Ended ts → unread s ts ≡ none
    → Steps f u ts
one-step f s u [] e g w r = absurd w
one-step f s u (t ∷ ts) e g w r = go (f t) refl
  where
    go : (b : Bool) → f t ≡ b → Steps f u (t ∷ ts)
    go true q = (t, ts, refl, q, ended-rest t ts w (g t q), sym (goes s u t ts (ap (λ fs. next fs t) e ∙ take-rule f u [] t q)) ∙ r)
    go false q = absurd (stops s t ts (ap (λ fs. next fs t) e ∙ not-of-one f u t q) r)

value-goes-on : (t : Token) → is_value t ≡ true → is ending t ≡ false
unfolding is_value
value-goes-on t e = go (is number t) refl
  where
    go : (b : Bool) → is number t ≡ b → is ending t ≡ false
    go true q = other-kind number ending t q refl
    go false q = other-kind amount ending t (rw q at e) refl

-- A declaration, of which the key and the name are read.
find-symbol :
    (m : Bool) (key n : Token) (us : List Token) → is_key key ≡ true → is name n ≡ true → Ended us → unread (declared m) us ≡ none
    → ((vs : List Token) → length vs ≤ length us → Ended vs → unread (item m) vs ≡ none → ItemsOf m vs) → ItemsOf m (key ∷ n ∷ us)
unfolding follows
find-symbol m key n us q z e r f =
    let a = one-step (is slash) (declared m) (slashed m) us refl (λ t h. other-kind slash ending t h refl) e r in
    let b = one-step (is number) (slashed m) (counted m) a.1 refl (λ t h. other-kind number ending t h refl) a.4 a.5 in
    let c = one-step (is dot) (counted m) (item m) b.1 refl (λ t h. other-kind dot ending t h refl) b.4 b.5 in
    let all : us ≡ a.0 ∷ b.0 ∷ c.0 ∷ c.1 = a.2 ∙ ap {B = List Token} (a.0 ∷◌) (b.2 ∙ ap {B = List Token} (b.0 ∷◌) c.2) in
    subst (λ x. ItemsOf m (key ∷ n ∷ x)) (sym all) (declaration q z a.3 b.3 c.3 (f c.1 (omega (arith, ap length all)) c.4 c.5))

find-number :
    (key n : Token) (us : List Token) → is_number_key key ≡ true → is name n ≡ true → Ended us → unread number_declared us ≡ none
    → ((vs : List Token) → length vs ≤ length us → Ended vs → unread (item true) vs ≡ none → ItemsOf true vs) → ItemsOf true (key ∷ n ∷ us)
unfolding follows
find-number key n us q z e r f =
    let a = one-step is_value number_declared (counted true) us refl value-goes-on e r in
    let b = one-step (is dot) (counted true) (item true) a.1 refl (λ t h. other-kind dot ending t h refl) a.4 a.5 in
    let all : us ≡ a.0 ∷ b.0 ∷ b.1 = a.2 ∙ ap {B = List Token} (a.0 ∷◌) b.2 in
    subst (λ x. ItemsOf true (key ∷ n ∷ x)) (sym all) (number_declaration q z a.3 b.3 (f b.1 (omega (arith, ap length all)) b.4 b.5))

-- The tokens after a key: a name, or the rest of a clause.
after-key :
    (m : Bool) (s u : State) (t : Token) (ts : List Token) → is name t ≡ true → Ended (t ∷ ts)
    → ((n : Token) (us : List Token) → is name n ≡ true → unread s (n ∷ us) ≡ unread u us)
    → ((n : Token) (us : List Token) → is name n ≡ false → unread s (n ∷ us) ≡ unread (named head 0) (n ∷ us)) → unread s ts ≡ none
    → ((n : Token) (us : List Token) → ts ≡ n ∷ us → is name n ≡ true → Ended us → unread u us ≡ none → ItemsOf m (t ∷ n ∷ us)) → ItemsOf m (t ∷ ts)
after-key m s u t [] z e on off r f = absurd (not-both (is ending t) e (other-kind name ending t z refl))
after-key m s u t (n ∷ us) z e on off r f = go (is name n) refl
  where
    go : (b : Bool) → is name n ≡ b → ItemsOf m (t ∷ n ∷ us)
    go true q = f n us refl q (ended-rest n us e (other-kind name ending n q refl)) (sym (on n us q) ∙ r)
    go false q = clauses (clauses-found (t ∷ n ∷ us) e (on-head t (n ∷ us) z ∙ sym (off n us q) ∙ r))

find-items : (n : ℕ) (m : Bool) (ts : List Token) → length ts ≤ n → Ended ts → unread (item m) ts ≡ none → ItemsOf m ts
find-items zero m ts h e r = empty ts h e
find-items (suc n) m [] h e r = absurd e
find-items (suc n) m (t ∷ ts) h e r = go m (is_key t) (is_number_key t) refl refl (λ vs l w q. find-items n m vs (omega arith) w q) r
  where
    More : Bool → Type 0
    More m = (vs : List Token) → length vs ≤ length ts → Ended vs → unread (item m) vs ≡ none → ItemsOf m vs

    go : (m k l : Bool) → is_key t ≡ k → is_number_key t ≡ l → More m → unread (item m) (t ∷ ts) ≡ none → ItemsOf m (t ∷ ts)
    go m true l q z f r =
        after-key m (keyed m) (declared m) t ts (key-name t q) e (λ n us p. on-declared n us m p) (λ n us p. no-name-here n us m p) (sym (on-key t ts m q) ∙ r)
        (λ n us p x w y. find-symbol m t n us q x w y (λ vs l. f vs (omega (arith, ap length p))))
    go false false l q z f r = clauses (clauses-found (t ∷ ts) e (sym (no-key-here t ts q) ∙ r))
    go true false true q z f r =
        after-key true number_keyed number_declared t ts (number-name t z) e on-named-number no-name-of-number (sym (on-number-key t ts z) ∙ r)
        (λ n us p x w y. find-number t n us z x w y (λ vs l. f vs (omega (arith, ap length p))))
    go true false false q z f r = clauses (clauses-found (t ∷ ts) e (sym (neither-key t ts q z) ∙ r))

ended-more : (t : Token) (ts : List Token) → Ended ts → Ended (t ∷ ts)
ended-more t [] e = absurd e
ended-more t (u ∷ ts) e = e

tokens-ended : (skip : ℕ) (bs : List ℕ) → Ended (tokens skip bs)
unfolding tokens
tokens-ended skip [] = refl
tokens-ended (suc skip) (b ∷ bs) = tokens-ended skip bs
tokens-ended zero (b ∷ bs) = go (is_class space b) refl (tokens-ended 0 bs) (tokens-ended (length (token_from (class_of b) b bs).bytes - 1) bs)
  where
    go :
        (x : Bool) → is_class space b ≡ x → Ended (tokens 0 bs) → Ended (tokens (length (token_from (class_of b) b bs).bytes - 1) bs) → Ended (tokens 0 (b ∷ bs))
    go true q r s = rw (q, tokens) r
    go false q r s = rw (q, tokens) (ended-more (token_from (class_of b) b bs) (tokens (length (token_from (class_of b) b bs).bytes - 1) bs) s)

-- After `v2.` comes the end, or there is no `v2.`.
items-ended : (ts : List Token) → Ended ts → Ended (items ts)
unfolding items begins_v2
items-ended ts e = go (begins_v2 ts) refl
  where
    after-mark : (ts : List Token) → Ended ts → begins_v2 ts ≡ true → Ended (drop 2 ts)
    after-mark [] e q = absurd e
    after-mark (t ∷ []) e q = let z : ◌≡◌ {A = ℕ} 0 1 = (let w = ((and-eq-true_iff (is_v2 t) false).0 q).1 in cc) in absurd (omega arith)
    after-mark (t ∷ d ∷ []) e q = absurd (not-both (is ending d) e (other-kind dot ending d ((and-eq-true_iff (is_v2 t) (is dot d)).0 q).1 refl))
    after-mark (t ∷ d ∷ u ∷ ts) e q = e

    go : (b : Bool) → begins_v2 ts ≡ b → Ended (items ts)
    go true q = rw (q, items) (after-mark ts e q)
    go false q = rw (q, items) e

-- THE STATES AND THE GRAMMAR AGREE: a text is read to its end exactly if its tokens are of the grammar.
pub grammar-agrees : (text : List ℕ) → text_unread text ≡ none ↔ TextOf (tokens 0 text)
unfolding text_unread numbers_in text_items
grammar-agrees text =
    let ts = items (tokens 0 text) in
    (find-items (length ts) (begins_v2 (tokens 0 text)) ts (omega arith) (items-ended (tokens 0 text) (tokens-ended 0 text)), items-taken)
