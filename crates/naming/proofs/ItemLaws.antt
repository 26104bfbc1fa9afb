-- One declaration of a readable text, at a place.
use Rattle.std.proofs.Common.{◌≡◌, ℕ, ◌-◌, ◌<◌, ◌⊎◌, inl, inr, Bool, true, false, ◌&&◌, ◌||◌, List, ◌∷◌, length, drop, eqb, refl, ap, ap₂, sym, ◌∙◌, subst, arith}
use Rattle.std.proofs.Math.Option.{none, some}
use mathlib.Core.Bool.{and-eq-true_iff}
use borrow.Author.Tests.{eqb-true}
use Rattle.rules.specs.Syntax.{functor, predicate}
use Rattle.text_rules.specs.TextTokens.{Kind, name, number, amount, slash, dot, kind_number, value, Token, tokens}
use Rattle.text_rules.specs.TextGrammar.{same_kind, is, is_key, is_number_key, is_value, same_bytes, fn_text, pr_text, item, declared, slashed, counted, number_declared, unread}
use Rattle.text_rules.specs.TextWords.{symbol_from, arity, token_at, declares, symbol_declaration, number_declaration, declaration, declarations, clause_tokens}
use Rattle.text_rules.specs.Text.{numbers_in}
use Rattle.text.specs.declared.tokens.Token as code
use Rattle.text.specs.declared.tokens.Kind.{Kind as Code}
use Rattle.text.specs.declared.tokens.Kind.TheVariants.{Ending, Name, Number, Amount}
use Rattle.std.specs.Prelude.{Option, Some, None}
use Rattle.text.specs.declared.grammar.Key.{Key}
use Rattle.text.specs.declared.grammar.Key.TheVariants as keys
use Rattle.text.specs.Steps.{IsKey}
use Rattle.text.specs.Kinds.{kind_of, value_in}
use Rattle.text.specs.Scan.{tokens_from, NextToken}
use Rattle.text.proofs.TokenLaws.{not-ending}
use Rattle.text.proofs.ReadLaws.{token_of}
use Rattle.naming.specs.declared.declarations.Counted.{Counted}
use Rattle.naming.specs.declared.declarations.Symbol.{Symbol}
use Rattle.naming.specs.declared.declarations.Symbol.TheVariants as variants
use Rattle.naming.specs.Walks.{symbol_of, value_of, declaration_of, declared_as, Readable, Declares, ArityAt, ValueAt, Ends}
use Rattle.naming.proofs.FiveLaws.{declared-none, clauses-here, after-key, after-name, after-declared, after-slash, after-value, after-arity, number-name, after-number, five-declared, five-passed, four-declared, four-passed}
use Rattle.naming.proofs.ArityLaws.{number_small}

-- A kind of token, by the code's.
number-kind : (x : Code) → same_kind number (kind_of x) ≡ true → ((m : ℕ) → x ≡ Number m → ⊥) → ⊥
number-kind x e f = grind (arith, f)

value-kind : (x : Code) → (same_kind number (kind_of x) || same_kind amount (kind_of x)) ≡ true → ((m : ℕ) → x ≡ Number m → ⊥) → ((m : ℕ) → x ≡ Amount m → ⊥) → ⊥
value-kind x e f g = grind (arith, f, g)

and-false : (b : Bool) → (b && false) ≡ false
and-false true = refl
and-false false = refl

-- The next token and those after it.
module _ (text : List ℕ) (at : ℕ) (r : code.Token) (n : NextToken text at r) where
  pub scanned-on : (r.kind ≡ Ending → ⊥) → tokens 0 (drop at text) ≡ token_of text r ∷ tokens 0 (drop r.to text)
  scanned-on f = n.scanned ∙ ap {B = List Token} (token_of text r ∷◌) (not-ending r.kind text r.to f)

  not-last : (k : Kind) → (kind_number k ≡ 1 → ⊥) → is k (token_of text r) ≡ true → r.kind ≡ Ending → ⊥
  not-last k f e q = f (eqb-true (kind_number k) 1 (ap (λ x. eqb (kind_number k) (kind_number (kind_of x))) (sym q) ∙ e))

  key-name : is_key (token_of text r) ≡ true → is name (token_of text r) ≡ true
  unfolding is_key
  key-name e = let t = token_of text r in ((and-eq-true_iff (is name t) (same_bytes t.bytes fn_text || same_bytes t.bytes pr_text)).0 e).0

  -- No declaration from here on.
  ends_by : (ts : List Token) → tokens 0 (drop at text) ≡ token_of text r ∷ ts → declares (token_of text r) ts ≡ false → Ends text at
  ends_by ts e f =
      record {
        first = ap (declarations 0) e ∙ declared-none (token_of text r) ts f;
        clauses = ap (clause_tokens 0) e ∙ clauses-here (token_of text r) ts f ∙ sym e;
      }

  -- It is no key.
  pub no_key : IsKey (token_of text r) None → Ends text at
  unfolding declares
  no_key e =
      let ts = tokens_from r.kind text r.to in
      ends_by ts n.scanned (rw (e.0, e.1) refl)

  key-not-last : (w : Key) → IsKey (token_of text r) (Some w) → r.kind ≡ Ending → ⊥
  key-not-last keys.Function e = not-last name (λ q. omega arith) (key-name e.0)
  key-not-last keys.Predicate e = not-last name (λ q. omega arith) (key-name e.0)
  key-not-last keys.Number e = not-last name (λ q. omega arith) (number-name (token_of text r) (e.1))

  pub no_name : (w : Key) → IsKey (token_of text r) (Some w) → (s : code.Token) → NextToken text r.to s → (s.kind ≡ Name → ⊥) → Ends text at
  unfolding declares
  no_name w e s m f =
      let ts = tokens 0 (drop r.to text) in
      let h : is name (token_of text s) ≡ false = grind (arith, f) in
      let g : is name (token_at ts 0) ≡ false = ap (λ l. is name (token_at l 0)) m.scanned ∙ h in
      ends_by ts (scanned-on (key-not-last w e)) (ap (λ b. (is_key (token_of text r) || is_number_key (token_of text r)) && b) g ∙ and-false (is_key (token_of text r) || is_number_key (token_of text r)))

-- After the name: `/`, an arity and a dot.
module _ (text : List ℕ) (at : ℕ) (s a : code.Token) (S : NextToken text at s) (A : NextToken text s.to a) (readable : unread (declared (numbers_in text)) (tokens 0 (drop at text)) ≡ none) where
  abbrev m : Bool
  m = numbers_in text

  abbrev ts : Token
  ts = token_of text s

  abbrev ta : Token
  ta = token_of text a

  slash-there : (is slash ts ≡ true) × (unread (slashed m) (tokens_from s.kind text s.to) ≡ none)
  slash-there = after-declared ts (tokens_from s.kind text s.to) m (ap (unread (declared m)) (sym S.scanned) ∙ readable)

  to-slash : tokens_from s.kind text s.to ≡ tokens 0 (drop s.to text)
  to-slash = not-ending s.kind text s.to (not-last text at s S slash (λ q. omega arith) slash-there.0)

  number-there : (is number ta ≡ true) × (unread (counted m) (tokens_from a.kind text a.to) ≡ none)
  number-there = after-slash ta (tokens_from a.kind text a.to) m (ap (unread (slashed m)) (sym A.scanned ∙ sym to-slash) ∙ slash-there.1)

  -- An arity stands there.
  pub arity-there : ((m : ℕ) → a.kind ≡ Number m → ⊥) → ⊥
  arity-there f = number-kind a.kind number-there.0 f

  module _ (d : code.Token) (D : NextToken text a.to d) (arity : ℕ) (is_arity : a.kind ≡ Number arity) where
    abbrev td : Token
    td = token_of text d

    to_number : tokens_from a.kind text a.to ≡ tokens 0 (drop a.to text)
    to_number = not-ending a.kind text a.to (not-last text s.to a A number (λ q. omega arith) number-there.0)

    dot-there : (is dot td ≡ true) × (unread (item m) (tokens_from d.kind text d.to) ≡ none)
    dot-there = after-arity td (tokens_from d.kind text d.to) m (ap (unread (counted m)) (sym D.scanned ∙ sym to_number) ∙ number-there.1)

    no-end : d.kind ≡ Ending → ⊥
    no-end = not-last text a.to d D dot (λ q. omega arith) dot-there.0

    to-dot : tokens_from d.kind text d.to ≡ tokens 0 (drop d.to text)
    to-dot = not-ending d.kind text d.to no-end

    pub arity-at : ArityAt text at (record { number = arity; end = d.to })
    arity-at =
        let v : arity ≡ value 0 ta.bytes = A.number arity is_arity in
        record {
          counts = record {
            later = omega (arith, S.later, S.forward, A.later, A.forward, D.later, D.progress no-end);
            inside = D.inside;
            readable = ap (unread (item m)) (sym to-dot) ∙ dot-there.1;
          };
          small = omega (arith, v, number_small (drop s.to text) ta (tokens_from a.kind text a.to) A.scanned number-there.0);
          slash = ts;
          given = ta;
          dot = td;
          tokens =
              S.scanned
              ∙ ap {B = List Token} (ts ∷◌)
              (to-slash ∙ A.scanned ∙ ap {B = List Token} (ta ∷◌) (to_number ∙ D.scanned ∙ ap {B = List Token} (td ∷◌) to-dot));
          value = v;
        }

-- A value and a dot.
module _ (text : List ℕ) (at : ℕ) (v : code.Token) (V : NextToken text at v) (numbers : numbers_in text ≡ true) (readable : unread number_declared (tokens 0 (drop at text)) ≡ none) where
  abbrev tv : Token
  tv = token_of text v

  value-there : (is_value tv ≡ true) × (unread (counted true) (tokens_from v.kind text v.to) ≡ none)
  value-there = after-value tv (tokens_from v.kind text v.to) (ap (unread number_declared) (sym V.scanned) ∙ readable)

  pub given-there : ((m : ℕ) → v.kind ≡ Number m → ⊥) → ((m : ℕ) → v.kind ≡ Amount m → ⊥) → ⊥
  unfolding is_value
  given-there f g = value-kind v.kind value-there.0 f g

  module _ (d : code.Token) (D : NextToken text v.to d) (word : ℕ) (is-word : value_in v.kind ≡ Some word) where
    abbrev tl : Token
    tl = token_of text d

    goes-on : v.kind ≡ Ending → ⊥
    goes-on e = let q = sym (ap value_in e) ∙ is-word in cc

    past-value : tokens_from v.kind text v.to ≡ tokens 0 (drop v.to text)
    past-value = not-ending v.kind text v.to goes-on

    last-there : (is dot tl ≡ true) × (unread (item true) (tokens_from d.kind text d.to) ≡ none)
    last-there = after-arity tl (tokens_from d.kind text d.to) true (ap (unread (counted true)) (sym D.scanned ∙ sym past-value) ∙ value-there.1)

    not-done : d.kind ≡ Ending → ⊥
    not-done = not-last text v.to d D dot (λ q. omega arith) last-there.0

    past-dot : tokens_from d.kind text d.to ≡ tokens 0 (drop d.to text)
    past-dot = not-ending d.kind text d.to not-done

    pub value-at : ValueAt text at (record { number = word; end = d.to })
    value-at =
        record {
          counts = record {
            later = omega (arith, V.later, V.forward, D.later, D.progress not-done);
            inside = D.inside;
            readable = ap₂ (λ b ts. unread (item b) ts) numbers (sym past-dot) ∙ last-there.1;
          };
          given = tv;
          dot = tl;
          tokens = V.scanned ∙ ap {B = List Token} (tv ∷◌) (past-value ∙ D.scanned ∙ ap {B = List Token} (tl ∷◌) past-dot);
          value = V.amount word is-word;
        }

-- A declaration: a key, a name and what follows.
module _ (text : List ℕ) (at : ℕ) (k n : code.Token) (K : NextToken text at k) (N : NextToken text k.to n) (readable : Readable text at) (w : Key) (is-w : IsKey (token_of text k) (Some w)) (a-name : n.kind ≡ Name) where
  abbrev tk : Token
  tk = token_of text k

  abbrev tn : Token
  tn = token_of text n

  is-named : is name tn ≡ true
  is-named = rw a-name refl

  to-name : tokens 0 (drop at text) ≡ tk ∷ tn ∷ tokens 0 (drop n.to text)
  to-name =
      scanned-on text at k K (key-not-last text at k K w is-w)
      ∙ ap {B = List Token} (tk ∷◌) (scanned-on text k.to n N (λ q. cc))

  here : unread (item (numbers_in text)) (tk ∷ tn ∷ tokens 0 (drop n.to text)) ≡ none
  here = ap (unread (item (numbers_in text))) (sym to-name) ∙ readable

  from-name : at < n.from
  from-name = omega (arith, K.later, K.progress (key-not-last text at k K w is-w), N.later)

  pub for-arity : is_key tk ≡ true → unread (declared (numbers_in text)) (tokens 0 (drop n.to text)) ≡ none
  for-arity e = let m = numbers_in text in after-name tn (tokens 0 (drop n.to text)) m (after-key tk (tn ∷ tokens 0 (drop n.to text)) m here e) is-named

  pub for-value : is_key tk ≡ false → is_number_key tk ≡ true → (numbers_in text ≡ true) × (unread number_declared (tokens 0 (drop n.to text)) ≡ none)
  for-value e f = after-number tk tn (tokens 0 (drop n.to text)) e f (numbers_in text) here is-named

  module _ (e : is_key tk ≡ true) (r : Counted) (A : ArityAt text n.to r) (s : Symbol) (same : symbol_from tk.bytes r.number ≡ symbol_of s) (plain : value_of s ≡ none) (few : arity (symbol_of s) ≡ r.number) where
    five : tokens 0 (drop at text) ≡ tk ∷ tn ∷ A.slash ∷ A.given ∷ A.dot ∷ tokens 0 (drop r.end text)
    five = to-name ∙ ap {B = List Token} (λ l. tk ∷ tn ∷ l) A.tokens

    same-declaration : declaration tk (tn ∷ A.slash ∷ A.given ∷ A.dot ∷ tokens 0 (drop r.end text)) ≡ declaration_of text (declared_as n s r.end)
    unfolding declaration symbol_declaration
    same-declaration =
        rw (e, declaration)
        (ap₂ (λ x y. record { symbol = x; value = y; name = tn.bytes; left = length text - n.from }) (ap (symbol_from tk.bytes) (sym A.value) ∙ same) (sym plain))

    pub declared-here : Declares text at (declared_as n s r.end)
    declared-here =
        let rest = tokens 0 (drop r.end text) in
        record {
          later = from-name;
          forward = N.forward;
          before = A.counts.later;
          inside = A.counts.inside;
          small = omega (arith, few, A.small);
          first = ap (declarations 0) five ∙ five-declared tk tn A.slash A.given A.dot rest e is-named ∙ ap (λ x. x ∷ declarations 0 rest) same-declaration;
          clauses = ap (clause_tokens 0) five ∙ five-passed tk tn A.slash A.given A.dot rest e is-named;
          readable = A.counts.readable;
        }

  module _ (e : is_key tk ≡ false) (f : is_number_key tk ≡ true) (r : Counted) (V : ValueAt text n.to r) where
    four : tokens 0 (drop at text) ≡ tk ∷ tn ∷ V.given ∷ V.dot ∷ tokens 0 (drop r.end text)
    four = to-name ∙ ap {B = List Token} (λ l. tk ∷ tn ∷ l) V.tokens

    same-number : declaration tk (tn ∷ V.given ∷ V.dot ∷ tokens 0 (drop r.end text)) ≡ declaration_of text (declared_as n (variants.Number r.number) r.end)
    unfolding declaration number_declaration
    same-number = rw (e, declaration) (ap (λ x. record { symbol = functor 0; value = some x; name = tn.bytes; left = length text - n.from }) (sym V.value))

    pub number-here : Declares text at (declared_as n (variants.Number r.number) r.end)
    number-here =
        let rest = tokens 0 (drop r.end text) in
        record {
          later = from-name;
          forward = N.forward;
          before = V.counts.later;
          inside = V.counts.inside;
          small = omega arith;
          first = ap (declarations 0) four ∙ four-declared tk tn V.given V.dot rest e f is-named ∙ ap (λ x. x ∷ declarations 0 rest) same-number;
          clauses = ap (clause_tokens 0) four ∙ four-passed tk tn V.given V.dot rest e f is-named;
          readable = V.counts.readable;
        }

pub value-of-kind : (x : Code) (n m : ℕ) → (x ≡ Number n) ⊎ (x ≡ Amount n) → m ≡ n → value_in x ≡ Some m
value-of-kind x n m (inl e) q = ap value_in e ∙ ap {B = Option ℕ} Some (sym q)
value-of-kind x n m (inr e) q = ap value_in e ∙ ap {B = Option ℕ} Some (sym q)

-- The key that was found.
pub key-is : (u : Token) (r : Option Key) (x y : Key) → IsKey u r → r ≡ Some x → x ≡ y → IsKey u (Some y)
key-is u r x y h e f = subst (λ w. IsKey u (Some w)) f (subst (IsKey u) e h)

-- The symbol by its key.
pub function-symbol : (bs : List ℕ) (k : ℕ) → same_bytes bs fn_text ≡ true → symbol_from bs k ≡ functor k
unfolding symbol_from
function-symbol bs k e = rw (e, symbol_from) refl

pub predicate-symbol : (bs : List ℕ) (k : ℕ) → same_bytes bs fn_text ≡ false → symbol_from bs k ≡ predicate k
unfolding symbol_from
predicate-symbol bs k e = rw (e, symbol_from) refl
