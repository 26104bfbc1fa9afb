-- A declaration in the rules: five tokens that the grammar takes, or four.
use Rattle.std.proofs.Common.{◌≡◌, Bool, true, false, List, [], ◌∷◌, eqb, refl, ap, sym, ◌∙◌, subst}
use borrow.Author.Tests.{eqb-true}
use Rattle.std.proofs.Math.Option.{none, some, none-ne-some}
use mathlib.Core.Bool.{and-eq-true_iff}
use Rattle.text_rules.specs.TextTokens.{Kind, name, number, slash, dot, opening, implies, kind_number, Token}
use Rattle.text_rules.specs.TextGrammar.{is, is_key, is_number_key, is_value, head, State, item, keyed, declared, slashed, counted, number_keyed, number_declared, named, Follow, ◌⇒◌, after_name, after_term, follows, next, unread}
use Rattle.text_rules.specs.TextWords.{Declaration, tokens_after, declares, declaration, declarations, clause_tokens}
use Rattle.text.proofs.GrammarLaws.{unread-goes, unread-stops}

-- The lists of the rules, by one test.
module _ (t : Token) (ts : List Token) where
  pub declared-first : declares t ts ≡ true → declarations 0 (t ∷ ts) ≡ declaration t ts ∷ declarations (tokens_after t) ts
  unfolding declarations
  declared-first e = rw (e, declarations)

  pub declared-none : declares t ts ≡ false → declarations 0 (t ∷ ts) ≡ []
  unfolding declarations
  declared-none e = rw (e, declarations)

  pub clauses-later : declares t ts ≡ true → clause_tokens 0 (t ∷ ts) ≡ clause_tokens (tokens_after t) ts
  unfolding clause_tokens
  clauses-later e = rw (e, clause_tokens)

  pub clauses-here : declares t ts ≡ false → clause_tokens 0 (t ∷ ts) ≡ t ∷ ts
  unfolding clause_tokens
  clauses-here e = rw (e, clause_tokens)

-- The first rule that fits.
take-rule : (f : Token → Bool) (s : State) (fs : List Follow) (t : Token) → f t ≡ true → next ((f ⇒ s) ∷ fs) t ≡ some s
unfolding next
take-rule f s fs t e = rw (e, next)

leave-rule : (f : Token → Bool) (s : State) (fs : List Follow) (t : Token) → f t ≡ false → next ((f ⇒ s) ∷ fs) t ≡ next fs t
unfolding next
leave-rule f s fs t e = rw (e, next)

-- Where one token alone may stand.
only_then :
    (s u : State) (f : Token → Bool) (t : Token) (ts : List Token) → follows s ≡ (f ⇒ u) ∷ [] → unread s (t ∷ ts) ≡ none → (f t ≡ true) × (unread u ts ≡ none)
unfolding next
only_then s u f t ts e r = go (f t) refl
  where
    go : (b : Bool) → f t ≡ b → (f t ≡ true) × (unread u ts ≡ none)
    go true q = (q, sym (unread-goes s u t ts (ap (λ fs. next fs t) e ∙ take-rule f u [] t q)) ∙ r)
    go false q = absurd (none-ne-some t.left (sym r ∙ unread-stops s t ts (ap (λ fs. next fs t) e ∙ leave-rule f u [] t q)))

module _ (t : Token) (ts : List Token) where
  pub after-key : (m : Bool) → unread (item m) (t ∷ ts) ≡ none → is_key t ≡ true → unread (keyed m) ts ≡ none
  unfolding follows
  after-key false e q = sym (unread-goes (item false) (keyed false) t ts (take-rule is_key (keyed false) _ t q)) ∙ e
  after-key true e q = sym (unread-goes (item true) (keyed true) t ts (take-rule is_key (keyed true) _ t q)) ∙ e

  pub after-name : (m : Bool) → unread (keyed m) (t ∷ ts) ≡ none → is name t ≡ true → unread (declared m) ts ≡ none
  unfolding follows
  after-name m e q = sym (unread-goes (keyed m) (declared m) t ts (take-rule (is name) (declared m) _ t q)) ∙ e

  pub after-declared : (m : Bool) → unread (declared m) (t ∷ ts) ≡ none → (is slash t ≡ true) × (unread (slashed m) ts ≡ none)
  unfolding follows
  after-declared m e = only_then (declared m) (slashed m) (is slash) t ts refl e

  pub after-slash : (m : Bool) → unread (slashed m) (t ∷ ts) ≡ none → (is number t ≡ true) × (unread (counted m) ts ≡ none)
  unfolding follows
  after-slash m e = only_then (slashed m) (counted m) (is number) t ts refl e

  pub after-value : unread number_declared (t ∷ ts) ≡ none → (is_value t ≡ true) × (unread (counted true) ts ≡ none)
  unfolding follows
  after-value e = only_then number_declared (counted true) is_value t ts refl e

  pub after-arity : (m : Bool) → unread (counted m) (t ∷ ts) ≡ none → (is dot t ≡ true) × (unread (item m) ts ≡ none)
  unfolding follows
  after-arity m e = only_then (counted m) (item m) (is dot) t ts refl e

-- Numbers are declared in format 2 alone: elsewhere `nu` begins a clause, and no name follows a name.
name_alone : (n : Token) (ts : List Token) → is name n ≡ true → unread (named head 0) (n ∷ ts) ≡ none → ⊥
unfolding follows after_name after_term next
name_alone n ts z e = none-ne-some n.left (sym e ∙ unread-stops (named head 0) n ts (rw (other opening refl, other implies refl, other dot refl, next) refl))
  where
    other : (k : Kind) → eqb (kind_number k) (kind_number name) ≡ false → is k n ≡ false
    other k f = ap (eqb (kind_number k)) (sym (eqb-true (kind_number name) (kind_number n.kind) z)) ∙ f

pub number-name : (k : Token) → is_number_key k ≡ true → is name k ≡ true
unfolding is_number_key
number-name k e = ((and-eq-true_iff (is name k) _).0 e).0

module _ (k n : Token) (ts : List Token) (no : is_key k ≡ false) (key : is_number_key k ≡ true) where
  pub after-number : (m : Bool) → unread (item m) (k ∷ n ∷ ts) ≡ none → is name n ≡ true → (m ≡ true) × (unread number_declared ts ≡ none)
  unfolding follows
  after-number false e z =
      absurd (name_alone n ts z (sym (unread-goes (item false) (named head 0) k (n ∷ ts) (leave-rule is_key (keyed false) _ k no ∙ take-rule (is name) (named head 0) _ k (number-name k key))) ∙ e))
  after-number true e z = (
    refl,
    sym (unread-goes number_keyed number_declared n ts (take-rule (is name) number_declared _ n z))
        ∙ sym (unread-goes (item true) number_keyed k (n ∷ ts) (leave-rule is_key (keyed true) _ k no ∙ take-rule is_number_key number_keyed _ k key))
        ∙ e,
  )

pub five-third : (m : Bool) (k n s a : Token) (ts : List Token) → unread (item m) (k ∷ n ∷ s ∷ a ∷ ts) ≡ none → is_key k ≡ true → is name n ≡ true → is number a ≡ true
five-third m k n s a ts e q z =
    let named = after-name n (s ∷ a ∷ ts) m (after-key k (n ∷ s ∷ a ∷ ts) m e q) z in
    (after-slash a ts m (after-declared s (a ∷ ts) m named).1).0

-- Five tokens.
module _ (k n s a d : Token) (ts : List Token) (key : is_key k ≡ true) (named : is name n ≡ true) where
  declaring : declares k (n ∷ s ∷ a ∷ d ∷ ts) ≡ true
  unfolding declares
  declaring = rw (key, named) refl

  pub five-declared : declarations 0 (k ∷ n ∷ s ∷ a ∷ d ∷ ts) ≡ declaration k (n ∷ s ∷ a ∷ d ∷ ts) ∷ declarations 0 ts
  unfolding declarations tokens_after
  five-declared =
      declared-first k (n ∷ s ∷ a ∷ d ∷ ts) declaring
      ∙ ap {B = List Declaration} (declaration k (n ∷ s ∷ a ∷ d ∷ ts) ∷◌) (ap (λ b. declarations (elim b [ true ↦ 4 | false ↦ 3 ]) (n ∷ s ∷ a ∷ d ∷ ts)) key)

  pub five-passed : clause_tokens 0 (k ∷ n ∷ s ∷ a ∷ d ∷ ts) ≡ clause_tokens 0 ts
  unfolding clause_tokens tokens_after
  five-passed =
      clauses-later k (n ∷ s ∷ a ∷ d ∷ ts) declaring ∙ ap (λ b. clause_tokens (elim b [ true ↦ 4 | false ↦ 3 ]) (n ∷ s ∷ a ∷ d ∷ ts)) key

  pub five-readable : (m : Bool) → unread (item m) (k ∷ n ∷ s ∷ a ∷ d ∷ ts) ≡ none → (is slash s ≡ true) × (is number a ≡ true) × (is dot d ≡ true) × (unread (item m) ts ≡ none)
  five-readable m readable =
      let of-name = after-name n (s ∷ a ∷ d ∷ ts) m (after-key k (n ∷ s ∷ a ∷ d ∷ ts) m readable key) named in
      let x = after-declared s (a ∷ d ∷ ts) m of-name in
      let y = after-slash a (d ∷ ts) m x.1 in
      let z = after-arity d ts m y.1 in
      (x.0, y.0, z.0, z.1)

-- Four tokens, of a number.
module _ (k n v d : Token) (ts : List Token) (no : is_key k ≡ false) (key : is_number_key k ≡ true) (named : is name n ≡ true) where
  declaring_number : declares k (n ∷ v ∷ d ∷ ts) ≡ true
  unfolding declares
  declaring_number = rw (no, key, named) refl

  pub four-declared : declarations 0 (k ∷ n ∷ v ∷ d ∷ ts) ≡ declaration k (n ∷ v ∷ d ∷ ts) ∷ declarations 0 ts
  unfolding declarations tokens_after
  four-declared =
      declared-first k (n ∷ v ∷ d ∷ ts) declaring_number
      ∙ ap {B = List Declaration} (declaration k (n ∷ v ∷ d ∷ ts) ∷◌) (ap (λ b. declarations (elim b [ true ↦ 4 | false ↦ 3 ]) (n ∷ v ∷ d ∷ ts)) no)

  pub four-passed : clause_tokens 0 (k ∷ n ∷ v ∷ d ∷ ts) ≡ clause_tokens 0 ts
  unfolding clause_tokens tokens_after
  four-passed =
      clauses-later k (n ∷ v ∷ d ∷ ts) declaring_number ∙ ap (λ b. clause_tokens (elim b [ true ↦ 4 | false ↦ 3 ]) (n ∷ v ∷ d ∷ ts)) no

  pub four-readable : (m : Bool) → unread (item m) (k ∷ n ∷ v ∷ d ∷ ts) ≡ none → (is_value v ≡ true) × (is dot d ≡ true) × (unread (item m) ts ≡ none)
  four-readable m readable =
      let w = after-number k n (v ∷ d ∷ ts) no key m readable named in
      let x = after-value v (d ∷ ts) w.1 in
      let y = after-arity d ts true x.1 in
      (x.0, y.0, subst (λ b. unread (item b) ts ≡ none) (sym w.0) y.1)
