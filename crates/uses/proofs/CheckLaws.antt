-- Names one after the other.
use Prim.Native.Nat.{ℕ, suc, ◌+◌, ◌-◌, ◌≤◌, ◌<◌}
use mathlib.Core.Path.{◌≡◌, refl, ap, sym, ◌∙◌}
use mathlib.Core.Bool.{Bool, true, false}
use mathlib.Core.Option.{Option, none, some}
use mathlib.Core.List.{List, [], ◌∷◌}
use native.Mathlib.Omega.{arith}
use native.Mathlib.Decide.{ℕ_discrete}
use lib.Dec.{eqb}
use borrow.Author.Tests.{eqb-true}
use Rattle.std.proofs.Math.Option.{none-ne-some}
use lib.ListN.{length, get_or, drop}
use Rattle.text_rules.specs.TextTokens.{Kind, name, variable, dot, tilde, opening, Token, tokens}
use Rattle.text_rules.specs.TextGrammar.{is, same_kind}
use Rattle.text_rules.specs.TextWords.{Declaration, arity, has_arity, declared_at, number_of, commas, given_arguments, Use, Entry, entry_after, entries, well_used, misused, clause_tokens}
use Rattle.text_rules.specs.Text.{text_unread, text_items, place_of, text_declarations, text_entries}
use Rattle.text.specs.declared.tokens.Kind.{Kind as Scanned_kind}
use Rattle.text.specs.declared.tokens.Kind.TheVariants.{Name, Ending, Opening}
use Rattle.text.specs.declared.tokens.Token.{Token as Scanned}
use Rattle.text.specs.Kinds.{kind_of}
use Rattle.text.specs.Scan.{tokens_from, NextToken}
use Rattle.text.proofs.ReadLaws.{token_of}
use Rattle.text.proofs.TokenLaws.{not-ending}
use Rattle.uses.specs.declared.walk.Use.{Use as Used}
use Rattle.uses.specs.Pairs.{in_brackets, GivenFrom, told}
use Rattle.uses.specs.Uses.{takes, fits, first_misuse, misuse_from, UseFrom}
use Rattle.naming.proofs.ArityLaws.{arity-small}
use Rattle.uses.proofs.CommaLaws.{same_as, brackets-opening, brackets-other}

-- The rules' first misused name, token by token.
module _ (ds : List Declaration) (t : Token) (ts : List Token) where
  abbrev fine : Bool
  fine = fits ds t.kind t.bytes ts

  misuse-goes : fine ≡ true → first_misuse ds (t ∷ ts) ≡ first_misuse ds ts
  unfolding first_misuse
  misuse-goes e = rw (e, first_misuse)

  misuse-stops : fine ≡ false → first_misuse ds (t ∷ ts) ≡ some t.left
  unfolding first_misuse
  misuse-stops e = rw (e, first_misuse)

module _ (ds : List Declaration) (u : Use) (es : List Entry) where
  abbrev rest : Option ℕ
  rest = elim (well_used ds u) [ true ↦ misused ds es | false ↦ some u.left ]

  use-here : (before : Kind) → misused ds (entry_after before u ∷ es) ≡ rest
  unfolding misused entry_after
  use-here before = go (same_kind before dot) refl (same_kind before tilde) refl
    where
      go : (a : Bool) → same_kind before dot ≡ a → (b : Bool) → same_kind before tilde ≡ b → misused ds (entry_after before u ∷ es) ≡ rest
      go true p b q = rw (p, entry_after)
      go false p true q = rw (p, q, entry_after)
      go false p false q = rw (p, q, entry_after)

pub misused-first : (ds : List Declaration) (before : Kind) (ts : List Token) → misused ds (entries before ts) ≡ first_misuse ds ts
unfolding misused entries first_misuse well_used
misused-first ds before [] = refl
misused-first ds before (t ∷ ts) = go (is name t) refl (is variable t) refl (misused-first ds t.kind ts)
  where
    go :
        (a : Bool) → is name t ≡ a → (b : Bool) → is variable t ≡ b → misused ds (entries t.kind ts) ≡ first_misuse ds ts
        → misused ds (entries before (t ∷ ts)) ≡ first_misuse ds (t ∷ ts)
    go true p b q r =
        let u : Use = record { name = t.bytes; arguments = given_arguments ts; left = t.left } in
        rw (p, entries, first_misuse) (use-here ds u (entries t.kind ts) before ∙ ap (λ (o : Option ℕ). elim (well_used ds u) [ true ↦ o | false ↦ some t.left ]) r)
    go false p true q r = rw (p, q, entries, first_misuse) r
    go false p false q r = rw (p, q, entries, first_misuse) r

-- A kind of the code that is not a kind of the rules.
not-name : (k : Scanned_kind) → (k ≡ Name → ⊥) → same_kind name (kind_of k) ≡ false
not-name k f = grind (arith, f)

not-opening : (k : Scanned_kind) → (k ≡ Opening → ⊥) → same_kind opening (kind_of k) ≡ false
not-opening k f = grind (arith, f)

pub fits-other : (ds : List Declaration) (kind : Scanned_kind) (bs : List ℕ) (ts : List Token) → (kind ≡ Name → ⊥) → fits ds (kind_of kind) bs ts ≡ true
fits-other ds kind bs ts f = rw (not-name kind f, fits) refl

pub fits-name : (ds : List Declaration) (kind : Scanned_kind) (bs : List ℕ) (ts : List Token) → kind ≡ Name → fits ds (kind_of kind) bs ts ≡ takes ds bs (given_arguments ts)
fits-name ds kind bs ts e = ap (λ k. fits ds (kind_of k) bs ts) e

unequal : (a b : ℕ) → (a ≡ b → ⊥) → eqb a b ≡ false
unequal a b f = go (eqb a b) refl
  where
    go : (x : Bool) → eqb a b ≡ x → eqb a b ≡ false
    go true e = absurd (f (eqb-true a b e))
    go false e = e

-- Whether a name takes so many arguments is seen by the number told.
has-told : (o : Option Declaration) → ((d : Declaration) → o ≡ some d → arity d.symbol ≤ 15) → (k : ℕ) → has_arity o k ≡ has_arity o (told k)
unfolding has_arity
has-told none h k = refl
has-told (some d) h k = go (ℕ_discrete (arity d.symbol) k)
  where
    l : arity d.symbol ≤ 15
    l = h d refl

    go : Dec (arity d.symbol ≡ k) → eqb (arity d.symbol) k ≡ eqb (arity d.symbol) (told k)
    go (yes e) = let t : told k ≡ k = omega (arith, l, e) in ap (eqb (arity d.symbol)) (sym t)
    go (no f) = unequal (arity d.symbol) k f ∙ sym (unequal (arity d.symbol) (told k) (λ e. f (omega (arith, l, e))))

takes-told : (text : List ℕ) → text_unread text ≡ none → (bytes : List ℕ) (k : ℕ) → takes (text_declarations text) bytes k ≡ takes (text_declarations text) bytes (told k)
unfolding declared_at
takes-told text e bytes k = let ds = text_declarations text in has-told (declared_at ds (number_of bytes 0 ds)) (go (number_of bytes 0 ds)) k
  where
    go : (n : Option ℕ) (d : Declaration) → declared_at (text_declarations text) n ≡ some d → arity d.symbol ≤ 15
    go none d q = absurd (none-ne-some d q)
    go (some j) d q = arity-small text e j d q

-- The next token, at the end of the text and before it.
module _ (text : List ℕ) (at : ℕ) (r : Scanned) (n : NextToken text at r) where
  abbrev this : Token
  this = token_of text r

  abbrev after : List Token
  after = tokens 0 (drop r.to text)

  token-last : r.kind ≡ Ending → tokens 0 (drop at text) ≡ this ∷ []
  token-last e = n.scanned ∙ ap (λ k. this ∷ tokens_from k text r.to) e

  token-more : (r.kind ≡ Ending → ⊥) → tokens 0 (drop at text) ≡ this ∷ after
  token-more f = n.scanned ∙ ap (this ∷◌) (not-ending r.kind text r.to f)

  -- The arguments of a name, by the token after it.
  pub some-arguments : (given : List ℕ) (i : ℕ) → i < 4096 → GivenFrom given i (tokens 0 (drop at text)) → r.kind ≡ Opening → get_or given i 0 ≡ told (given_arguments (tokens 0 (drop at text)))
  unfolding given_arguments
  some-arguments given i l g e =
      let all = token-more (λ q. cc) in
      let k : this.kind ≡ opening = ap kind_of e in
      let o : is opening this ≡ true = same_as this opening k opening in
      let same : given_arguments (this ∷ after) ≡ suc (commas 0 after) = rw (o, given_arguments) refl in
      let z : i + 0 ≡ i = omega arith in
      ap (λ j. get_or given j 0) (sym z)
      ∙ g 0 (suc (commas 0 after)) (in_brackets after) (omega arith) (ap in_brackets all ∙ brackets-opening this after k)
      ∙ ap told (sym (ap given_arguments all ∙ same))

  -- One token, and the first misuse from it on.
  abbrev ds : List Declaration
  ds = text_declarations text

  abbrev ok : Bool
  ok = fits ds (kind_of r.kind) this.bytes after

  pub token-stops : ok ≡ false → place_of text (misuse_from text at) ≡ some r.from
  unfolding place_of
  token-stops e =
      let back : length text - (length text - r.from) ≡ r.from = omega (arith, n.forward, n.inside) in
      let f : r.kind ≡ Ending → ⊥ = λ q. let z = ap (λ k. fits ds (kind_of k) this.bytes after) q in cc in
      ap (place_of text) (ap (first_misuse ds) (token-more f) ∙ misuse-stops ds this after e) ∙ ap some back

  pub token-done : r.kind ≡ Ending → misuse_from text at ≡ none
  unfolding first_misuse
  token-done e = ap (first_misuse ds) (token-last e) ∙ misuse-goes ds this [] (ap (λ k. fits ds (kind_of k) this.bytes []) e)

  module _ (f : r.kind ≡ Ending → ⊥) where
    pub token-goes : ok ≡ true → misuse_from text at ≡ misuse_from text r.to
    token-goes e = ap (first_misuse ds) (token-more f) ∙ misuse-goes ds this after e

  -- The pairs of brackets after one token.
  module _ (f : r.kind ≡ Ending → ⊥) (given : List ℕ) (i : ℕ) (g : GivenFrom given i (tokens 0 (drop at text))) where
    pub given-same : (r.kind ≡ Opening → ⊥) → GivenFrom given i (tokens 0 (drop r.to text))
    given-same h j k ks l e = g j k ks l (ap (drop j) (ap in_brackets (token-more f) ∙ brackets-other this after (not-opening r.kind h)) ∙ e)

    pub given-next : r.kind ≡ Opening → GivenFrom given (i + 1) (tokens 0 (drop r.to text))
    given-next h j k ks l e =
        let o : i + 1 + j ≡ i + suc j = omega arith in
        let one = ap in_brackets (token-more f) ∙ brackets-opening this after (ap kind_of h) in
        ap (λ n. get_or given n 0) o ∙ g (suc j) k ks (omega arith) (ap (drop (suc j)) one ∙ e)

  -- The uses from a place on, over a token that is no name, and at a name.
  pub pass-other : (r.kind ≡ Ending → ⊥) → (r.kind ≡ Name → ⊥) → misuse_from text at ≡ misuse_from text r.to
  pass-other f g = token-goes f (fits-other ds r.kind this.bytes after g)

  module _ (readable : text_unread text ≡ none) (e : r.kind ≡ Name) (k : ℕ) (K : k ≡ told (given_arguments after)) where
    abbrev used : Used
    used = record { from = r.from; to = r.to; arguments = k }

    taken : ok ≡ takes ds this.bytes k
    taken = fits-name ds r.kind this.bytes after e ∙ takes-told text readable this.bytes (given_arguments after) ∙ ap (takes ds this.bytes) (sym K)

    pub use-ahead : (start : ℕ) → start ≤ at → misuse_from text start ≡ misuse_from text at → UseFrom text start used
    use-ahead start l same =
        let f : r.kind ≡ Ending → ⊥ = λ q. cc in
        record {
          later = omega (arith, n.later);
          forward = n.progress f;
          inside = n.inside;
          well = λ w. same ∙ token-goes f (taken ∙ w);
          badly = λ w. ap (place_of text) same ∙ token-stops (taken ∙ w);
        }

-- The whole.
pub clauses-misused : (text : List ℕ) (end : ℕ) → clause_tokens 0 (text_items text) ≡ tokens 0 (drop end text) → misused (text_declarations text) (text_entries text) ≡ misuse_from text end
unfolding text_entries
clauses-misused text end e = misused-first (text_declarations text) dot (clause_tokens 0 (text_items text)) ∙ ap (first_misuse (text_declarations text)) e
