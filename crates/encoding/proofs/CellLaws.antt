-- Writing the cells of the clauses.
use Prim.Native.Nat.{ℕ, suc, ◌+◌, ◌-◌, ◌≤◌, ◌<◌}
use mathlib.Core.Path.{◌≡◌, refl, ap, ◌∙◌}
use mathlib.Core.Bool.{Bool, true, false}
use mathlib.Core.List.{List, [], ◌∷◌}
use native.Mathlib.Omega.{arith}
use native.Mathlib.Decide.{ℕ_discrete}
use lib.ListN.{length, drop}
use borrow.Author.Tests.{lt-leb, le-leb}
use mathlib.Core.Logic.{◌⊎◌, inl, inr}
use Rattle.std.specs.Prelude.{Option, Some, None, IfSome, unwrap_or}
use Rattle.std.proofs.Common.{Bor}
use lib.Dec.{leb}
use Rattle.text_rules.specs.TextTokens.{Kind, variable, kind_number, Class, no_class, space, letter, zero_digit, digit, underscore, colon, minus, mark, class_of, is_class, numeral, value, Token, end_token, at_most, number_token, variable_token, implies_token, token_from, tokens, amount, number_kind, negative_kind, negative_token}
use Rattle.text_rules.specs.TextWords.{Declaration, Use, Entry, number_of, symbol_number, entry_cell}
use Rattle.text.specs.declared.tokens.Kind.TheVariants.{Variable}
use Rattle.text.specs.declared.tokens.Token.{Token as Scanned}
use Rattle.text.specs.Kinds.{kind_of}
use Rattle.text.specs.Scan.{NextToken}
use Rattle.text.specs.Steps.{option_of}
use Rattle.text.proofs.ReadLaws.{token_of}
use Rattle.text.proofs.TokenLaws.{mark-kinds}
use Rattle.encoding.specs.declared.walk.Entry.{Entry as Given}
use Rattle.encoding.specs.declared.walk.Entry.TheVariants as given
use Rattle.encoding.specs.Walk.{IsEntry}

-- A variable that is a token is at most 1,023.
at-most : (most : ℕ) (k : Kind) (v n : ℕ) → kind_number (at_most most k v) ≡ suc n → (v ≤ most) × (kind_number k ≡ suc n)
unfolding at_most
at-most most k v n e = go (ℕ_discrete (v - most) 0)
  where
    go : Dec (v - most ≡ 0) → (v ≤ most) × (kind_number k ≡ suc n)
    go (yes z) = let h : v ≤ most = omega arith in (h, rw (le-leb v most h, at_most) at e)
    go (no z) = let h : most < v = omega arith in absurd (omega (arith, rw (lt-leb v most h, at_most) at e))

variable-first : (b m : ℕ) (ds : List ℕ) → kind_number (variable_token b ds m).kind ≡ 4 → value 0 (drop 1 (variable_token b ds m).bytes) ≤ 1023
unfolding variable_token
variable-first b m [] e = absurd (omega arith)
variable-first b m (d ∷ ds) e = (at-most 1023 variable (value 0 (d ∷ ds)) 3 e).0

implies-first : (b m : ℕ) (bs : List ℕ) → kind_number (implies_token b bs m).kind ≡ 4 → ⊥
unfolding implies_token
implies-first b m [] e = omega arith
implies-first b m (c ∷ bs) e = go (is_class minus c) refl
  where
    go : (t : Bool) → is_class minus c ≡ t → ⊥
    go true s = omega (arith, rw (s, implies_token) at e)
    go false s = omega (arith, rw (s, implies_token) at e)

number-first : (n : ℕ) → kind_number (number_kind n) ≡ 4 → ⊥
unfolding number_kind
number-first n e = go (ℕ_discrete (n - 15) 0)
  where
    go : Dec (n - 15 ≡ 0) → ⊥
    go (yes z) = omega (arith, rw (le-leb n 15 (omega arith), number_kind) at e)
    go (no z) = let r : kind_number (at_most 32767 amount n) ≡ 4 = rw (lt-leb n 15 (omega arith), number_kind) at e in omega (arith, (at-most 32767 amount n 3 r).1)

negative-first : (b m : ℕ) (ds : List ℕ) → kind_number (negative_token b ds m).kind ≡ 4 → ⊥
unfolding negative_token negative_kind
negative-first b m [] e = omega arith
negative-first b m (d ∷ ds) e = go (leb 1 (value 0 (d ∷ ds))) refl
  where
    go : (t : Bool) → leb 1 (value 0 (d ∷ ds)) ≡ t → ⊥
    go true s = let r : kind_number (at_most 32768 amount (value 0 (d ∷ ds))) ≡ 4 = rw (s, negative_kind) at e in omega (arith, (at-most 32768 amount (value 0 (d ∷ ds)) 3 r).1)
    go false s = omega (arith, rw (s, negative_kind) at e)

by-class :
    (c : Class) (b : ℕ) (bs : List ℕ) → ((k : Kind) → c ≡ mark k → 6 ≤ kind_number k) → kind_number (token_from c b bs).kind ≡ 4
    → value 0 (drop 1 (token_from c b bs).bytes) ≤ 1023
unfolding token_from number_token
by-class no_class b bs m e = absurd (omega arith)
by-class space b bs m e = absurd (omega arith)
by-class letter b bs m e = absurd (omega arith)
by-class zero_digit b bs m e = absurd (number-first (value 0 (numeral (b ∷ bs))) e)
by-class digit b bs m e = absurd (number-first (value 0 (numeral (b ∷ bs))) e)
by-class underscore b bs m e = variable-first b (length (b ∷ bs)) (numeral bs) e
by-class colon b bs m e = absurd (implies-first b (length (b ∷ bs)) bs e)
by-class minus b bs m e = absurd (negative-first b (length (b ∷ bs)) (numeral bs) e)
by-class (mark k) b bs m e = absurd (omega (arith, m k refl))

small-first : (bs : List ℕ) (t : Token) (ts : List Token) → tokens 0 bs ≡ t ∷ ts → kind_number t.kind ≡ 4 → value 0 (drop 1 t.bytes) ≤ 1023
unfolding tokens
small-first [] t ts e k = let q : end_token ≡ t = cc in absurd (omega (arith, ap (λ t. kind_number t.kind) q))
small-first (b ∷ bs) t ts e k = go (is_class space b) refl (small-first bs t ts)
  where
    go : (s : Bool) → is_class space b ≡ s → (tokens 0 bs ≡ t ∷ ts → kind_number t.kind ≡ 4 → value 0 (drop 1 t.bytes) ≤ 1023) → value 0 (drop 1 t.bytes) ≤ 1023
    go true s r = r (rw (s, tokens) at e) k
    go false s r =
        let f = rw (s, tokens) at e in
        let q : token_from (class_of b) b bs ≡ t = cc in
        let h : kind_number (token_from (class_of b) b bs).kind ≡ 4 = ap (λ t. kind_number t.kind) q ∙ k in
        rw q at (by-class (class_of b) b bs (λ k e. (mark-kinds b k e).0) h)

pub variable-small : (text : List ℕ) (at : ℕ) (r : Scanned) → NextToken text at r → (v : ℕ) → r.kind ≡ Variable v → v ≤ 1023
variable-small text at r n v e = omega (arith, n.variable v e, small-first (drop at text) (token_of text r) _ n.scanned (ap (λ k. kind_number (kind_of k)) e))

-- The number of a name that was looked up.
pub symbol-number : (ds : List Declaration) (u : Use) (found : Option ℕ) → number_of u.name 0 ds ≡ option_of found → unwrap_or found 0 ≡ symbol_number ds u
unfolding symbol_number
symbol-number ds u None q = rw (q, symbol_number) refl
symbol-number ds u (Some k) q = rw (q, symbol_number) refl

pub found-few : (n : ℕ) (found : Option ℕ) → IfSome found (λ j. (j < n) × (j < 4096)) → unwrap_or found 0 ≤ 4095
found-few n None h = omega arith
found-few n (Some j) h = omega (arith, h.1)

-- The cell of an entry.
module _ (ds : List Declaration) (g : Given) (e : Entry) (i : IsEntry g e) where
  pub cell_variable : (v : ℕ) → g ≡ given.Variable v → 32768 + v ≡ entry_cell ds e
  unfolding entry_cell
  cell_variable v q = let r = rw q at i in rw r.1 refl

  module _ (b : Bor (List ℕ)) (n : ℕ) (number : (u : Use) → u.name ≡ b.now → n ≡ symbol_number ds u) where
    pub cell_negated : g ≡ given.Negated b → 16384 + n ≡ entry_cell ds e
    unfolding entry_cell
    cell_negated q = let r = rw q at i in rw r.2 (ap (16384 +◌) (number r.0 r.1))

    pub cell_named : (g ≡ given.Head b) ⊎ (g ≡ given.Symbol b) → n ≡ entry_cell ds e
    unfolding entry_cell
    cell_named (inl q) = let r = rw q at i in rw r.2 (number r.0 r.1)
    cell_named (inr q) = let r = rw q at i in rw r.2 (number r.0 r.1)
