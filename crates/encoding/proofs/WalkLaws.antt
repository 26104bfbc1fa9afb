-- The entries of a text's clauses, token by token.
use Prim.Native.Nat.{ℕ, suc, ◌+◌, ◌≤◌}
use mathlib.Core.Path.{◌≡◌, refl, ap, sym, ◌∙◌}
use mathlib.Core.Bool.{Bool, true, false}
use mathlib.Core.List.{List, [], ◌∷◌}
use native.Mathlib.Omega.{arith}
use lib.ListN.{length, drop}
use Rattle.std.specs.Prelude.{Some, None}
use Rattle.text_rules.specs.TextTokens.{Kind, name, variable, dot, tilde, value, Token, tokens}
use Rattle.text_rules.specs.TextGrammar.{same_kind, is}
use Rattle.text_rules.specs.TextWords.{Use, given_arguments, Entry, a_variable, a_head, a_negated, a_symbol, entry_after, entries, starts_from}
use Rattle.text.specs.declared.tokens.Kind.{Kind as Scanned_kind}
use Rattle.text.specs.declared.tokens.Kind.TheVariants.{Ending, Name, Variable, Dot, Tilde}
use Rattle.text.specs.declared.tokens.Token.{Token as Scanned}
use Rattle.text.specs.Kinds.{kind_of}
use Rattle.text.specs.Scan.{tokens_from, NextToken}
use Rattle.text.proofs.ReadLaws.{token_of}
use Rattle.text.proofs.TokenLaws.{not-ending}
use Rattle.encoding.specs.declared.walk.Entry.{Entry as Given}
use Rattle.encoding.specs.declared.walk.Entry.TheVariants as given
use Rattle.encoding.specs.declared.walk.Entries.{Entries}
use Rattle.encoding.specs.declared.sizes.Sizes.{Sizes}
use Rattle.encoding.specs.Walk.{entries_left, IsEntry, Onward, heads, Sized}

abbrev pub use_of : Token → List Token → Use
use_of t ts = record { name = t.bytes; arguments = given_arguments ts; left = t.left }

module _ (b : Kind) (t : Token) (ts : List Token) where
  entries-name : t.kind ≡ name → entries b (t ∷ ts) ≡ entry_after b (use_of t ts) ∷ entries t.kind ts
  unfolding entries
  entries-name e = let p : is name t ≡ true = ap (same_kind name) e in rw (p, entries) refl

  entries-variable : t.kind ≡ variable → entries b (t ∷ ts) ≡ a_variable (value 0 (drop 1 t.bytes)) ∷ entries t.kind ts
  unfolding entries
  entries-variable e = let p : is name t ≡ false = ap (same_kind name) e in let q : is variable t ≡ true = ap (same_kind variable) e in rw (p, q, entries) refl

  entries-other : same_kind name t.kind ≡ false → same_kind variable t.kind ≡ false → entries b (t ∷ ts) ≡ entries t.kind ts
  unfolding entries
  entries-other p q = rw (p, q, entries) refl

-- What stands before a place that is neither a clause's beginning nor after `~` makes no difference.
pub entries-inside : (k : Kind) (ts : List Token) → same_kind k dot ≡ false → same_kind k tilde ≡ false → entries name ts ≡ entries k ts
unfolding entries entry_after
entries-inside k [] p q = refl
entries-inside k (t ∷ ts) p q = go (is name t) refl
  where
    after : (u : Use) → entry_after name u ≡ entry_after k u
    after u = rw (p, q, entry_after) refl

    go : (b : Bool) → is name t ≡ b → entries name (t ∷ ts) ≡ entries k (t ∷ ts)
    go true e = rw (e, entries) (ap (◌∷ entries t.kind ts) (after (use_of t ts)))
    go false e = rw (e, entries) refl

pub not-dot : (k : Scanned_kind) → (k ≡ Dot → ⊥) → same_kind (kind_of k) dot ≡ false
not-dot k f = grind (arith, f)

pub not-tilde : (k : Scanned_kind) → (k ≡ Tilde → ⊥) → same_kind (kind_of k) tilde ≡ false
not-tilde k f = grind (arith, f)

not-name : (k : Scanned_kind) → (k ≡ Name → ⊥) → same_kind name (kind_of k) ≡ false
not-name k f = grind (arith, f)

not-variable : (k : Scanned_kind) → ((v : ℕ) → k ≡ Variable v → ⊥) → same_kind variable (kind_of k) ≡ false
not-variable k f = grind (arith, f)

-- The entries from a place on, by the next token.
module _ (text : List ℕ) (at : ℕ) (r : Scanned) (n : NextToken text at r) (b : Kind) where
  abbrev this : Token
  this = token_of text r

  abbrev rest : List Token
  rest = tokens 0 (drop r.to text)

  pub entries-end : r.kind ≡ Ending → entries b (tokens 0 (drop at text)) ≡ []
  unfolding entries
  entries-end e =
      ap (entries b) (n.scanned ∙ ap (λ k. this ∷ tokens_from k text r.to) e)
      ∙ entries-other b this [] (ap (λ k. same_kind name (kind_of k)) e) (ap (λ k. same_kind variable (kind_of k)) e)

  module _ (f : r.kind ≡ Ending → ⊥) where
    ahead : entries b (tokens 0 (drop at text)) ≡ entries b (this ∷ rest)
    ahead = ap (entries b) (n.scanned ∙ ap (this ∷◌) (not-ending r.kind text r.to f))

    pub entry-variable : (v : ℕ) → r.kind ≡ Variable v → entries b (tokens 0 (drop at text)) ≡ a_variable v ∷ entries (kind_of r.kind) rest
    entry-variable v e = ahead ∙ entries-variable b this rest (ap kind_of e) ∙ ap (λ x. a_variable x ∷ entries (kind_of r.kind) rest) (sym (n.variable v e))

    pub entry-name : r.kind ≡ Name → entries b (tokens 0 (drop at text)) ≡ entry_after b (use_of this rest) ∷ entries (kind_of r.kind) rest
    entry-name e = ahead ∙ entries-name b this rest (ap kind_of e)

    pub entry-none : (r.kind ≡ Name → ⊥) → ((v : ℕ) → r.kind ≡ Variable v → ⊥) → entries b (tokens 0 (drop at text)) ≡ entries (kind_of r.kind) rest
    entry-none p q = ahead ∙ entries-other b this rest (not-name r.kind p) (not-variable r.kind q)

-- The number of starts does not rest on the cell that is counted from.
starts-count : (es : List Entry) (a c : ℕ) → length (starts_from a es) ≡ length (starts_from c es)
unfolding starts_from
starts-count [] a c = refl
starts-count (a_variable v ∷ es) a c = starts-count es (suc a) (suc c)
starts-count (a_head u ∷ es) a c = ap suc (starts-count es (suc a) (suc c))
starts-count (a_negated u ∷ es) a c = starts-count es (suc a) (suc c)
starts-count (a_symbol u ∷ es) a c = starts-count es (suc a) (suc c)

pub starts-more : (g : Given) (e : Entry) → IsEntry g e → (es : List Entry) (a c : ℕ) → length (starts_from a (e ∷ es)) ≡ heads g + length (starts_from c es)
unfolding starts_from
starts-more (given.Variable v) e i es a c = rw i.1 (omega (arith, starts-count es (suc a) c))
starts-more (given.Head b) e i es a c = rw i.2 (omega (arith, starts-count es (suc a) c))
starts-more (given.Negated b) e i es a c = rw i.2 (omega (arith, starts-count es (suc a) c))
starts-more (given.Symbol b) e i es a c = rw i.2 (omega (arith, starts-count es (suc a) c))

heads-most : (g : Given) → heads g ≤ 1
heads-most (given.Variable v) = omega arith
heads-most (given.Head b) = omega arith
heads-most (given.Negated b) = omega arith
heads-most (given.Symbol b) = omega arith

-- The entries are counted as far as a place.
pub record Walked (es : List Entry) (w : Entries) (s : Sizes) : Type 0 where
  pub fewer : s.clauses ≤ s.cells
  pub few : s.cells ≤ w.at
  pub cells : s.cells + length (entries_left w) ≡ length es
  pub clauses : s.clauses + length (starts_from s.cells (entries_left w)) ≡ length (starts_from 0 es)

pub walk-none : (es : List Entry) (w : Entries) → entries_left w ≡ es → Walked es w (record { clauses = 0; cells = 0 })
walk-none es w e = record { fewer = omega arith; few = omega arith; cells = rw e (omega arith); clauses = rw e (omega arith) }

module _ (es : List Entry) (w v : Entries) (s : Sizes) (d : Walked es w s) where
  pub walk-on : (g : Given) → Onward (Some g) w v → (q : Sizes) → (q.clauses ≡ s.clauses + heads g) × (q.cells ≡ s.cells + 1) → Walked es v q
  walk-on g o q e =
      let x = o.0.0 in
      record {
        fewer = omega (arith, e.0, e.1, heads-most g, d.fewer);
        few = omega (arith, e.1, d.few, o.1);
        cells = omega (arith, e.1, d.cells, ap length o.0.2);
        clauses = omega (arith, e.0, d.clauses, ap (λ es. length (starts_from s.cells es)) o.0.2, starts-more g x o.0.1 (entries_left v) s.cells q.cells);
      }

  pub walk-end : Onward None w v → Sized es s
  unfolding starts_from
  walk-end o =
      record {
        clauses = omega (arith, d.clauses, ap (λ es. length (starts_from s.cells es)) o);
        cells = omega (arith, d.cells, ap length o);
      }
