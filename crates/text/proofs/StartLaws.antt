-- Whether a text begins with `v2.`
use Rattle.std.proofs.Common.{◌≡◌, ℕ, Bool, true, false, ◌&&◌, List, [], ◌∷◌, drop, refl, ap, sym, ◌∙◌, arith}
use lib.Dec.{eqb}
use lib.Pointwise.{pointwise}
use Rattle.text_rules.specs.TextTokens.{name, dot, tokens}
use Rattle.text_rules.specs.TextTokens as rules
use Rattle.text_rules.specs.TextGrammar.{is, v2_text, is_v2}
use Rattle.text_rules.specs.TextWords.{begins_v2, items}
use Rattle.text_rules.specs.Text.{numbers_in, text_items}
use Rattle.text.specs.declared.tokens.Kind.{Kind}
use Rattle.text.specs.declared.tokens.Kind.TheVariants.{Name, Dot}
use Rattle.text.specs.declared.tokens.Token.{Token}
use Rattle.text.specs.Kinds.{kind_of}
use Rattle.text.specs.Scan.{tokens_from, NextToken}
use Rattle.text.specs.Starts.{Starts}
use Rattle.text.proofs.TokenLaws.{not-ending}
use Rattle.text.proofs.GrammarLaws.{same_pointwise}
use Rattle.text.proofs.ReadLaws.{token_of}

pub version-tested : (u : rules.Token) (bs : List ℕ) → u.kind ≡ name → u.bytes ≡ bs → is_v2 u ≡ pointwise eqb bs (118 ∷ 50 ∷ [])
unfolding is_v2 v2_text
version-tested u bs k b = rw (k, b) (same_pointwise bs (118 ∷ 50 ∷ []))

pub no-version : (k : Kind) (u : rules.Token) → (k ≡ Name → ⊥) → u.kind ≡ kind_of k → is_v2 u ≡ false
unfolding is_v2
no-version k u f e = grind (arith, f)

no-dot : (k : Kind) (u : rules.Token) → (k ≡ Dot → ⊥) → u.kind ≡ kind_of k → is dot u ≡ false
no-dot k u f e = grind (arith, f)

unmarked : (text : List ℕ) → begins_v2 (tokens 0 text) ≡ false → Starts text (record { numbers = false; at = 0 })
unfolding numbers_in text_items items
unmarked text e = record { numbers = sym e; inside = omega arith; items = sym (rw (e, items) refl) }

and-false : (b : Bool) → (b && false) ≡ false
and-false true = refl
and-false false = refl

module _ (text : List ℕ) (r : Token) (n : NextToken text 0 r) where
  first : tokens 0 text ≡ token_of text r ∷ tokens_from r.kind text r.to
  first = n.scanned

  pub other-start : is_v2 (token_of text r) ≡ false → Starts text (record { numbers = false; at = 0 })
  unfolding begins_v2
  other-start e = unmarked text (ap begins_v2 first ∙ rw e refl)

  module _ (q : Token) (m : NextToken text r.to q) (k : r.kind ≡ Name) where
    both : tokens 0 text ≡ token_of text r ∷ token_of text q ∷ tokens_from q.kind text q.to
    both = first ∙ ap {B = List rules.Token} (token_of text r ∷◌) (not-ending r.kind text r.to (λ e. cc) ∙ m.scanned)

    pub name-start : (q.kind ≡ Dot → ⊥) → Starts text (record { numbers = false; at = 0 })
    unfolding begins_v2
    name-start f = unmarked text (ap begins_v2 both ∙ rw (no-dot q.kind (token_of text q) f refl) (and-false (is_v2 (token_of text r))))

    pub version-start : is_v2 (token_of text r) ≡ true → q.kind ≡ Dot → Starts text (record { numbers = true; at = q.to })
    unfolding numbers_in text_items items begins_v2
    version-start e f =
        let d : is dot (token_of text q) ≡ true = rw f refl in
        let marked : begins_v2 (tokens 0 text) ≡ true = ap begins_v2 both ∙ rw (e, d) refl in
        record {
          numbers = sym marked;
          inside = m.inside;
          items = sym (rw (marked, items) (ap (drop 2) both ∙ not-ending q.kind text q.to (λ e. cc)));
        }
