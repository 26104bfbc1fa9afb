-- Commas inside brackets, token by token.
use Rattle.std.proofs.Common.{ℕ, zero, suc, ◌+◌, ◌≤◌, ◌<◌, ◌≡◌, true, false, List, [], ◌∷◌, Some, None, length, drop, refl, ap, sym, ◌∙◌, arith}
use Rattle.text_rules.specs.TextTokens.{opening, closing, comma, ending, Token, tokens}
use Rattle.text_rules.specs.TextGrammar.{is}
use Rattle.text_rules.specs.TextWords.{commas, given_arguments}
use Rattle.text.specs.declared.arguments.Count.{Count}
use Rattle.text.specs.declared.tokens.Kind.TheVariants.{Ending, Opening}
use Rattle.text.specs.declared.tokens.Token.{Token as Scanned}
use Rattle.text.specs.Kinds.{kind_of}
use Rattle.text.specs.Scan.{tokens_from, NextToken}
use Rattle.text.specs.Counting.{Counts}
use Rattle.text.proofs.TokenLaws.{not-ending}
use Rattle.text.proofs.ReadLaws.{token_of}

module _ (t : Token) (ts : List Token) where
  pub opens : (d : ℕ) → is opening t ≡ true → commas d (t ∷ ts) ≡ commas (suc d) ts
  unfolding commas
  opens zero e = rw (e, commas)
  opens (suc d) e = rw (e, commas)

  pub closes : (d : ℕ) → is opening t ≡ false → is closing t ≡ true → commas (suc d) (t ∷ ts) ≡ commas d ts
  unfolding commas
  closes d e f = rw (e, f, commas)

  pub ends : is opening t ≡ false → is closing t ≡ true → commas 0 (t ∷ ts) ≡ 0
  unfolding commas
  ends e f = rw (e, f, commas)

  pub counts : is opening t ≡ false → is closing t ≡ false → is comma t ≡ true → commas 0 (t ∷ ts) ≡ suc (commas 0 ts)
  unfolding commas
  counts e f g = rw (e, f, g, commas)

  pub passes : is opening t ≡ false → is closing t ≡ false → is comma t ≡ false → commas 0 (t ∷ ts) ≡ commas 0 ts
  unfolding commas
  passes e f g = rw (e, f, g, commas)

  pub passes-inside : (d : ℕ) → is opening t ≡ false → is closing t ≡ false → commas (suc d) (t ∷ ts) ≡ commas (suc d) ts
  unfolding commas
  passes-inside d e f = rw (e, f, commas)

-- The arguments of a name that ends at `at`, counted as far as a place.
pub record CountTo (text : List ℕ) (at place : ℕ) (c : Count) : Type 0 where
  pub inside : place ≤ length text
  pub shallow : c.depth ≤ place
  pub few : c.begun ≤ place
  pub same : given_arguments (tokens 0 (drop at text)) ≡ c.begun + commas c.depth (tokens 0 (drop place text))

abbrev rest_of : List ℕ → Scanned → List Token
rest_of text r = tokens_from r.kind text r.to

module _ (text : List ℕ) (at : ℕ) (r : Scanned) (n : NextToken text at r) where
  pub no_arguments : (r.kind ≡ Opening → ⊥) → 0 ≡ given_arguments (tokens 0 (drop at text))
  unfolding given_arguments
  no_arguments f = let e : is opening (token_of text r) ≡ false = grind (arith, f) in sym (ap given_arguments n.scanned ∙ rw (e, given_arguments) refl)

  pub first-argument : r.kind ≡ Opening → CountTo text at r.to (record { depth = 0; begun = 1 })
  unfolding given_arguments
  first-argument e =
      let f : r.kind ≡ Ending → ⊥ = λ q. cc in
      let q : is opening (token_of text r) ≡ true = rw e refl in
      let given : given_arguments (tokens 0 (drop at text)) ≡ suc (commas 0 (rest_of text r)) = ap given_arguments n.scanned ∙ rw (q, given_arguments) refl in
      record {
        inside = n.inside;
        shallow = omega arith;
        few = omega (arith, n.progress f);
        same = given ∙ ap (λ ts. suc (commas 0 ts)) (not-ending r.kind text r.to f) ∙ omega arith;
      }

module _ (text : List ℕ) (at place : ℕ) (k : Count) (r : Scanned) (n : NextToken text place r) (c : CountTo text at place k) where
  pub within : (r.kind ≡ Ending → ⊥) → length text < 18446744073709551616 → (k.depth < 18446744073709551615) × (k.begun < 18446744073709551615)
  within f l = let p = n.progress f in (omega (arith, c.shallow, n.later, n.inside), omega (arith, c.few, n.later, n.inside))

  last-token : (d : ℕ) (t : Token) → t.kind ≡ ending → commas d (t ∷ []) ≡ 0
  unfolding commas
  last-token zero t e = passes t [] (rw e refl) (rw e refl) (rw e refl)
  last-token (suc d) t e = passes-inside t [] d (rw e refl) (rw e refl)

  pub count-ended : r.kind ≡ Ending → k.begun ≡ given_arguments (tokens 0 (drop at text))
  count-ended e =
      let this : Token = token_of text r in
      let all : tokens 0 (drop place text) ≡ this ∷ [] = n.scanned ∙ ap (λ x. this ∷ tokens_from x text r.to) e in
      let none : commas k.depth (tokens 0 (drop place text)) ≡ 0 = ap (commas k.depth) all ∙ last-token k.depth this (ap kind_of e) in
      omega (arith, c.same, none)

  pub count-done : Counts k r.kind None → k.begun ≡ given_arguments (tokens 0 (drop at text))
  count-done s = sym (c.same ∙ ap (λ ts. k.begun + commas k.depth ts) n.scanned ∙ s.step (token_of text r) (rest_of text r) refl)

  pub count-on : (d : Count) → (r.kind ≡ Ending → ⊥) → Counts k r.kind (Some d) → CountTo text at r.to d
  count-on d f s =
      let p = n.progress f in
      record {
        inside = n.inside;
        shallow = omega (arith, c.shallow, s.grown.0, n.later);
        few = omega (arith, c.few, s.grown.1, n.later);
        same =
            c.same
            ∙ ap (λ ts. k.begun + commas k.depth ts) n.scanned
            ∙ s.step (token_of text r) (rest_of text r) refl
            ∙ ap (λ ts. d.begun + commas d.depth ts) (not-ending r.kind text r.to f);
      }
