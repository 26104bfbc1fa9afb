-- Reading a text token by token.
use Rattle.std.proofs.Common.{ℕ, ◌-◌, ◌≤◌, ◌<◌, ◌≡◌, List, ◌∷◌, length, take, drop, refl, ap, ap₂, sym, ◌∙◌, arith}
use Rattle.std.proofs.Math.Option.{Option, none, some, none-ne-some}
use Rattle.text_rules.specs.TextTokens.{token, tokens}
use Rattle.text_rules.specs.TextTokens as rules
use Rattle.text_rules.specs.TextGrammar.{State, item, follows, next, unread}
use Rattle.text_rules.specs.Text.{text_unread, place_of}
use Rattle.text.specs.declared.tokens.Kind.TheVariants.{Ending, Opening}
use Rattle.text.specs.declared.tokens.Token.{Token}
use Rattle.text.specs.Kinds.{kind_of}
use Rattle.text.specs.Scan.{tokens_from, NextToken}
use Rattle.text.specs.Steps.{depth_of}
use Rattle.text.specs.declared.start.Start.{Start}
use Rattle.text.specs.Starts.{Starts}
use Rattle.text.proofs.TokenLaws.{not-ending}
use Rattle.text.proofs.GrammarLaws.{one_deeper, unread-goes, unread-stops, unread-ends}

-- The text is read as far as `at`, where it stands at s.
pub record ReadTo (text : List ℕ) (s : State) (at : ℕ) : Type 0 where
  pub inside : at ≤ length text
  pub shallow : depth_of s ≤ at
  pub same : text_unread text ≡ unread s (tokens 0 (drop at text))

pub read_none : (text : List ℕ) (r : Start) → Starts text r → ReadTo text (item r.numbers) r.at
unfolding text_unread
read_none text r h = record { inside = h.inside; shallow = omega arith; same = ap₂ (λ m ts. unread (item m) ts) (sym h.numbers) (sym h.items) }

-- The token that the code's one stands for.
abbrev pub token_of : List ℕ → Token → rules.Token
token_of text r = token (kind_of r.kind) (take (r.to - r.from) (drop r.from text)) (length text - r.from)

module _ (text : List ℕ) (s : State) (at : ℕ) (r : Token) (n : NextToken text at r) (d : ReadTo text s at) where
  abbrev this : rules.Token
  this = token_of text r

  here : text_unread text ≡ unread s (this ∷ tokens_from r.kind text r.to)
  here = d.same ∙ ap (unread s) n.scanned

  pub shallow-enough : length text < 18446744073709551616 → r.kind ≡ Opening → depth_of s < 18446744073709551615
  shallow-enough l e = omega (arith, d.shallow, n.later, n.inside, n.progress (λ q. cc))

  pub read-on : (u : State) → next (follows s) this ≡ some u → (r.kind ≡ Ending → ⊥) → ReadTo text u r.to
  read-on u e f =
      record {
        inside = n.inside;
        shallow = omega (arith, one_deeper s u this e, d.shallow, n.later, n.progress f);
        same = here ∙ unread-goes s u this (tokens_from r.kind text r.to) e ∙ ap (unread u) (not-ending r.kind text r.to f);
      }

  pub read_all : (u : State) → next (follows s) this ≡ some u → r.kind ≡ Ending → place_of text (text_unread text) ≡ none
  unfolding place_of
  read_all u e f =
      let last : unread u (tokens_from r.kind text r.to) ≡ none = ap (λ k. unread u (tokens_from k text r.to)) f ∙ unread-ends u in
      ap (place_of text) (here ∙ unread-goes s u this (tokens_from r.kind text r.to) e ∙ last)

  pub read-stops : next (follows s) this ≡ none → place_of text (text_unread text) ≡ some r.from
  unfolding place_of
  read-stops e =
      let back : length text - (length text - r.from) ≡ r.from = omega (arith, n.forward, n.inside) in
      ap (place_of text) (here ∙ unread-stops s this (tokens_from r.kind text r.to) e) ∙ ap some back

pub no_place : (text : List ℕ) (left : Option ℕ) → place_of text left ≡ none → left ≡ none
unfolding place_of
no_place text none e = refl
no_place text (some n) e = absurd (none-ne-some (length text - n) (sym e))
