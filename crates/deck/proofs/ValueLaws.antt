-- The format of a deck that opened, by its first word.
use Prim.Native.Nat.{ℕ}
use mathlib.Core.Path.{◌≡◌, refl, subst}
use mathlib.Core.Option.{Option, none, some, some-injective}
use mathlib.Core.List.{List}
use borrow.Author.Tests.{eq-eqb, ne_eqb}
use Rattle.rules.specs.Syntax.{Format, format1, format2, Deck}
use Rattle.rules.specs.Refusals.{accepted}
use Rattle.rules.specs.Decks.{header, symbol_part, read_values, read_format, open_deck}
use Rattle.rules.specs.Column.{number_word}
use Rattle.rules.proofs.SymbolLaws.{kept-distinct}
use Rattle.rules.proofs.DeckLaws.{steps-open}

module _ (ws : List ℕ) (d : Deck) (e : open_deck ws ≡ accepted d) where
  pub format-1-values : (header ws 0 ≡ 2 → ⊥) → (f : ℕ) → number_word d.format f ≡ none
  unfolding read_format number_word
  format-1-values h f =
      let F : some format1 ≡ some d.format = rw (ne_eqb (header ws 0) 2 h, read_format) at (steps-open ws d e).format in
      subst (λ (x : Format). number_word x f ≡ none) (some-injective format1 d.format F) refl

  pub format-values : header ws 0 ≡ 2 → (vs : List (Option ℕ)) × (read_values (symbol_part ws) ≡ some vs) × (format2 vs ≡ d.format)
  unfolding read_format
  format-values h =
      let k = kept-distinct (read_values (symbol_part ws)) d.format (rw (eq-eqb (header ws 0) 2 h, read_format) at (steps-open ws d e).format) in
      (k.0, k.1, k.3)
