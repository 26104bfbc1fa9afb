-- The arity of a predicate by its symbol word: that of each clause about it. Assumes nothing.
use Prim.Native.Nat.{ℕ, ◌<◌}
use mathlib.Core.Path.{◌≡◌, sym, ◌∙◌, subst}
use mathlib.Core.Option.{Option, none, some}
use native.Mathlib.Omega.{arith}
use lib.ListN.{get_elem?}
use mathlib.Core.List.{List}
use Rattle.rules.specs.Terms.{count}
use Rattle.rules.specs.Syntax.{Symbol, functor, predicate, Deck}
use Rattle.rules.specs.Cells.{positive, symbol_cell, read_cell}
use Rattle.rules.specs.Refusals.{accepted}
use Rattle.rules.specs.Decks.{open_deck, symbol_words}
use Rattle.rules.proofs.CellLaws.{cell-symbol, written_as}
use Rattle.rules.proofs.DeckLaws.{steps-open, opened-written}
use Rattle.signature.specs.Symbols.{arity_at}
use Rattle.signature.proofs.SymbolLaws.{symbol-known}
use Rattle.clauses.specs.Rows.{Argued}
use Rattle.clauses.proofs.ClauseLaws.{clause-at}

positive-cell : (p k : ℕ) (o : Option Symbol) → symbol_cell p o ≡ positive p k → o ≡ some (predicate k)
unfolding symbol_cell
positive-cell p k none e = cc
positive-cell p k (some (functor m)) e = cc
positive-cell p k (some (predicate m)) e = cc

module _ (ws : List ℕ) (d : Deck) (o : open_deck ws ≡ accepted d) where
  pub arity-of : (p k : ℕ) → read_cell d.symbols p ≡ positive p k → arity_at (symbol_words ws) p ≡ k
  arity-of p k h =
      let S = d.symbols in
      let l : p < 16384 = (written_as S p (positive p k) h).1 in
      (symbol-known (symbol_words ws) S (steps-open ws d o).symbols p (predicate k) (positive-cell p k (get_elem? S p) (sym (cell-symbol S p l) ∙ h))).1

  pub all-argued : (p : ℕ) → 0 < arity_at (symbol_words ws) p → Argued p d.clauses
  all-argued p h = record {
    some = λ i c at about.
        let w = clause-at d.symbols d.clauses i c (opened-written ws d o).1.clauses at in
        omega (arith, arity-of p (count c.arguments) (subst (λ (q : ℕ). read_cell d.symbols q ≡ positive q (count c.arguments)) about w.literals.0.0));
  }
