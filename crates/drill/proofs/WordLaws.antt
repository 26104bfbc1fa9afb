-- Symbol words and the table's rows: what they say of fillings.
use Prim.Native.Nat.{ℕ, zero, suc, ◌+◌, ◌-◌, ◌≤◌, ◌<◌}
use mathlib.Core.Path.{◌≡◌, refl, ap, ap₂, sym, ◌∙◌}
use mathlib.Core.Bool.{Bool, true, false}
use mathlib.Core.Option.{Option, none, some}
use mathlib.Core.List.{List, [], ◌∷◌}
use native.Mathlib.Numerals.{add-one}
use native.Mathlib.Omega.{arith}
use lib.ListN.{length, get_or, drop, get_elem?, length-map, drop_of_length-le}
use lib.Seq.{drop-cons}
use lib.Dec.{eqb, eqb-suc-zero}
use Rattle.std.specs.Prelude as answer
use Rattle.std.specs.Prelude.{is_some}
use Rattle.rules.specs.Syntax.{Symbol, functor, predicate}
use Rattle.rules.specs.Drill.{fillings}
use Rattle.deck.specs.Kinds.{symbol_of, symbols_of}
use Rattle.signature.specs.Symbols.{symbol_count, symbol_word, arity_at as word_arity, is_predicate}
use Rattle.deck.proofs.SymbolLaws.{symbol-past, symbol-at, kind-functor, kind-predicate}
use Rattle.drill.specs.Successors.{symbol_arity, arity_at, fills_from, fills, nonempty, starts_with, Known, Sought}
use Rattle.drill.proofs.FillLaws.{fillings-none, sought-nonempty}

-- The number of symbols.
pub symbols-length : (ws : List ℕ) → length (symbols_of ws) ≡ length ws
unfolding symbols_of
symbols-length ws = length-map ws symbol_of

-- A symbol by its number: a functor or a predicate, with its arity.
pub functor-at : (ws : List ℕ) (f : ℕ) → f < symbol_count ws → is_predicate ws f ≡ false → get_elem? (symbols_of ws) f ≡ some (functor (word_arity ws f))
functor-at ws f h p = symbol-at ws f h ∙ ap {B = Option Symbol} some (kind-functor (symbol_word ws f) p)

pub predicate-at : (ws : List ℕ) (f : ℕ) → f < symbol_count ws → is_predicate ws f ≡ true → get_elem? (symbols_of ws) f ≡ some (predicate (word_arity ws f))
predicate-at ws f h p = symbol-at ws f h ∙ ap {B = Option Symbol} some (kind-predicate (symbol_word ws f) p)

pub arity-at : (ws : List ℕ) (f : ℕ) → f < symbol_count ws → word_arity ws f ≡ arity_at (symbols_of ws) f
unfolding arity_at
arity-at ws f h = go (is_predicate ws f) refl
  where
    go : (b : Bool) → is_predicate ws f ≡ b → word_arity ws f ≡ arity_at (symbols_of ws) f
    go true p = sym (ap symbol_arity (predicate-at ws f h p))
    go false p = sym (ap symbol_arity (functor-at ws f h p))

-- Whether a symbol can be the first.
pub starts-predicate : (ws : List ℕ) (m k f : ℕ) → f < symbol_count ws → is_predicate ws f ≡ true → starts_with (symbols_of ws) m k (get_elem? (symbols_of ws) f) ≡ false
unfolding starts_with
starts-predicate ws m k f h p = ap (starts_with (symbols_of ws) m k) (predicate-at ws f h p)

module _ (ws : List ℕ) (m k f : ℕ) (h : f < symbol_count ws) (p : is_predicate ws f ≡ false) where
  starts-functor : starts_with (symbols_of ws) m k (get_elem? (symbols_of ws) f) ≡ nonempty (fillings (symbols_of ws) m (word_arity ws f + k))
  unfolding starts_with
  starts-functor = ap (starts_with (symbols_of ws) m k) (functor-at ws f h p)

  pub starts-over : m < word_arity ws f + k → starts_with (symbols_of ws) m k (get_elem? (symbols_of ws) f) ≡ false
  unfolding nonempty
  starts-over l = starts-functor ∙ ap nonempty (fillings-none (symbols_of ws) m (word_arity ws f + k) l)

pub starts-row :
    (ws : List ℕ) (row : List Bool) (m k f : ℕ) → f < symbol_count ws → is_predicate ws f ≡ false → Known (symbols_of ws) m row → m < 8 → word_arity ws f + k ≤ m
    → get_or row (word_arity ws f + k) false ≡ starts_with (symbols_of ws) m k (get_elem? (symbols_of ws) f)
starts-row ws row m k f i p t h l = t.at (word_arity ws f + k) (omega arith) ∙ sym (starts-functor ws m k f i p)

-- An entry of the table.
pub entry-sought : (S : List Symbol) (m k : ℕ) → 1 ≤ m → 1 ≤ k → (r : answer.Option ℕ) → Sought S (m - 1) (k - 1) 0 r → is_some r ≡ nonempty (fillings S m k)
entry-sought S m k some-cells some-places r w =
    let p : suc (m - 1) ≡ m = omega arith in
    let q : suc (k - 1) ≡ k = omega arith in
    sought-nonempty S (m - 1) (k - 1) r w ∙ ap₂ (λ x y. nonempty (fillings S x y)) p q

-- Cells that are k terms, one cell after the other.
module _ (ws cells : List ℕ) (i k : ℕ) (inside : i < length cells) where
  abbrev pub rest : ℕ → Bool
  rest j = fills (symbols_of ws) j (drop (i + 1) cells)

  split : drop i cells ≡ get_or cells i 0 ∷ drop (i + 1) cells
  split = rw (add-one, drop-cons cells i 0)

  pub fills-closed : k ≡ 0 → fills (symbols_of ws) k (drop i cells) ≡ false
  unfolding fills
  fills-closed e = rw (e, split)

  -- A cell as the code has it.
  module _ (f : ℕ) (cell : f ≡ get_or cells i 0) (some-places : 1 ≤ k) where
    fills-by : (o : Option Symbol) → get_elem? (symbols_of ws) f ≡ o → fills (symbols_of ws) k (drop i cells) ≡ fills_from o (λ a. rest (a + (k - 1)))
    unfolding fills
    fills-by o e =
        let p : k ≡ suc (k - 1) = omega arith in
        ap₂ (fills (symbols_of ws)) p split ∙ ap (λ x. fills_from x (λ a. rest (a + (k - 1)))) (ap (get_elem? (symbols_of ws)) (sym cell) ∙ e)

    pub fills-unknown : symbol_count ws ≤ f → fills (symbols_of ws) k (drop i cells) ≡ false
    unfolding fills_from
    fills-unknown l = fills-by none (symbol-past ws f l)

    pub fills-predicate : f < symbol_count ws → is_predicate ws f ≡ true → fills (symbols_of ws) k (drop i cells) ≡ false
    unfolding fills_from
    fills-predicate l p = fills-by (some (predicate (word_arity ws f))) (predicate-at ws f l p)

    pub fills-functor : f < symbol_count ws → is_predicate ws f ≡ false → fills (symbols_of ws) k (drop i cells) ≡ rest (word_arity ws f + (k - 1))
    unfolding fills_from
    fills-functor l p = fills-by (some (functor (word_arity ws f))) (functor-at ws f l p)

pub fills-end : (S : List Symbol) (cells : List ℕ) (i k : ℕ) → i ≡ length cells → fills S k (drop i cells) ≡ eqb k 0
unfolding fills
fills-end S cells i k e = ap (fills S k) (drop_of_length-le cells {i = i} (omega arith)) ∙ none_left k
  where
    none_left : (k : ℕ) → fills S k [] ≡ eqb k 0
    none_left zero = refl
    none_left (suc k) = sym (eqb-suc-zero k)
