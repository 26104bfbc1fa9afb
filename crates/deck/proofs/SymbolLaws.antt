-- Symbol words: those that fit are read as the symbols that the code takes them for.
use Prim.Native.Nat.{ℕ, zero, suc, ◌-◌, ◌%◌, ◌≤◌, ◌<◌}
use mathlib.Core.Path.{◌≡◌, refl, ap, ap₂, sym, ◌∙◌}
use mathlib.Core.Bool.{Bool, true, false, ◌&&◌, ◌||◌, and-eq-true_iff}
use mathlib.Core.Option.{Option, none, some}
use mathlib.Core.List.{List, [], ◌∷◌}
use native.Mathlib.Omega.{arith}
use lib.ListN.{length, get_or, get_elem?}
use lib.Dec.{leb}
use borrow.Author.Tests.{le-leb, lt-leb, leb-true}
use Rattle.rules.specs.Syntax.{Symbol, functor, predicate}
use Rattle.rules.specs.Decks.{read_symbol, read_next, read_all}
use Rattle.deck.specs.Answers.{found}
use Rattle.deck.specs.Kinds.{symbol_of, symbols_of}
use Rattle.deck.proofs.BoolLaws.{found-next}

-- The symbol of a number, or none.
pub symbol-past : (ws : List ℕ) (n : ℕ) → length ws ≤ n → get_elem? (symbols_of ws) n ≡ none
unfolding symbols_of
symbol-past [] n h = refl
symbol-past (w ∷ ws) zero h = absurd (omega arith)
symbol-past (w ∷ ws) (suc n) h = symbol-past ws n (omega arith)

pub symbol-at : (ws : List ℕ) (n : ℕ) → n < length ws → get_elem? (symbols_of ws) n ≡ some (symbol_of (get_or ws n 0))
unfolding symbols_of
symbol-at [] n h = absurd (omega arith)
symbol-at (w ∷ ws) zero h = refl
symbol-at (w ∷ ws) (suc n) h = symbol-at ws n (omega arith)

-- The kind of a word, as the code tells it.
pub kind-functor : (w : ℕ) → leb 256 w ≡ false → symbol_of w ≡ functor (w % 256)
unfolding symbol_of
kind-functor w e = rw (e, symbol_of)

pub kind-predicate : (w : ℕ) → leb 256 w ≡ true → symbol_of w ≡ predicate (w % 256)
unfolding symbol_of
kind-predicate w e = rw (e, symbol_of)

functor-word : (w : ℕ) → w < 256 → symbol_of w ≡ functor w
functor-word w h = let n : w % 256 ≡ w = omega arith in kind-functor w (lt-leb 256 w h) ∙ ap functor n

predicate-word : (w : ℕ) → 256 ≤ w → w ≤ 271 → symbol_of w ≡ predicate (w - 256)
predicate-word w h l = let n : w % 256 ≡ w - 256 = omega arith in kind-predicate w (le-leb 256 w h) ∙ ap predicate n

-- What is read.
pub found-symbol : (w : ℕ) → found (read_symbol w) ≡ true → read_symbol w ≡ some (symbol_of w)
unfolding read_symbol found
found-symbol w e = go (leb w 15) (leb 256 w && leb w 271) refl refl
  where
    go : (a b : Bool) → leb w 15 ≡ a → (leb 256 w && leb w 271) ≡ b → read_symbol w ≡ some (symbol_of w)
    go true b p q = let l : w ≤ 15 = leb-true w 15 p in rw (p, read_symbol) (ap {B = Option Symbol} some (sym (functor-word w (omega arith))))
    go false true p q =
        let t = (and-eq-true_iff (leb 256 w) (leb w 271)).0 q in
        rw (p, q, read_symbol) (ap {B = Option Symbol} some (sym (predicate-word w (leb-true 256 w t.0) (leb-true w 271 t.1))))
    go false false p q = let n : false ≡ true = rw (p, q, read_symbol) at e in absurd (let z : ◌≡◌ {A = ℕ} 0 1 = cc in omega arith)

pub found-symbols : (ws : List ℕ) → found (read_all read_symbol ws) ≡ true → read_all read_symbol ws ≡ some (symbols_of ws)
unfolding read_all read_next symbols_of
found-symbols [] e = refl
found-symbols (w ∷ ws) e =
    let b = (and-eq-true_iff (found (read_symbol w)) (found (read_all read_symbol ws))).0 (sym (found-next (read_symbol w) (read_all read_symbol ws)) ∙ e) in
    ap₂ read_next (found-symbol w b.0) (found-symbols ws b.1)

-- The test of a symbol word.
pub word-found : (w : ℕ) → found (read_symbol w) ≡ (leb w 15 || leb 256 w && leb w 271)
unfolding read_symbol found
word-found w = go (leb w 15) (leb 256 w && leb w 271) refl refl
  where
    go : (a b : Bool) → leb w 15 ≡ a → (leb 256 w && leb w 271) ≡ b → found (read_symbol w) ≡ (leb w 15 || leb 256 w && leb w 271)
    go true b p q = rw (p, read_symbol) refl
    go false true p q = rw (p, q, read_symbol) refl
    go false false p q = rw (p, q, read_symbol) refl
