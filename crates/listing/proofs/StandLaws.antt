-- Terms whose cells a slice begins with: their first cell, and their parts.
use Prim.Native.Nat.{ℕ, suc, ◌+◌, ◌-◌, ◌≤◌, ◌<◌}
use mathlib.Core.Path.{◌≡◌, refl, ap, sym, ◌∙◌}
use mathlib.Core.Option.{Option, none, some}
use mathlib.Core.List.{List, [], ◌∷◌}
use native.Mathlib.Omega.{arith}
use lib.ListN.{length, get_elem?, drop}
use Rattle.rules.specs.Terms.{Term, var, app, Terms, nil, cons, count, size, sizes, vars_terms}
use Rattle.rules.specs.Syntax.{Symbol, functor, predicate}
use Rattle.rules.specs.Cells.{write_terms, function, symbol_cell, read_cell}
use Rattle.rules.specs.Decks.{read_symbol, read_all}
use Rattle.rules.specs.Listing.{decimal}
use Rattle.rules.proofs.CellLaws.{Small, after-term, other-terms, cell-symbol, written_as, drop-terms}
use Rattle.signature.proofs.SymbolLaws.{Word, symbol-known}
use Rattle.signature.specs.Symbols.{symbol_count, arity_at}
use Rattle.listing.specs.Standing.{TermsAt, TermAt, ArgumentsAt, show_term}

functor-cell : (f k : ℕ) (o : Option Symbol) → symbol_cell f o ≡ function f k → o ≡ some (functor k)
unfolding symbol_cell
functor-cell f k none e = absurd (let z : ◌≡◌ {A = ℕ} 0 1 = cc in omega arith)
functor-cell f k (some (functor m)) e = cc
functor-cell f k (some (predicate m)) e = absurd (let z : ◌≡◌ {A = ℕ} 0 1 = cc in omega arith)

-- The arity of a functor by its symbol word.
arity-at : (ws : List ℕ) (S : List Symbol) (f k : ℕ) → read_all read_symbol ws ≡ some S → read_cell S f ≡ function f k → Word ws f k
arity-at ws S f k e h =
    let l : f < 16384 = (written_as S f (function f k) h).1 in
    symbol-known ws S e f (functor k) (functor-cell f k (get_elem? S f) (sym (cell-symbol S f l) ∙ h))

-- The first of several terms, and the others after it.
module _ (words cells : List ℕ) where
  first-term : (t : Term) (ts : Terms) → TermsAt words cells (cons t ts) → TermAt words cells t
  first-term t ts a = record {
    symbols = a.symbols;
    rest = write_terms ts a.rest;
    read = a.read;
    written = a.written;
    formed = (a.formed.0, tt);
    small = other-terms Small (cons t nil) (vars_terms ts []) [] a.small tt;
  }

  other-terms-at : (t : Term) (ts : Terms) → TermsAt words cells (cons t ts) → TermsAt words (drop (size t) cells) ts
  other-terms-at t ts a = record {
    symbols = a.symbols;
    rest = a.rest;
    read = a.read;
    written =
        let z : size t + 0 ≡ size t = omega arith in
        ap (drop (size t)) a.written ∙ rw z at (drop-terms (cons t nil) (write_terms ts a.rest));
    formed = a.formed.1;
    small = after-term Small t (vars_terms ts []) a.small;
  }

-- A symbol that is known, and its arguments.
pub record SymbolAt (words cells : List ℕ) (symbol : ℕ) (ts : Terms) : Type 0 where
  pub known : symbol < symbol_count words
  pub arity : arity_at words symbol ≡ count ts
  pub arguments : TermsAt words cells ts

-- The arity that was read is the number of its arguments.
pub with-arity :
    {words cells : List ℕ} {symbol s arity : ℕ} {ts : Terms} → arity ≡ arity_at words s → s ≡ symbol → SymbolAt words cells symbol ts
    → ArgumentsAt words cells arity ts
with-arity {words} r e a = record { many = sym (r ∙ ap (arity_at words) e ∙ a.arity); arguments = a.arguments }

-- What is printed of the term in front, by its first cell.
pub record Functor (words others : List ℕ) (cell : ℕ) (t : Term) : Type 0 where
  pub arguments : Terms
  pub standing : SymbolAt words others cell arguments
  pub term : t ≡ app cell arguments
  pub whole : size t ≡ suc (sizes arguments)

pub term-inside : (words cells : List ℕ) (t : Term) → TermAt words cells t → 0 < length cells
term-inside words cells (var v) a = rw a.written (omega arith)
term-inside words cells (app f us) a = rw a.written (omega arith)

module _ (words : List ℕ) {cells : List ℕ} (cell : ℕ) (others : List ℕ) (e : cells ≡ cell ∷ others) where
  pub variable-text :
      (sign : ℕ) (t : Term) → TermAt words cells t → 32768 ≤ cell
      → (show_term sign t [] ≡ sign ∷ decimal (cell - 32768) []) × (others ≡ drop (size t) cells)
  variable-text sign (var v) a h =
      let w : cell ∷ others ≡ (32768 + v) ∷ a.rest = sym e ∙ a.written in
      let c : cell ≡ 32768 + v = cc in
      let n : v ≡ cell - 32768 = omega (arith, c) in
      (ap {B = List ℕ} (λ x. sign ∷ decimal x []) n, sym (ap (drop 1) e))
  variable-text sign (app f us) a h =
      let w : cell ∷ others ≡ f ∷ write_terms us a.rest = sym e ∙ a.written in
      let c : cell ≡ f = cc in
      absurd (omega (arith, c, (written_as a.symbols f (function f (count us)) a.formed.0.0).1))

  pub functor-text : (t : Term) → TermAt words cells t → cell < 32768 → Functor words others cell t
  functor-text (var v) a h =
      let w : cell ∷ others ≡ (32768 + v) ∷ a.rest = sym e ∙ a.written in
      let c : cell ≡ 32768 + v = cc in
      absurd (omega (arith, c))
  functor-text (app f us) a h =
      let w : cell ∷ others ≡ f ∷ write_terms us a.rest = sym e ∙ a.written in
      let same : cell ≡ f = cc in
      let k = arity-at words a.symbols f (count us) a.read a.formed.0.0 in
      record {
        arguments = us;
        standing = record {
          known = omega (arith, k.0, same);
          arity = rw same k.1;
          arguments = record { symbols = a.symbols; rest = a.rest; read = a.read; written = cc; formed = a.formed.0.1; small = a.small };
        };
        term = ap (λ (n : ℕ). app n us) (sym same);
        whole = refl;
      }

pub after-cell : {cells others : List ℕ} {cell n m : ℕ} → cells ≡ cell ∷ others → n ≡ suc m → drop m others ≡ drop n cells
after-cell {m} e w = rw w (sym (ap (drop (suc m)) e))

-- The first of some terms, and the others.
pub record Split (words cells : List ℕ) (ts : Terms) : Type 0 where
  pub first : Term
  pub others : Terms
  pub same : ts ≡ cons first others
  pub here : TermAt words cells first
  pub after : TermsAt words (drop (size first) cells) others

pub split : (words cells : List ℕ) (ts : Terms) → TermsAt words cells ts → (ts ≡ nil → ⊥) → Split words cells ts
split words cells nil a h = absurd (h refl)
split words cells (cons t ts) a h = record {
  first = t;
  others = ts;
  same = refl;
  here = first-term words cells t ts a;
  after = other-terms-at words cells t ts a;
}

pub size-positive : (t : Term) → 1 ≤ size t
size-positive (var v) = omega arith
size-positive (app f ts) = omega arith

pub no-terms : (ts : Terms) → sizes ts ≡ 0 → ts ≡ nil
no-terms nil e = refl
no-terms (cons t ts) e = absurd (omega (arith, size-positive t))
