-- What a cell is taken for, and what literals come to, cell by cell and for a clause. Assumes nothing.
use Prim.Native.Nat.{ℕ, suc, ◌+◌, ◌-◌, ◌≤◌, ◌<◌, max}
use mathlib.Core.Path.{◌≡◌, refl, sym, ◌∙◌, ap}
use mathlib.Core.Option.{none}
use mathlib.Core.List.{List, [], ◌∷◌}
use native.Mathlib.Omega.{arith}
use native.Mathlib.Decide.{dec_lt}
use native.Mathlib.Numerals.{add-one}
use lib.ListN.{length, get_or, drop, drop_of_length-le}
use lib.Seq.{drop-cons}
use Rattle.std.proofs.Common.{Some, None}
use Rattle.rules.specs.Terms.{nil}
use Rattle.rules.specs.Syntax.{Symbol, Literal, pos, neg, Clause, map_literals}
use Rattle.rules.specs.Cells.{Cell, variable, function, positive, negative, invalid, negated_cell, read_cell, write_literals}
use Rattle.rules.specs.Decks.{write_clause}
use Rattle.rules.specs.WellFormed.{WfClause}
use Rattle.rules.specs.Ranks.{greatest}
use Rattle.rules.proofs.CellLaws.{written_as, cell-negated, positive-below}
use Rattle.rules.proofs.FlatLaws.{beginning, beginning_at, terms-begin, literals-begin}
use Rattle.deck.specs.declared.kinds.Kind.TheVariants.{Positive, Negative}
use Rattle.deck.specs.Kinds.{symbols_of, kind_of}
use Rattle.deck.proofs.SymbolLaws.{symbol-past}
use Rattle.ranks.specs.declared.literals.Bare.{Bare}
use Rattle.ranks.specs.Literals.{Begins, value}
use Rattle.ranks.specs.Raising.{number}

-- CELLS
kind-positive : (cell : Cell) (k : ℕ) → kind_of cell ≡ Positive k → (p : ℕ) × (cell ≡ positive p k)
kind-positive (variable v) k e = absurd (let z : ◌≡◌ {A = ℕ} 0 1 = cc in omega arith)
kind-positive (function f j) k e = absurd (let z : ◌≡◌ {A = ℕ} 0 1 = cc in omega arith)
kind-positive (positive p j) k e = (p, cc)
kind-positive (negative p j) k e = absurd (let z : ◌≡◌ {A = ℕ} 0 1 = cc in omega arith)
kind-positive invalid k e = absurd (let z : ◌≡◌ {A = ℕ} 0 1 = cc in omega arith)

kind-negative : (cell : Cell) (k : ℕ) → kind_of cell ≡ Negative k → (p : ℕ) × (cell ≡ negative p k)
kind-negative (variable v) k e = absurd (let z : ◌≡◌ {A = ℕ} 0 1 = cc in omega arith)
kind-negative (function f j) k e = absurd (let z : ◌≡◌ {A = ℕ} 0 1 = cc in omega arith)
kind-negative (positive p j) k e = absurd (let z : ◌≡◌ {A = ℕ} 0 1 = cc in omega arith)
kind-negative (negative p j) k e = (p, cc)
kind-negative invalid k e = absurd (let z : ◌≡◌ {A = ℕ} 0 1 = cc in omega arith)

pub negative-below : (ws : List ℕ) (c p k : ℕ) → read_cell (symbols_of ws) c ≡ negative p k → p < length ws
unfolding negated_cell
negative-below ws c p k e = elim (dec_lt p (length ws)) [
  | yes h ↦ h
  | no n ↦ (
      let w = written_as (symbols_of ws) c (negative p k) e in
      let q : c - 16384 ≡ p = omega (arith, w.0) in
      let r : negated_cell p none ≡ negative p k = sym (cell-negated (symbols_of ws) c (omega (arith, w.0)) w.1 ∙ rw q (ap (negated_cell p) (symbol-past ws p (omega arith)))) ∙ e in
      absurd (let z : ◌≡◌ {A = ℕ} 0 1 = cc in omega arith))
]

pub symbols-length : (ws : List ℕ) → length (symbols_of ws) ≡ length ws
unfolding symbols_of
symbols-length [] = refl
symbols-length (w ∷ ws) = ap suc (symbols-length ws)

symbols-long : (ws : List ℕ) (c k : ℕ) → read_cell (symbols_of ws) c ≡ positive c k → c < length ws
unfolding symbols_of
symbols-long ws c k e = omega (arith, positive-below (symbols_of ws) c k e, symbols-length ws)

pub record PositiveCell (ws : List ℕ) (c : ℕ) : Type 0 where
  pub arity : ℕ
  pub reads : read_cell (symbols_of ws) c ≡ positive c arity
  pub below : c < length ws

pub positive-cell : (ws : List ℕ) (c k : ℕ) → kind_of (read_cell (symbols_of ws) c) ≡ Positive k → PositiveCell ws c
positive-cell ws c k e =
    let r = kind-positive (read_cell (symbols_of ws) c) k e in
    let w : c ≡ r.0 = (written_as (symbols_of ws) c (positive r.0 k) r.1).0 in
    let z : read_cell (symbols_of ws) c ≡ positive c k = r.1 ∙ ap (λ p. positive p k) (sym w) in
    record { arity = k; reads = z; below = symbols-long ws c k z }

pub record NegativeCell (ws : List ℕ) (c : ℕ) : Type 0 where
  pub arity : ℕ
  pub reads : read_cell (symbols_of ws) c ≡ negative (c - 16384) arity
  pub high : 16384 ≤ c
  pub below : c - 16384 < length ws

pub negative-cell : (ws : List ℕ) (c k : ℕ) → kind_of (read_cell (symbols_of ws) c) ≡ Negative k → NegativeCell ws c
negative-cell ws c k e =
    let r = kind-negative (read_cell (symbols_of ws) c) k e in
    let w = written_as (symbols_of ws) c (negative r.0 k) r.1 in
    let q : r.0 ≡ c - 16384 = omega (arith, w.0) in
    record { arity = k; reads = r.1 ∙ ap (λ p. negative p k) q; high = omega (arith, w.0); below = omega (arith, q, negative-below ws c r.0 k r.1) }

-- WHAT BEGINS in a cell.
module _ (ws : List ℕ) (few : length ws ≤ 4096) (c k : ℕ) where
  pub begins-positive : kind_of (read_cell (symbols_of ws) c) ≡ Positive k → Begins (read_cell (symbols_of ws) c) (Some (record { predicate = c; nots = 0 }))
  begins-positive e =
      let h = positive-cell ws c k e in
      rw h.reads record { predicate = refl; nots = refl; small = omega (arith, h.below) }

  pub negative-high : kind_of (read_cell (symbols_of ws) c) ≡ Negative k → 16384 ≤ c
  negative-high e = (negative-cell ws c k e).high

  pub begins-negative : kind_of (read_cell (symbols_of ws) c) ≡ Negative k → Begins (read_cell (symbols_of ws) c) (Some (record { predicate = c - 16384; nots = 1 }))
  begins-negative e =
      let h = negative-cell ws c k e in
      rw h.reads record { predicate = refl; nots = refl; small = omega (arith, h.below) }

pub begins_none : (cell : Cell) → ((k : ℕ) → kind_of cell ≡ Positive k → ⊥) → ((k : ℕ) → kind_of cell ≡ Negative k → ⊥) → Begins cell None
begins_none (variable v) h g = refl
begins_none (function f k) h g = refl
begins_none (positive p k) h g = h k refl
begins_none (negative p k) h g = g k refl
begins_none invalid h g = refl

-- A literal's predicate is small, and it is negated once at most.
pub begins-small : (cell : Cell) (l : Bare) → Begins cell (Some l) → (l.predicate < 4096) × (l.nots ≤ 1)
begins-small (variable v) l b = absurd (let z : ◌≡◌ {A = ℕ} 0 1 = cc in omega arith)
begins-small (function f k) l b = absurd (let z : ◌≡◌ {A = ℕ} 0 1 = cc in omega arith)
begins-small (positive p k) l b = (omega (arith, b.predicate, b.small), omega (arith, b.nots))
begins-small (negative p k) l b = (omega (arith, b.predicate, b.small), omega (arith, b.nots))
begins-small invalid l b = absurd (let z : ◌≡◌ {A = ℕ} 0 1 = cc in omega arith)

-- What it comes to.
pub value-some : (words : List ℕ) (cell : Cell) (l : Bare) → Begins cell (Some l) → l.nots + get_or words l.predicate 0 ≡ value words cell
value-some words (variable v) l b = absurd (let z : ◌≡◌ {A = ℕ} 0 1 = cc in omega arith)
value-some words (function f k) l b = absurd (let z : ◌≡◌ {A = ℕ} 0 1 = cc in omega arith)
value-some words (positive p k) l b = omega (arith, b.nots, ap (λ i. get_or words i 0) b.predicate)
value-some words (negative p k) l b = omega (arith, b.nots, ap (λ i. get_or words i 0) b.predicate)
value-some words invalid l b = absurd (let z : ◌≡◌ {A = ℕ} 0 1 = cc in omega arith)

pub value-none : (words : List ℕ) (cell : Cell) → Begins cell None → 0 ≡ value words cell
value-none words (variable v) b = refl
value-none words (function f k) b = refl
value-none words (positive p k) b = absurd b
value-none words (negative p k) b = absurd b
value-none words invalid b = refl

value-greatest : (words : List ℕ) (cell : Cell) → greatest (number words) (beginning_at cell []) ≡ value words cell
unfolding beginning_at
value-greatest words (variable v) = refl
value-greatest words (function f k) = refl
value-greatest words (positive p k) = omega arith
value-greatest words (negative p k) = omega arith
value-greatest words invalid = refl

module _ (n : Literal → ℕ) where
  cell-adds : (cell : Cell) (ls : List Literal) → greatest n (beginning_at cell ls) ≡ max (greatest n (beginning_at cell [])) (greatest n ls)
  unfolding beginning_at
  cell-adds (variable v) ls = omega arith
  cell-adds (function f k) ls = omega arith
  cell-adds (positive p k) ls = omega arith
  cell-adds (negative p k) ls = omega arith
  cell-adds invalid ls = omega arith

  -- One more cell, and none left.
  pub cell-more : (S : List Symbol) (cells : List ℕ) (i : ℕ) → i < length cells
      → greatest n (beginning S (drop i cells)) ≡ max (greatest n (beginning_at (read_cell S (get_or cells i 0)) [])) (greatest n (beginning S (drop (i + 1) cells)))
  unfolding beginning
  cell-more S cells i h =
      let e : drop i cells ≡ get_or cells i 0 ∷ drop (i + 1) cells = rw (add-one, drop-cons cells i 0) in
      ap (λ r. greatest n (beginning S r)) e ∙ cell-adds (read_cell S (get_or cells i 0)) (beginning S (drop (i + 1) cells))

  pub cells-end : (S : List Symbol) (cells : List ℕ) (i : ℕ) → length cells ≤ i → greatest n (beginning S (drop i cells)) ≡ 0
  unfolding beginning
  cells-end S cells i h = ap (λ r. greatest n (beginning S r)) (drop_of_length-le cells h)

-- The greatest so far, one more cell, and none left.
pub best-more : (words : List ℕ) (S : List Symbol) (cells : List ℕ) (i best all : ℕ) → i < length cells → max best (greatest (number words) (beginning S (drop i cells))) ≡ all
    → max (max best (value words (read_cell S (get_or cells i 0)))) (greatest (number words) (beginning S (drop (i + 1) cells))) ≡ all
best-more words S cells i best all h e = omega (arith, cell-more (number words) S cells i h, value-greatest words (read_cell S (get_or cells i 0)), e)

-- A CLAUSE
-- The terms do not matter.
pub number-map : (ws : List ℕ) (ls : List Literal) → greatest (number ws) (map_literals (λ ts. nil) ls) ≡ greatest (number ws) ls
number-map ws [] = refl
number-map ws (pos p ts ∷ ls) = ap (max (number ws (pos p ts))) (number-map ws ls)
number-map ws (neg p ts ∷ ls) = ap (max (number ws (neg p ts))) (number-map ws ls)

pub body-literals : (S : List Symbol) (c : Clause) (cells : List ℕ) → WfClause S c → cells ≡ write_clause c → beginning S (drop 1 cells) ≡ map_literals (λ ts. nil) c.body
unfolding write_clause
body-literals S c cells w e =
    rw e (terms-begin S c.arguments (write_literals c.body) w.literals.0.1 ∙ literals-begin S c.body w.literals.1)
