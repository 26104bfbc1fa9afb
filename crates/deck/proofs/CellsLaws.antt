-- The walk over cells: one cell of the scan, and the scan place by place. Assumes nothing.
use Prim.Native.Nat.{ℕ, zero, suc, ◌+◌, ◌-◌, ◌≤◌, ◌<◌, max}
use mathlib.Core.Path.{◌≡◌, refl, ap, sym, ◌∙◌}
use mathlib.Core.Bool.{Bool, true, false, and-false}
use mathlib.Core.Logic.{◌⊎◌, inl, inr}
use mathlib.Core.List.{List, [], ◌∷◌}
use native.Mathlib.Omega.{arith}
use native.Mathlib.Numerals.{add-one}
use lib.ListN.{length, get_or, drop, length-drop, drop_of_length-le}
use lib.Seq.{drop-cons}
use borrow.Author.Tests.{le-leb, lt-leb}
use Rattle.rules.specs.Syntax.{Symbol}
use Rattle.rules.specs.Cells.{read_cell}
use Rattle.deck.specs.declared.kinds.Kind.{Kind}
use Rattle.deck.specs.declared.kinds.Kind.TheVariants.{Variable, Function, Positive, Negative, Invalid}
use Rattle.deck.specs.Kinds.{kind_of}
use Rattle.deck.specs.Scan.{scan_cell, scan, Stepped}
use Rattle.std.specs.Prelude.{Option, Some, None}

abbrev pub kind_at : List Symbol → List ℕ → ℕ → Kind
kind_at S cells at = kind_of (read_cell S (get_or cells at 0))

-- ONE CELL
on-variable : (v todo next : ℕ) (go : ℕ → ℕ → Bool) → (todo ≡ 0 → ⊥) → v ≤ next → scan_cell (Variable v) todo next go ≡ go (todo - 1) (max next (suc v))
unfolding scan_cell
on-variable v zero next go h l = absurd (h refl)
on-variable v (suc t) next go h l = let z : suc t - 1 ≡ t = omega arith in rw (z, le-leb v next l)

on-function : (k todo next : ℕ) (go : ℕ → ℕ → Bool) → (todo ≡ 0 → ⊥) → scan_cell (Function k) todo next go ≡ go (k + (todo - 1)) next
unfolding scan_cell
on-function k zero next go h = absurd (h refl)
on-function k (suc t) next go h = let z : suc t - 1 ≡ t = omega arith in rw z

module _ (room todo next : ℕ) (kind : Kind) where
  pub variable-none : (v : ℕ) → kind ≡ Variable v → todo ≡ 0 → Stepped room kind todo next None
  unfolding scan_cell
  variable-none v e z go h = rw (e, z)

  pub variable-late : (v : ℕ) → kind ≡ Variable v → (todo ≡ 0 → ⊥) → next < v → Stepped room kind todo next None
  unfolding scan_cell
  variable-late v e z l go h = rw e (late todo z)
    where
      late : (t : ℕ) → (t ≡ 0 → ⊥) → scan_cell (Variable v) t next go ≡ false
      late zero z = absurd (z refl)
      late (suc t) z = rw (lt-leb v next l)

  pub variable-on : (v more : ℕ) → kind ≡ Variable v → (todo ≡ 0 → ⊥) → v ≤ next → todo ≤ room + 1 → more ≡ max next (suc v) → Stepped room kind todo next (Some (todo - 1, more))
  variable-on v more e z l f m = (omega arith, omega arith, λ go. rw e (on-variable v todo next go z l ∙ ap (go (todo - 1)) (sym m)))

  pub function-none : (k : ℕ) → kind ≡ Function k → todo ≡ 0 → Stepped room kind todo next None
  unfolding scan_cell
  function-none k e z go h = rw (e, z)

  pub function-many : (k : ℕ) → kind ≡ Function k → (todo ≡ 0 → ⊥) → todo ≤ room + 1 → room - (todo - 1) < k → Stepped room kind todo next None
  function-many k e z f l go h = rw e (on-function k todo next go z ∙ h (k + (todo - 1)) next (omega arith))

  pub function-on : (k : ℕ) → kind ≡ Function k → (todo ≡ 0 → ⊥) → todo ≤ room + 1 → k ≤ room - (todo - 1) → Stepped room kind todo next (Some ((k + (todo - 1)), next))
  function-on k e z f l = (omega arith, omega arith, λ go. rw e (on-function k todo next go z))

  pub no_cell : kind ≡ Invalid → Stepped room kind todo next None
  unfolding scan_cell
  no_cell e go h = rw e

  negated : (k t n : ℕ) (go : ℕ → ℕ → Bool) → scan_cell (Negative k) t n go ≡ scan_cell (Positive k) t n go
  unfolding scan_cell
  negated k zero n go = refl
  negated k (suc t) n go = refl

  -- A negated predicate is as one that is not.
  pub as-predicate : (k : ℕ) → (kind ≡ Positive k) ⊎ (kind ≡ Negative k) → (r : Option (ℕ × ℕ)) → Stepped room (Positive k) todo next r → Stepped room kind todo next r
  as-predicate k (inl e) (Some p) w = (w.0, w.1, λ go. rw e (w.2 go))
  as-predicate k (inl e) None w = λ go h. rw e (w go h)
  as-predicate k (inr e) (Some p) w = (w.0, w.1, λ go. rw e (negated k todo next go ∙ w.2 go))
  as-predicate k (inr e) None w = λ go h. rw e (negated k todo next go ∙ w go h)

module _ (k room todo next : ℕ) where
  pub predicate-within : 0 < todo → Stepped room (Positive k) todo next None
  unfolding scan_cell
  predicate-within h go f = go_on todo h
    where
      go_on : (t : ℕ) → 0 < t → scan_cell (Positive k) t next go ≡ false
      go_on zero h = absurd (omega arith)
      go_on (suc t) h = refl

  pub predicate-many : todo ≡ 0 → room < k → Stepped room (Positive k) todo next None
  unfolding scan_cell
  predicate-many z l go f = rw z (f k next l)

  pub predicate-on : todo ≡ 0 → k ≤ room → Stepped room (Positive k) todo next (Some (k, next))
  unfolding scan_cell
  predicate-on z l = (l, omega arith, λ go. rw z)

-- THE SCAN. Cells hold no more terms than there are cells.
few-cell : (k : Kind) (todo next room : ℕ) (go : ℕ → ℕ → Bool) → room + 1 < todo → ((t n : ℕ) → room < t → go t n ≡ false) → scan_cell k todo next go ≡ false
unfolding scan_cell
few-cell k zero next room go h f = absurd (omega arith)
few-cell (Variable v) (suc t) next room go h f = rw (f t (max next (suc v)) (omega arith), and-false)
few-cell (Function k) (suc t) next room go h f = f (k + t) next (omega arith)
few-cell (Positive k) (suc t) next room go h f = refl
few-cell (Negative k) (suc t) next room go h f = refl
few-cell Invalid (suc t) next room go h f = refl

pub row-few : (S : List Symbol) (cs : List ℕ) (todo next : ℕ) → length cs < todo → scan S cs todo next ≡ false
unfolding scan
row-few S [] zero next h = absurd (omega arith)
row-few S [] (suc t) next h = refl
row-few S (c ∷ cs) todo next h = few-cell (kind_of (read_cell S c)) todo next (length cs) (scan S cs) (omega arith) (λ t n l. row-few S cs t n l)

module _ (S : List Symbol) (cells : List ℕ) (at todo next : ℕ) (h : at < length cells) where
  scan-cell : scan S (drop at cells) todo next ≡ scan_cell (kind_at S cells at) todo next (scan S (drop (at + 1) cells))
  unfolding scan
  scan-cell = rw (add-one at, drop-cons cells at 0 h)

  pub row_next : (kind : Kind) (room t n : ℕ) → kind ≡ kind_at S cells at → Stepped room kind todo next (Some (t, n)) → scan S (drop at cells) todo next ≡ scan S (drop (at + 1) cells) t n
  row_next kind room t n e w = scan-cell ∙ rw (← e) (w.2 (scan S (drop (at + 1) cells)))

  pub row-wrong : (kind : Kind) → kind ≡ kind_at S cells at → Stepped (length cells - at - 1) kind todo next None → scan S (drop at cells) todo next ≡ false
  row-wrong kind e w = scan-cell ∙ rw (← e) (w (scan S (drop (at + 1) cells)) (λ t n l. row-few S (drop (at + 1) cells) t n (omega (arith, length-drop (at + 1) cells))))

scan-end : (S : List Symbol) (cells : List ℕ) (at next : ℕ) → length cells ≤ at → scan S (drop at cells) 0 next ≡ true
unfolding scan
scan-end S cells at next h = rw (drop_of_length-le cells h)

pub row-end : (S : List Symbol) (cells : List ℕ) (at todo next : ℕ) → length cells ≤ at → todo ≤ length cells - at → scan S (drop at cells) todo next ≡ true
row-end S cells at todo next h l = let z : todo ≡ 0 = omega arith in rw z (scan-end S cells at next h)
