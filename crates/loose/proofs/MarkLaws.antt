-- The marks of one walk over a row: what they say of the cells passed, and that none waits at the end exactly if the row is tight.
use Prim.Native.Nat.{ℕ, zero, suc, ◌+◌, ◌≤◌, ◌<◌, max}
use mathlib.Core.Path.{◌≡◌, refl, ap, sym, ◌∙◌}
use mathlib.Core.Bool.{Bool, true, false, ◌&&◌, ◌||◌, false≢true}
use mathlib.Core.List.{List, [], ◌∷◌}
use native.Mathlib.Decide.{ℕ_discrete}
use native.Mathlib.Omega.{arith}
use native.Mathlib.Numerals.{add-one}
use lib.ListN.{length, get_or, set, drop, length-set, drop_of_length-le}
use lib.Seq.{drop-cons, get_or-set_same, get_or-set_other}
use lib.Dec.{leb, eqb}
use types.Run.{miss}
use borrow.Author.Tests.{eq-eqb, ne_eqb, le-leb, lt-leb, leb-true}
use Rattle.rules.specs.Syntax.{Symbol}
use Rattle.rules.specs.Cells.{Cell, variable, function, positive, negative, invalid, read_cell}
use Rattle.rules.specs.Goals.{member}
use Rattle.rules.specs.Loose.{among}
use Rattle.rules.proofs.FlatLaws.{standing_at, standing}
use Rattle.deck.specs.declared.kinds.Kind.{Kind}
use Rattle.deck.specs.declared.kinds.Kind.TheVariants.{Variable, Function, Positive, Negative, Invalid}
use Rattle.deck.specs.Kinds.{kind_of}
use Rattle.deck.proofs.BoolLaws.{eqb_same}
use Rattle.deck.proofs.KindLaws.{Others}
use Rattle.loose.specs.Marks.{row_tight, inside_after, mark_after, waiting, Below}

or-true : (b : Bool) → b || true ≡ true
or-true true = refl
or-true false = refl

or-false : (b : Bool) → b || false ≡ b
or-false true = refl
or-false false = refl

and-false : (b : Bool) → b && false ≡ false
and-false true = refl
and-false false = refl

-- AMONG
pub among-all : (xs ys : List ℕ) → ((x : ℕ) → member x xs ≡ true → member x ys ≡ true) → among xs ys ≡ true
unfolding among member
among-all [] ys h = refl
among-all (x ∷ xs) ys h =
    let one : member x ys ≡ true = h x (rw (eq-eqb x x refl)) in
    rw one (among-all xs ys (λ z e. h z (rw e (or-true (eqb z x)))))

pub among-not : (x : ℕ) (xs ys : List ℕ) → member x xs ≡ true → member x ys ≡ false → among xs ys ≡ false
unfolding among member
among-not x [] ys e n = absurd (false≢true e)
among-not x (z ∷ xs) ys e n = go (ℕ_discrete x z) (λ l. among-not x xs ys l n)
  where
    go : Dec (x ≡ z) → (member x xs ≡ true → among xs ys ≡ false) → member z ys && among xs ys ≡ false
    go (yes q) f = rw (← q, n)
    go (no q) f =
        let later : member x xs ≡ true = rw (ne_eqb x z q) at e in
        rw (f later) (and-false (member z ys))

-- HOW MANY VARIABLES WAIT
unfoldable pub waiting_in : ℕ → List ℕ → ℕ
waiting_in stamp [] = 0
waiting_in stamp (m ∷ ms) = waiting stamp m + waiting_in stamp ms

pub waiting-is : (stamp m : ℕ) → m ≡ stamp → waiting stamp m ≡ 1
unfolding waiting
waiting-is stamp m e = rw (eq-eqb m stamp e, waiting)

pub waiting-not : (stamp m : ℕ) → (m ≡ stamp → ⊥) → waiting stamp m ≡ 0
unfolding waiting
waiting-not stamp m n = rw (ne_eqb m stamp n, waiting)

pub waiting_few : (stamp m : ℕ) → waiting stamp m ≤ 1
waiting_few stamp m = go (ℕ_discrete m stamp)
  where
    go : Dec (m ≡ stamp) → waiting stamp m ≤ 1
    go (yes e) = omega (arith, waiting-is stamp m e)
    go (no n) = omega (arith, waiting-not stamp m n)

module _ (stamp : ℕ) where
  pub few-wait : (ms : List ℕ) → waiting_in stamp ms ≤ length ms
  unfolding waiting_in
  few-wait [] = omega arith
  few-wait (m ∷ ms) = omega (arith, few-wait ms, waiting_few stamp m)

  pub waiting-set : (ms : List ℕ) (v m : ℕ) → v < length ms → waiting_in stamp (set ms v m) + waiting stamp (get_or ms v 0) ≡ waiting_in stamp ms + waiting stamp m
  unfolding waiting_in
  waiting-set [] v m h = absurd (omega arith)
  waiting-set (x ∷ ms) zero m h = omega arith
  waiting-set (x ∷ ms) (suc v) m h = omega (arith, waiting-set ms v m (omega arith))

  pub one-waits : (ms : List ℕ) (v : ℕ) → v < length ms → get_or ms v 0 ≡ stamp → 1 ≤ waiting_in stamp ms
  unfolding waiting_in
  one-waits [] v h e = absurd (omega arith)
  one-waits (x ∷ ms) zero h e = omega (arith, waiting-is stamp x e)
  one-waits (x ∷ ms) (suc v) h e = omega (arith, one-waits ms v (omega arith) e)

  pub some-wait : (ms : List ℕ) → 1 ≤ waiting_in stamp ms → (v : ℕ) × (get_or ms v 0 ≡ stamp)
  unfolding waiting_in
  some-wait [] h = absurd (omega arith)
  some-wait (x ∷ ms) h = go (ℕ_discrete x stamp) (λ l. some-wait ms l)
    where
      go : Dec (x ≡ stamp) → (1 ≤ waiting_in stamp ms → (v : ℕ) × (get_or ms v 0 ≡ stamp)) → (v : ℕ) × (get_or (x ∷ ms) v 0 ≡ stamp)
      go (yes e) f = (0, e)
      go (no n) f = let r = f (omega (arith, waiting-not stamp x n)) in (suc r.0, r.1)

  pub none-waits : (ms : List ℕ) → ((v : ℕ) → get_or ms v 0 < stamp) → waiting_in stamp ms ≡ 0
  unfolding waiting_in
  none-waits [] h = refl
  none-waits (x ∷ ms) h = let l : x < stamp = h 0 in omega (arith, waiting-not stamp x (λ e. omega (arith, l)), none-waits ms (λ v. h (suc v)))

marked-inside : (ms : List ℕ) (v : ℕ) → 1 ≤ get_or ms v 0 → v < length ms
marked-inside [] v h = absurd (omega arith)
marked-inside (m ∷ ms) zero h = omega arith
marked-inside (m ∷ ms) (suc v) h = omega (arith, marked-inside ms v h)

-- ONE CELL
abbrev pub kind_at : List Symbol → List ℕ → ℕ → Kind
kind_at S cells at = kind_of (read_cell S (get_or cells at 0))

is-variable : (c : Cell) (v : ℕ) → kind_of c ≡ Variable v → c ≡ variable v
is-variable (variable u) v e = let z : u ≡ v = cc in ap variable z
is-variable (function f k) v e = absurd (let z : ◌≡◌ {A = ℕ} 0 1 = cc in omega arith)
is-variable (positive p k) v e = absurd (let z : ◌≡◌ {A = ℕ} 0 1 = cc in omega arith)
is-variable (negative p k) v e = absurd (let z : ◌≡◌ {A = ℕ} 0 1 = cc in omega arith)
is-variable invalid v e = absurd (let z : ◌≡◌ {A = ℕ} 0 1 = cc in omega arith)

pub inside-kept : (k : Kind) (inside : Bool) → Others (0 ∷ 1 ∷ 4 ∷ []) k → inside ≡ inside_after k inside
inside-kept (Variable v) inside h = refl
inside-kept (Function k) inside h = refl
inside-kept (Positive k) inside h = absurd (miss (0 ∷ 1 ∷ 4 ∷ []) 2 tt h)
inside-kept (Negative k) inside h = absurd (miss (0 ∷ 1 ∷ 4 ∷ []) 3 tt h)
inside-kept Invalid inside h = refl

-- A cell that is no variable's.
other-all : (c : Cell) (go : Bool → List ℕ) → Others (1 ∷ 2 ∷ 3 ∷ 4 ∷ []) (kind_of c) → standing_at true c true go ≡ go true
unfolding standing_at
other-all (variable v) go h = absurd (miss (1 ∷ 2 ∷ 3 ∷ 4 ∷ []) 0 tt h)
other-all (function f k) go h = refl
other-all (positive p k) go h = refl
other-all (negative p k) go h = refl
other-all invalid go h = refl

other-positives : (c : Cell) (inside : Bool) (go : Bool → List ℕ) → Others (1 ∷ 2 ∷ 3 ∷ 4 ∷ []) (kind_of c) → standing_at false c inside go ≡ go (inside_after (kind_of c) inside)
unfolding standing_at
other-positives (variable v) inside go h = absurd (miss (1 ∷ 2 ∷ 3 ∷ 4 ∷ []) 0 tt h)
other-positives (function f k) inside go h = refl
other-positives (positive p k) inside go h = refl
other-positives (negative p k) inside go h = refl
other-positives invalid inside go h = refl

module _ (S : List Symbol) (cells : List ℕ) (at : ℕ) where
  standing-end : (keep inside : Bool) → length cells ≤ at → standing S keep inside (drop at cells) ≡ []
  unfolding standing
  standing-end keep inside h = rw (drop_of_length-le cells h)

  module _ (h : at < length cells) where
    cell : (keep inside : Bool) → standing S keep inside (drop at cells) ≡ standing_at keep (read_cell S (get_or cells at 0)) inside (λ b. standing S keep b (drop (at + 1) cells))
    unfolding standing
    cell keep inside = rw (add-one at, drop-cons cells at 0 h)

    variable-stands : (keep : Bool) (v : ℕ) → kind_at S cells at ≡ Variable v → standing S keep true (drop at cells) ≡ v ∷ standing S keep true (drop (at + 1) cells)
    unfolding standing_at
    variable-stands keep v e = cell keep true ∙ rw (is-variable (read_cell S (get_or cells at 0)) v e)

    variable-passed : (v : ℕ) → kind_at S cells at ≡ Variable v → standing S false false (drop at cells) ≡ standing S false false (drop (at + 1) cells)
    unfolding standing_at
    variable-passed v e = cell false false ∙ rw (is-variable (read_cell S (get_or cells at 0)) v e)

-- MARKS
-- A mark that is set at a variable that stands at the front, as a test of the mark has it.
module _ (marks : List ℕ) (v m : ℕ) (h : v < length marks) (test : ℕ → Bool) where
  pub test-front : (rest : List ℕ) → test m ≡ true → (x : ℕ) → test (get_or marks x 0) || member x (v ∷ rest) ≡ test (get_or (set marks v m) x 0) || member x rest
  unfolding member
  test-front rest t x = go (ℕ_discrete x v)
    where
      go : Dec (x ≡ v) → test (get_or marks x 0) || (eqb x v || member x rest) ≡ test (get_or (set marks v m) x 0) || member x rest
      go (yes q) = rw (q, get_or-set_same marks v m 0 h, eq-eqb v v refl, t) (or-true (test (get_or marks v 0)))
      go (no n) = rw (get_or-set_other marks v x m 0 n, ne_eqb x v n)

  pub test-kept : test m ≡ test (get_or marks v 0) → (x : ℕ) → test (get_or marks x 0) ≡ test (get_or (set marks v m) x 0)
  test-kept t x = go (ℕ_discrete x v)
    where
      go : Dec (x ≡ v) → test (get_or marks x 0) ≡ test (get_or (set marks v m) x 0)
      go (yes q) = rw (q, get_or-set_same marks v m 0 h) (sym t)
      go (no n) = rw (get_or-set_other marks v x m 0 n)

after-bounds : (stamp m : ℕ) (inside : Bool) → m < stamp + 2 → (stamp ≤ mark_after stamp inside m) × (mark_after stamp inside m < stamp + 2)
after-bounds stamp m true h = (omega arith, omega arith)
after-bounds stamp m false h = (omega arith, omega arith)

-- A mark that is raised to `stamp` says nothing of positive literals.
raised-same : (stamp m : ℕ) → eqb (max stamp m) (stamp + 1) ≡ eqb m (stamp + 1)
raised-same stamp m = eqb_same (max stamp m) (stamp + 1) m (stamp + 1) (λ e. omega arith) (λ e. omega arith)

-- A variable's place counts exactly if it stands in a positive literal.
module _ (S : List Symbol) (cells : List ℕ) (at : ℕ) (h : at < length cells) (marks : List ℕ) (stamp v m : ℕ) where
  positive-step :
      (inside : Bool) → kind_at S cells at ≡ Variable v → v < length marks → m ≡ mark_after stamp inside (get_or marks v 0) → (x : ℕ)
      → eqb (get_or marks x 0) (stamp + 1) || member x (standing S false inside (drop at cells))
      ≡ eqb (get_or (set marks v m) x 0) (stamp + 1) || member x (standing S false inside (drop (at + 1) cells))
  positive-step true e l em x =
      rw (variable-stands S cells at h false v e)
      (test-front marks v m l (λ k. eqb k (stamp + 1)) (standing S false true (drop (at + 1) cells)) (eq-eqb m (stamp + 1) em) x)
  positive-step false e l em x =
      rw (variable-passed S cells at h v e)
      (ap (λ b. b || member x (standing S false false (drop (at + 1) cells)))
      (test-kept marks v m l (λ k. eqb k (stamp + 1)) (ap (λ k. eqb k (stamp + 1)) em ∙ raised-same stamp (get_or marks v 0)) x))

set_below : (marks : List ℕ) (v m bound : ℕ) → ((x : ℕ) → get_or marks x 0 < bound) → m < bound → (x : ℕ) → get_or (set marks v m) x 0 < bound
set_below [] v m bound f h x = f x
set_below (k ∷ marks) zero m bound f h zero = h
set_below (k ∷ marks) zero m bound f h (suc x) = f (suc x)
set_below (k ∷ marks) (suc v) m bound f h zero = f 0
set_below (k ∷ marks) (suc v) m bound f h (suc x) = set_below marks v m bound (λ y. f (suc y)) h x

-- THE WALK
-- What the marks say of the cells before `at`: `stamp` or more of their variables, `stamp + 1` of those that stand in positive literals. `count` wait.
pub record Passed (S : List Symbol) (cells marks : List ℕ) (stamp at : ℕ) (inside : Bool) (count : ℕ) : Type 0 where
  pub within : at ≤ length cells
  pub size : length marks ≡ 1024
  pub least : 1 ≤ stamp
  pub below : (v : ℕ) → get_or marks v 0 < stamp + 2
  pub counted : count ≡ waiting_in stamp marks
  pub all : (x : ℕ) → member x (standing S true true cells) ≡ leb stamp (get_or marks x 0) || member x (standing S true true (drop at cells))
  pub positives : (x : ℕ) → member x (standing S false false cells) ≡ eqb (get_or marks x 0) (stamp + 1) || member x (standing S false inside (drop at cells))

pub passed_none : (S : List Symbol) (cells marks : List ℕ) (stamp : ℕ) → Below stamp marks → Passed S cells marks stamp 0 false 0
passed_none S cells marks stamp b =
    record {
      within = omega arith;
      size = b.size;
      least = omega (arith, b.below 0);
      below = λ v. omega (arith, b.below v);
      counted = sym (none-waits stamp marks b.below);
      all = λ x. rw (lt-leb stamp (get_or marks x 0) (b.below x));
      positives = λ x. rw (ne_eqb (get_or marks x 0) (stamp + 1) (λ e. omega (arith, b.below x)));
    }

module _ {S : List Symbol} {cells marks : List ℕ} {stamp at count : ℕ} {inside : Bool} (p : Passed S cells marks stamp at inside count) where
  -- The marks count the variables that wait.
  pub count-few : count ≤ 1024
  count-few = omega (arith, p.counted, p.size, few-wait stamp marks)

  pub passed-end : length cells ≤ at → eqb count 0 ≡ row_tight S cells
  unfolding row_tight member
  passed-end h = go (ℕ_discrete count 0)
    where
      seen : (x : ℕ) → member x (standing S true true cells) ≡ leb stamp (get_or marks x 0)
      seen x = p.all x ∙ rw (standing-end S cells at true true h) (or-false (leb stamp (get_or marks x 0)))

      covered : (x : ℕ) → member x (standing S false false cells) ≡ eqb (get_or marks x 0) (stamp + 1)
      covered x = p.positives x ∙ rw (standing-end S cells at false inside h) (or-false (eqb (get_or marks x 0) (stamp + 1)))

      one : (x : ℕ) → count ≡ 0 → leb stamp (get_or marks x 0) ≡ true → get_or marks x 0 ≡ stamp + 1
      one x z e = raised (ℕ_discrete (get_or marks x 0) stamp)
        where
          raised : Dec (get_or marks x 0 ≡ stamp) → get_or marks x 0 ≡ stamp + 1
          raised (yes q) = absurd (omega (arith, z, p.counted, one-waits stamp marks x (marked-inside marks x (omega (arith, q, p.least))) q))
          raised (no n) = omega (arith, n, leb-true stamp (get_or marks x 0) e, p.below x)

      go : Dec (count ≡ 0) → eqb count 0 ≡ among (standing S true true cells) (standing S false false cells)
      go (yes z) =
          rw (eq-eqb count 0 z)
          (sym (among-all (standing S true true cells) (standing S false false cells) λ x e. covered x ∙ eq-eqb (get_or marks x 0) (stamp + 1) (one x z (sym (seen x) ∙ e))))
      go (no n) =
          let w = some-wait stamp marks (omega (arith, n, p.counted)) in
          let v = w.0 in
          rw (ne_eqb count 0 n)
          (sym (among-not v (standing S true true cells) (standing S false false cells) (seen v ∙ le-leb stamp (get_or marks v 0) (omega (arith, w.1)))
          (covered v ∙ ne_eqb (get_or marks v 0) (stamp + 1) (λ e. omega (arith, e, w.1)))))

  pub passed-below : Below (stamp + 2) marks
  passed-below = record { size = p.size; below = p.below }

  module _ (h : at < length cells) where
    pub passed-other : Others (1 ∷ 2 ∷ 3 ∷ 4 ∷ []) (kind_at S cells at) → Passed S cells marks stamp (at + 1) (inside_after (kind_at S cells at) inside) count
    passed-other o =
        let c = read_cell S (get_or cells at 0) in
        record {
          within = omega arith;
          size = p.size;
          least = p.least;
          below = p.below;
          counted = p.counted;
          all = λ x. p.all x ∙ ap (λ l. leb stamp (get_or marks x 0) || member x l) (cell S cells at h true true ∙ other-all c _ o);
          positives = λ x. p.positives x ∙ ap (λ l. eqb (get_or marks x 0) (stamp + 1) || member x l) (cell S cells at h false inside ∙ other-positives c inside _ o);
        }

    -- A variable: its mark is set anew.
    pub passed-variable :
        (v m count' : ℕ) → kind_at S cells at ≡ Variable v → v ≤ 1023 → m ≡ mark_after stamp inside (get_or marks v 0) → count' + waiting stamp (get_or marks v 0) ≡ count + waiting stamp m
        → Passed S cells (set marks v m) stamp (at + 1) inside count'
    passed-variable v m count' e small em ec =
        let l : v < length marks = omega (arith, p.size) in
        let b = after-bounds stamp (get_or marks v 0) inside (p.below v) in
        record {
          within = omega arith;
          size = length-set marks v m ∙ p.size;
          least = p.least;
          below = set_below marks v m (stamp + 2) p.below (omega (arith, em, b.1));
          counted = omega (arith, ec, p.counted, waiting-set stamp marks v m l);
          all = λ x. p.all x ∙ rw (variable-stands S cells at h true v e)
              (test-front marks v m l (λ k. leb stamp k) (standing S true true (drop (at + 1) cells)) (le-leb stamp m (omega (arith, em, b.0))) x);
          positives = λ x. p.positives x ∙ positive-step S cells at h marks stamp v m inside e l em x;
        }
