-- Marks of what a predicate leads to, raised with those that wait for their clauses to be followed. Assumes nothing.
use Prim.Native.Nat.{ℕ, zero, suc, ◌+◌, ◌*◌, ◌≤◌, ◌<◌}
use mathlib.Core.Path.{◌≡◌, refl, sym, ◌∙◌, ap, subst}
use mathlib.Core.Logic.{◌⊎◌, inl, inr}
use mathlib.Core.Bool.{Bool, true, false}
use borrow.Author.Tests.{eqb-true, eqb-false}
use lib.Dec.{eqb}
use mathlib.Core.List.Memᴰ
use mathlib.Core.List.{List, [], ◌∷◌, ◌++◌, Memᴰ}
use native.Mathlib.Omega.{arith}
use native.Mathlib.Decide.{ℕ_discrete, dec_lt}
use native.Mathlib.Numerals.{add-one}
use lib.ListN.{length, get_or, set, drop, length-set, length-append, drop_of_length-le}
use lib.Seq.{drop-cons}
use Rattle.std.proofs.Common.{Some, None}
use Rattle.std.specs.Prelude.{◌↔◌, sum}
use Rattle.std.proofs.lemmas.List.Sums.{sum_by-cons, sum_by-set}
use Rattle.rules.specs.Terms.{nil}
use Rattle.rules.specs.Syntax.{Symbol, Literal, pos, neg, Clause, map_literals, predicate_of}
use Rattle.rules.specs.Cells.{Cell, variable, function, positive, negative, invalid, read_cell}
use Rattle.rules.specs.Resolution.{clauses_about, row_of, has_rows, tried_by, tried}
use Rattle.rules.specs.Ranks.{nots, bodies, rests_on, Chain, stays, goes, Circular}
use Rattle.rules.proofs.RankTelling.{lift, lift-above, chain-join, Reached, reached-tell}
use Rattle.rules.proofs.FlatLaws.{beginning, beginning_at}
use Rattle.clauses.specs.Tried.{row_of_symbol}
use Rattle.ranks.specs.declared.literals.Bare.{Bare}
use Rattle.ranks.specs.Literals.{Begins}
use Rattle.ranks.specs.Raising.{at}
use Rattle.ranks.specs.Searching.{Ready, NothingReached, Begun, Raised, lifted, Pushes, none, more, Reaches, Follows, CircleSays}
use Rattle.ranks.proofs.ListLaws.{all-mem, all_append, all-mono, in-more, in-last, of-more, in-first, in-rest}
use Rattle.ranks.proofs.RaiseLaws.{at_same, at_other, set-grows}

-- Literals of another list with the same predicates and "nots".
abbrev pub Same : List Literal → List Literal → Type 0
Same ls ms = (l : Literal) → Memᴰ l ls → (k : Literal) × Memᴰ k ms × (predicate_of k ≡ predicate_of l) × (nots k ≡ nots l)

pub same_in : (ls ms : List Literal) → ((l : Literal) → Memᴰ l ls → Memᴰ l ms) → Same ls ms
same_in ls ms h l m = (l, h l m, refl, refl)

map-from : (ls : List Literal) → Same (map_literals (λ ts. nil) ls) ls
map-from [] l m = absurd (Memᴰ.not-nil m)
map-from (pos p ts ∷ ls) l (Memᴰ.head e) = (pos p ts, Memᴰ.head refl, ap predicate_of (sym e), ap nots (sym e))
map-from (pos p ts ∷ ls) l (Memᴰ.tail m) = let r = map-from ls l m in (r.0, Memᴰ.tail r.1, r.2, r.3)
map-from (neg p ts ∷ ls) l (Memᴰ.head e) = (neg p ts, Memᴰ.head refl, ap predicate_of (sym e), ap nots (sym e))
map-from (neg p ts ∷ ls) l (Memᴰ.tail m) = let r = map-from ls l m in (r.0, Memᴰ.tail r.1, r.2, r.3)

reaches-map : (mark : ℕ) (marks : List ℕ) (ls : List Literal) → Reaches (map_literals (λ ts. nil) ls) mark marks → Reaches ls mark marks
reaches-map mark marks [] a = tt
reaches-map mark marks (pos p ts ∷ ls) a = (a.0, reaches-map mark marks ls a.1)
reaches-map mark marks (neg p ts ∷ ls) a = (a.0, reaches-map mark marks ls a.1)

pub reaches-grow : (mark : ℕ) (marks more-marks : List ℕ) → ((x : ℕ) → at marks x ≤ at more-marks x) → (ls : List Literal) → Reaches ls mark marks → Reaches ls mark more-marks
reaches-grow mark marks ms g ls a =
    all-mono (λ l. lifted l mark ≤ at marks (predicate_of l)) (λ l. lifted l mark ≤ at ms (predicate_of l)) (λ l h. omega (arith, h, g (predicate_of l))) ls a

-- SUMS of marks.
sum-set : (ms : List ℕ) (p v : ℕ) → p < length ms → sum (set ms p v) + at ms p ≡ sum ms + v
sum-set ms p v h = sum_by-set (λ x. x) ms p v 0 h

pub sum-two : (ms : List ℕ) → ((x : ℕ) → at ms x ≤ 2) → sum ms ≤ 2 * length ms
sum-two [] h = omega arith
sum-two (m ∷ ms) h = omega (arith, sum_by-cons (λ x. x) m ms, h 0, sum-two ms (λ x. h (suc x)))

-- PUSHES, one after another.
module _ (ls : List Literal) (mark : ℕ) (marks₀ waiting₀ : List ℕ) where
  pub pushes-grow : {marks waiting : List ℕ} → Pushes ls mark marks₀ waiting₀ marks waiting → (x : ℕ) → at marks₀ x ≤ at marks x
  pushes-grow none x = omega arith
  pushes-grow (more {marks} l r m h up) x = omega (arith, pushes-grow r x, set-grows marks (predicate_of l) (lifted l mark) x h up)

  pub pushes-keep : {marks waiting : List ℕ} → Pushes ls mark marks₀ waiting₀ marks waiting → (x : ℕ) → Memᴰ x waiting₀ → Memᴰ x waiting
  pushes-keep none x w = w
  pushes-keep (more {waiting = waiting} l r m h up) x w = in-more (predicate_of l) waiting (pushes-keep r x w)

  pub pushes-change : {marks waiting : List ℕ} → Pushes ls mark marks₀ waiting₀ marks waiting → (x : ℕ) → (at marks x ≡ at marks₀ x) ⊎ Memᴰ x waiting
  pushes-change none x = inl refl
  pushes-change (more {marks} {waiting} l r m h up) x = elim (ℕ_discrete (predicate_of l) x) [
    | yes e ↦ inr (subst (λ y. Memᴰ y (waiting ++ (predicate_of l ∷ []))) e (in-last (predicate_of l) waiting))
    | no n ↦ elim (pushes-change r x) [
      | inl z ↦ inl (at_other marks (predicate_of l) (lifted l mark) x n ∙ z)
      | inr w ↦ inr (in-more (predicate_of l) waiting w)
    ]
  ]

  pub pushes-length : {marks waiting : List ℕ} → Pushes ls mark marks₀ waiting₀ marks waiting → length marks ≡ length marks₀
  pushes-length none = refl
  pushes-length (more {marks} l r m h up) = length-set marks (predicate_of l) (lifted l mark) ∙ pushes-length r

  -- What waits is bounded by what is raised.
  pub pushes-sum : {marks waiting : List ℕ} → Pushes ls mark marks₀ waiting₀ marks waiting → length waiting + sum marks₀ ≤ length waiting₀ + sum marks
  pushes-sum none = omega arith
  pushes-sum (more {marks} {waiting} l r m h up) =
      let v = lifted l mark in
      omega (arith, pushes-sum r, sum-set marks (predicate_of l) v h, length-append waiting (predicate_of l ∷ []))

  -- What waits is of these literals, or was waiting.
  pub pushes-within : (n : ℕ) → ((l : Literal) → Memᴰ l ls → predicate_of l < n) → ((x : ℕ) → Memᴰ x waiting₀ → x < n)
      → {marks waiting : List ℕ} → Pushes ls mark marks₀ waiting₀ marks waiting → (x : ℕ) → Memᴰ x waiting → x < n
  pushes-within n f g none x w = g x w
  pushes-within n f g (more {marks} {waiting} l r m h up) x w = elim (of-more (predicate_of l) waiting w) [
    | inl e ↦ omega (arith, f l m)
    | inr k ↦ pushes-within n f g r x k
  ]

  pub pushes-widen : (ms : List Literal) → Same ls ms → {marks waiting : List ℕ} → Pushes ls mark marks₀ waiting₀ marks waiting → Pushes ms mark marks₀ waiting₀ marks waiting
  pushes-widen ms f none = none
  pushes-widen ms f (more {marks} {waiting} l r m h up) =
      let w = f l m in
      let p : predicate_of l ≡ predicate_of w.0 = sym w.2 in
      let n : nots l ≡ nots w.0 = sym w.3 in
      let up' : at marks (predicate_of w.0) < lifted w.0 mark = rw (p, n) at up in
      rw (p, n) (more {marks = marks} {waiting = waiting} w.0 (pushes-widen ms f r) w.1 (omega arith) up')

pub pushes-join : (ls : List Literal) (mark : ℕ) (marks₀ waiting₀ : List ℕ) {marks₁ waiting₁ marks waiting : List ℕ}
    → Pushes ls mark marks₀ waiting₀ marks₁ waiting₁ → Pushes ls mark marks₁ waiting₁ marks waiting → Pushes ls mark marks₀ waiting₀ marks waiting
pushes-join ls mark marks₀ waiting₀ r none = r
pushes-join ls mark marks₀ waiting₀ r (more l s m h up) = more l (pushes-join ls mark marks₀ waiting₀ r s) m h up

lift-none : (a x : ℕ) → x ≡ 0 → lift a x ≡ 0
unfolding lift
lift-none a zero e = refl
lift-none a (suc x) e = absurd (omega arith)

-- With a mark that is not 0, what a literal gives is as in the rules' search.
lifted-lift : (l : Literal) (mark : ℕ) → 0 < mark → lifted l mark ≡ lift (nots l) mark
unfolding lift
lifted-lift l zero h = absurd (omega arith)
lifted-lift l (suc m) h = omega arith

-- What a predicate leads to leads on to what is in its bodies.
module _ (clauses : List Clause) (p q mark : ℕ) (marks₀ waiting₀ : List ℕ) (pos-mark : 0 < mark) (from : (n : ℕ) × Chain clauses p q n × (mark ≤ suc n)) where
  pub pushes-reached : {marks waiting : List ℕ} → Pushes (rests_on clauses q) mark marks₀ waiting₀ marks waiting → Reached clauses p (at marks₀) → Reached clauses p (at marks)
  pushes-reached none r x o = r x o
  pushes-reached (more {marks} l s m h up) r x o = elim (ℕ_discrete (predicate_of l) x) [
    | yes w ↦ (
        let v : at (set marks (predicate_of l) (lifted l mark)) x ≡ lifted l mark =
        subst (λ y. at (set marks (predicate_of l) (lifted l mark)) y ≡ lifted l mark) w (at_same marks (predicate_of l) (lifted l mark) h) in (
          from.0 + (nots l + 0),
          subst (λ y. Chain clauses p y (from.0 + (nots l + 0))) w (chain-join from.1 (goes l m stays)),
          omega (arith, from.2, lifted-lift l mark pos-mark, lift-above (nots l) mark),
        ))
    | no n ↦ (
        let e : at (set marks (predicate_of l) (lifted l mark)) x ≡ at marks x = at_other marks (predicate_of l) (lifted l mark) x n in
        let c = pushes-reached s r x (omega arith) in (c.0, c.1, omega (arith, c.2)))
  ]

-- ONE PUSH
module _ (marks waiting : List ℕ) (q v : ℕ) (in-marks : q < length marks) (up : at marks q < v) where
  raised-two : v ≤ 2 → ((x : ℕ) → at marks x ≤ 2) → (x : ℕ) → at (set marks q v) x ≤ 2
  raised-two z two x = elim (ℕ_discrete q x) [
    | yes e ↦ omega (arith, subst (λ k. at (set marks q v) k ≡ v) e (at_same marks q v in-marks))
    | no n ↦ omega (arith, at_other marks q v x n, two x)
  ]

  pub room-left : v ≤ 2 → Ready marks waiting → length waiting < 8192
  room-left z y = omega (arith, y.size, y.room, sum-set marks q v in-marks, sum-two (set marks q v) (raised-two z y.two), length-set marks q v)

  pub ready-push : q < 4096 → v ≤ 2 → Ready marks waiting → Ready (set marks q v) (waiting ++ (q ∷ []))
  ready-push b z y = record {
    size = length-set marks q v ∙ y.size;
    two = raised-two z y.two;
    room = omega (arith, y.room, sum-set marks q v in-marks, length-append waiting (q ∷ []));
    marked = λ x m. elim (of-more q waiting m) [
      | inl e ↦ omega (arith, subst (λ k. at (set marks q v) k ≡ v) e (at_same marks q v in-marks))
      | inr k ↦ omega (arith, y.marked x k, set-grows marks q v x in-marks up)
    ];
    small = λ x m. elim (of-more q waiting m) [ inl e ↦ omega arith | inr k ↦ y.small x k ];
  }

  push-follows : (l : Literal) (mark : ℕ) → predicate_of l ≡ q → lifted l mark ≡ v → Follows (l ∷ []) mark marks waiting (set marks q v) (waiting ++ (q ∷ []))
  push-follows l mark e f =
      let inside : predicate_of l < length marks = omega arith in
      let up' : at marks (predicate_of l) < lifted l mark = omega (arith, ap (at marks) e) in
      let one : Pushes (l ∷ []) mark marks waiting (set marks (predicate_of l) (lifted l mark)) (waiting ++ (predicate_of l ∷ [])) =
      more {marks = marks} {waiting = waiting} l none (Memᴰ.head refl) inside up' in
      record {
        pushes = subst (λ w. Pushes (l ∷ []) mark marks waiting (set marks q w) (waiting ++ (q ∷ []))) f (subst (λ x. Pushes (l ∷ []) mark marks waiting (set marks x (lifted l mark)) (waiting ++ (x ∷ []))) e one);
        reaches = (omega (arith, ap (at (set marks q v)) e, at_same marks q v in-marks), tt);
      }

-- The last one is taken.
pub ready-popped : (marks waiting₀ waiting : List ℕ) (q : ℕ) → Ready marks waiting₀ → waiting₀ ≡ waiting ++ (q ∷ []) → Ready marks waiting
ready-popped marks waiting₀ waiting q y e = record {
  size = y.size;
  two = y.two;
  room = omega (arith, y.room, ap length e, length-append waiting (q ∷ []));
  marked = λ x m. y.marked x (subst (Memᴰ x) (sym e) (in-more q waiting m));
  small = λ x m. y.small x (subst (Memᴰ x) (sym e) (in-more q waiting m));
}

-- SOME LITERALS of a list are followed; the others are left.
pub record Going (all : List Literal) (mark : ℕ) (marks₀ waiting₀ : List ℕ) (left : List Literal) (marks waiting : List ℕ) : Type 0 where
  pub pushes : Pushes all mark marks₀ waiting₀ marks waiting
  pub inside : (l : Literal) → Memᴰ l left → Memᴰ l all
  pub rest : (ms : List ℕ) → ((x : ℕ) → at marks x ≤ at ms x) → Reaches left mark ms → Reaches all mark ms

module _ (all : List Literal) (mark : ℕ) (marks₀ waiting₀ : List ℕ) where
  pub going-start : Going all mark marks₀ waiting₀ all marks₀ waiting₀
  going-start = record { pushes = none; inside = λ l m. m; rest = λ ms g a. a }

  pub going-more : (part left : List Literal) (marks waiting marks' waiting' : List ℕ) → Going all mark marks₀ waiting₀ (part ++ left) marks waiting
      → Follows part mark marks waiting marks' waiting' → Going all mark marks₀ waiting₀ left marks' waiting'
  going-more part left marks waiting marks' waiting' v f =
      let grown : (x : ℕ) → at marks x ≤ at marks' x = pushes-grow part mark marks waiting f.pushes in
      record {
        pushes =
            pushes-join all mark marks₀ waiting₀ v.pushes
            (pushes-widen part mark marks waiting all (same_in part all (λ l m. v.inside l (in-first l part left m))) f.pushes);
        inside = λ l m. v.inside l (in-rest l part left m);
        rest = λ ms g a.
            v.rest ms (λ x. omega (arith, g x, grown x))
            (all_append (λ l. lifted l mark ≤ at ms (predicate_of l)) part left (reaches-grow mark marks' ms g part f.reaches) a);
      }

  pub going_end : (marks waiting : List ℕ) → Going all mark marks₀ waiting₀ [] marks waiting → Follows all mark marks₀ waiting₀ marks waiting
  going_end marks waiting v = record { pushes = v.pushes; reaches = v.rest marks (λ x. omega arith) tt }

-- Literals that differ in their terms alone are followed alike.
pub follows-map : (ls : List Literal) (mark : ℕ) (marks₀ waiting₀ marks waiting : List ℕ) → Follows (map_literals (λ ts. nil) ls) mark marks₀ waiting₀ marks waiting
    → Follows ls mark marks₀ waiting₀ marks waiting
follows-map ls mark marks₀ waiting₀ marks waiting f = record {
  pushes = pushes-widen (map_literals (λ ts. nil) ls) mark marks₀ waiting₀ ls (map-from ls) f.pushes;
  reaches = reaches-map mark marks ls f.reaches;
}

-- CELLS: the literals that begin in them.
cell-splits : (cell : Cell) (ls : List Literal) → beginning_at cell ls ≡ beginning_at cell [] ++ ls
unfolding beginning_at
cell-splits (variable v) ls = refl
cell-splits (function f k) ls = refl
cell-splits (positive p k) ls = refl
cell-splits (negative p k) ls = refl
cell-splits invalid ls = refl

pub cells-more : (S : List Symbol) (cells : List ℕ) (j : ℕ) → j < length cells
    → beginning S (drop j cells) ≡ beginning_at (read_cell S (get_or cells j 0)) [] ++ beginning S (drop (j + 1) cells)
unfolding beginning
cells-more S cells j h =
    let e : drop j cells ≡ get_or cells j 0 ∷ drop (j + 1) cells = rw (add-one, drop-cons cells j 0) in
    ap (beginning S) e ∙ cell-splits (read_cell S (get_or cells j 0)) (beginning S (drop (j + 1) cells))

pub cells-none : (S : List Symbol) (cells : List ℕ) (j : ℕ) → length cells ≤ j → beginning S (drop j cells) ≡ []
unfolding beginning
cells-none S cells j h = ap (beginning S) (drop_of_length-le cells h)

-- The one that begins in a cell, if one does.
pub begun-one : (cell : Cell) (l : Bare) → Begins cell (Some l)
    → (k : Literal) × (beginning_at cell [] ≡ k ∷ []) × (predicate_of k ≡ l.predicate) × (nots k ≡ l.nots)
unfolding beginning_at
begun-one (variable v) l b = absurd (let z : ◌≡◌ {A = ℕ} 0 1 = cc in omega arith)
begun-one (function f k) l b = absurd (let z : ◌≡◌ {A = ℕ} 0 1 = cc in omega arith)
begun-one (positive p k) l b = (pos p nil, refl, sym b.predicate, sym b.nots)
begun-one (negative p k) l b = (neg p nil, refl, sym b.predicate, sym b.nots)
begun-one invalid l b = absurd (let z : ◌≡◌ {A = ℕ} 0 1 = cc in omega arith)

pub begun-none : (cell : Cell) → Begins cell None → beginning_at cell [] ≡ []
unfolding beginning_at
begun-none (variable v) b = refl
begun-none (function f k) b = refl
begun-none (positive p k) b = absurd b
begun-none (negative p k) b = absurd b
begun-none invalid b = refl

pub follows-none : (mark : ℕ) (marks waiting : List ℕ) → Follows [] mark marks waiting marks waiting
follows-none mark marks waiting = record { pushes = none; reaches = tt }

-- CLAUSES: the literals that a predicate rests on, by the clauses that a literal without arguments tries.
pub rests-bodies : (cs : List Clause) (q : ℕ) → bodies (clauses_about q cs) ≡ rests_on cs q
unfolding rests_on
rests-bodies cs q = refl

pub row-nil : row_of_symbol None ≡ row_of nil
unfolding row_of
row-nil = refl

pub tried-nil : (cs : List Clause) → tried nil cs ≡ cs
unfolding tried tried_by row_of
tried-nil cs = go (has_rows cs)
  where
    go : (b : Bool) → tried_by b (row_of nil) cs ≡ cs
    go true = refl
    go false = refl

-- THE SEARCH FROM p
pub record Search (clauses : List Clause) (p : ℕ) (marks waiting : List ℕ) : Type 0 where
  pub reached : Reached clauses p (at marks)
  pub followed : (x : ℕ) → 0 < at marks x → Memᴰ x waiting ⊎ Reaches (rests_on clauses x) (at marks x) marks

only-here : (p : ℕ) (marks waiting : List ℕ) → Begun p marks waiting → (x : ℕ) → 0 < at marks x → p ≡ x
only-here p marks waiting b x o = elim (ℕ_discrete p x) [ yes e ↦ e | no n ↦ absurd (omega (arith, b.others x n)) ]

pub search-start : (clauses : List Clause) (p : ℕ) (marks waiting : List ℕ) → Begun p marks waiting → Search clauses p marks waiting
search-start clauses p marks waiting b = record {
  reached = λ x o.
      let e = only-here p marks waiting b x o in
      (0, subst (λ y. Chain clauses p y 0) e stays, omega (arith, subst (λ y. at marks y ≡ 1) e b.here));
  followed = λ x o. let e = only-here p marks waiting b x o in inl (subst (Memᴰ x) (sym b.waits) (Memᴰ.head (sym e)));
}

module _ (clauses : List Clause) (p q : ℕ) (marks waiting₀ waiting marks' waiting' : List ℕ) where
  pub search-more : Search clauses p marks waiting₀ → 0 < at marks q → waiting₀ ≡ waiting ++ (q ∷ [])
      → Follows (rests_on clauses q) (at marks q) marks waiting marks' waiting' → Search clauses p marks' waiting'
  search-more s o e f = record {
    reached = pushes-reached clauses p q (at marks q) marks waiting o (s.reached q o) f.pushes s.reached;
    followed = λ x k. go x k (pushes-change (rests_on clauses q) (at marks q) marks waiting f.pushes x) (ℕ_discrete q x);
  }
    where
      grown : (x : ℕ) → at marks x ≤ at marks' x
      grown x = pushes-grow (rests_on clauses q) (at marks q) marks waiting f.pushes x

      still : (x : ℕ) → (q ≡ x → ⊥) → at marks' x ≡ at marks x → Memᴰ x waiting₀ ⊎ Reaches (rests_on clauses x) (at marks x) marks
          → Memᴰ x waiting' ⊎ Reaches (rests_on clauses x) (at marks' x) marks'
      still x n z (inr a) = inr (rw z (reaches-grow (at marks x) marks marks' grown (rests_on clauses x) a))
      still x n z (inl m) = elim (of-more q waiting (subst (Memᴰ x) e m)) [
        | inl w ↦ absurd (n w)
        | inr k ↦ inl (pushes-keep (rests_on clauses q) (at marks q) marks waiting f.pushes x k)
      ]

      go : (x : ℕ) → 0 < at marks' x → (at marks' x ≡ at marks x) ⊎ Memᴰ x waiting' → Dec (q ≡ x) → Memᴰ x waiting' ⊎ Reaches (rests_on clauses x) (at marks' x) marks'
      go x k (inr w) d = inl w
      go x k (inl z) (yes d) = inr (rw z (subst (λ (y : ℕ). Reaches (rests_on clauses y) (at marks y) marks') d f.reaches))
      go x k (inl z) (no d) = still x d z (s.followed x (omega arith))

pub search-end : (clauses : List Clause) (p : ℕ) (marks waiting : List ℕ) → waiting ≡ [] → 0 < at marks p → Search clauses p marks waiting → (1 < at marks p) ↔ Circular clauses p
search-end clauses p marks waiting z h s = reached-tell clauses p (at marks) s.reached (h, λ q l m. go q l m (dec_lt 0 (at marks q)))
  where
    there : (q : ℕ) (l : Literal) → Memᴰ l (rests_on clauses q) → Memᴰ q waiting ⊎ Reaches (rests_on clauses q) (at marks q) marks → lifted l (at marks q) ≤ at marks (predicate_of l)
    there q l m (inl w) = absurd (let n : Memᴰ q [] = subst (Memᴰ q) z w in Memᴰ.not-nil n)
    there q l m (inr a) = all-mem (λ k. lifted k (at marks q) ≤ at marks (predicate_of k)) m a

    go : (q : ℕ) (l : Literal) → Memᴰ l (rests_on clauses q) → Dec (0 < at marks q) → lift (nots l) (at marks q) ≤ at marks (predicate_of l)
    go q l m (yes o) = omega (arith, lifted-lift l (at marks q) o, there q l m (s.followed q o))
    go q l m (no n) = omega (arith, lift-none (nots l) (at marks q) (omega arith))

-- What the mark of p says in the end.
pub told : (clauses : List Clause) (p : ℕ) (marks : List ℕ) → at marks p ≤ 2 → (1 < at marks p) ↔ Circular clauses p → CircleSays clauses p (eqb (at marks p) 2)
told clauses p marks two h = go (eqb (at marks p) 2) refl
  where
    go : (b : Bool) → eqb (at marks p) 2 ≡ b → CircleSays clauses p b
    go true e = h.0 (omega (arith, eqb-true (at marks p) 2 e))
    go false e = λ c. eqb-false (at marks p) 2 e (omega (arith, h.1 c))

pub lower-more : (clauses : List Clause) (p : ℕ) → ((q : ℕ) → q < p → Circular clauses q → ⊥) → (Circular clauses p → ⊥) → (q : ℕ) → q < p + 1 → Circular clauses q → ⊥
lower-more clauses p h n q l c = elim (ℕ_discrete q p) [ yes e ↦ n (subst (Circular clauses) e c) | no k ↦ h q (omega arith) c ]

-- Nothing is marked.
pub blank-ready : (marks waiting : List ℕ) → NothingReached marks waiting → Ready marks waiting
blank-ready marks waiting b = record {
  size = b.size;
  two = λ x. omega (arith, b.unmarked x);
  room = omega (arith, ap length b.none_waits);
  marked = λ x m. absurd (let n : Memᴰ x [] = subst (Memᴰ x) b.none_waits m in Memᴰ.not-nil n);
  small = λ x m. absurd (let n : Memᴰ x [] = subst (Memᴰ x) b.none_waits m in Memᴰ.not-nil n);
}

-- p alone is marked, and waits.
pub raised-begun : (p : ℕ) (marks waiting marks' waiting' : List ℕ) → p < 4096 → NothingReached marks waiting → Raised p 1 marks waiting marks' waiting' → Begun p marks' waiting'
raised-begun p marks waiting marks' waiting' h b r =
    let w = r.raised (omega (arith, b.unmarked p)) in
    record {
      here = ap (λ (ms : List ℕ). at ms p) w.0 ∙ at_same marks p 1 (omega (arith, b.size));
      others = λ x n. ap (λ (ms : List ℕ). at ms x) w.0 ∙ at_other marks p 1 x n ∙ b.unmarked x;
      waits = w.1 ∙ ap (λ (l : List ℕ). l ++ (p ∷ [])) b.none_waits;
    }

-- A raise by a literal follows it.
pub raised-follows : (marks waiting marks' waiting' : List ℕ) (q v : ℕ) → q < length marks → Raised q v marks waiting marks' waiting'
    → (l : Literal) (mark : ℕ) → predicate_of l ≡ q → lifted l mark ≡ v → Follows (l ∷ []) mark marks waiting marks' waiting'
raised-follows marks waiting marks' waiting' q v h r l mark e f = elim (dec_lt (at marks q) v) [
  | yes up ↦ (
      let w = r.raised up in
      rw (w.0, w.1) (push-follows marks waiting q v h up l mark e f))
  | no n ↦ (
      let w = r.same (omega arith) in
      rw (w.0, w.1) record { pushes = none; reaches = (omega (arith, ap (at marks) e), tt) })
]
