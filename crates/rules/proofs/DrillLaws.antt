-- The list of drill terms: its members are just the drill terms, it is increasing, and only one list is both.
use Prim.Native.Nat.{ℕ, zero, suc, ◌+◌, ◌-◌, ◌≤◌, ◌<◌}
use mathlib.Core.Path.{◌≡◌, refl, ap, ap₂, sym, ◌∙◌, subst}
use mathlib.Core.Logic.{◌⊎◌, inl, inr}
use mathlib.Core.Bool.{Bool, true, false, ◌&&◌, true≢false, and-eq-true_iff}
use mathlib.Core.Option.{Option, none, some, none-ne-some, some-injective}
use mathlib.Core.List.Memᴰ
use mathlib.Core.List.{List, [], ◌∷◌, ◌++◌, map, Memᴰ}
use native.Mathlib.Omega.{arith}
use native.Mathlib.Decide.{ℕ_discrete}
use lib.ListN.{length, get_elem?, length-append}
use lib.Dec.{leb, eqb}
use borrow.Author.Tests.{leb-true, leb-false, eqb-true, eq-eqb}
use Rattle.rules.specs.Terms.{var, app, Terms, nil, cons, ◌+++◌, count, size, sizes, vars_terms}
use Rattle.rules.specs.Syntax.{Symbol, functor, predicate}
use Rattle.rules.specs.Cells.{write_term, write_terms, function, symbol_cell, read_cell}
use Rattle.rules.specs.WellFormed.{All, WfTerms}
use Rattle.rules.specs.Drill.{DrillTerm, CellsBefore, Before, Sorted, DrillList, with_first, fillings, terms_from, drill_terms, same, past, after, fitting, joined}
use Rattle.rules.proofs.ListLaws.{all_append, all_split, all_of, all-weaken, all_both, all_map, all_in}
use Rattle.rules.proofs.TermLaws.{sizes-join, count-join, size-pos}
use Rattle.rules.proofs.CellLaws.{term-length, write-join, vars-join, wf-split, cell-symbol, written_as, elem_below}

-- A functor of the deck as a symbol and as a cell.
functor-cell : (S : List Symbol) (f a : ℕ) → f < 16384 → get_elem? S f ≡ some (functor a) → read_cell S f ≡ function f a
unfolding symbol_cell
functor-cell S f a h e = cell-symbol S f h ∙ ap (symbol_cell f) e

cell-functor : (S : List Symbol) (f a : ℕ) → read_cell S f ≡ function f a → get_elem? S f ≡ some (functor a)
unfolding symbol_cell
cell-functor S f a e = go (get_elem? S f) refl (sym (cell-symbol S f (written_as S f (function f a) e).1) ∙ e)
  where
    go : (o : Option Symbol) → get_elem? S f ≡ o → symbol_cell f o ≡ function f a → get_elem? S f ≡ some (functor a)
    go none q z = let n : ◌≡◌ {A = ℕ} 0 1 = cc in absurd (omega arith)
    go (some (functor b)) q z = let n : b ≡ a = cc in q ∙ ap (λ j. some (functor j)) n
    go (some (predicate b)) q z = let n : ◌≡◌ {A = ℕ} 0 1 = cc in absurd (omega arith)

-- Variable-free terms and their cells.
record Filling (S : List Symbol) (m k : ℕ) (cells : List ℕ) : Type 0 where
  terms : Terms
  formed : WfTerms S terms
  ground : vars_terms terms [] ≡ []
  many : count terms ≡ k
  size : sizes terms ≡ m
  written : cells ≡ write_terms terms []

-- The first a terms, and the others.
record Split (a k : ℕ) (ts : Terms) : Type 0 where
  front : Terms
  others : Terms
  joined : ts ≡ front +++ others
  many : count front ≡ a
  rest : count others ≡ k

split : (a k : ℕ) (ts : Terms) → count ts ≡ a + k → Split a k ts
split zero k ts e = record { front = nil; others = ts; joined = refl; many = refl; rest = omega arith }
split (suc a) k nil e = absurd (omega arith)
split (suc a) k (cons t ts) e =
    let s = split a k ts (omega arith) in
    record { front = cons t s.front; others = s.others; joined = ap (cons t) s.joined; many = ap suc s.many; rest = s.rest }

join-formed : (S : List Symbol) (ts us : Terms) → WfTerms S ts → WfTerms S us → WfTerms S (ts +++ us)
join-formed S nil us w v = v
join-formed S (cons t ts) us w v = (w.0, join-formed S ts us w.1 v)

-- Soundness: a functor before the cells of its terms and of others.
filling-first : (S : List Symbol) (m k f a : ℕ) (ys : List ℕ) → f < 16384 → get_elem? S f ≡ some (functor a) → Filling S m (a + k) ys → Filling S (suc m) (suc k) (f ∷ ys)
filling-first S m k f a ys h e w =
    let s = split a k w.terms w.many in
    let front = s.front in
    let others = s.others in
    let formed = wf-split S front others (subst (WfTerms S) s.joined w.formed) in
    record {
      terms = cons (app f front) others;
      formed = ((functor-cell S f a h e ∙ ap (function f) (sym s.many), formed.0), formed.1);
      ground = sym (vars-join front others []) ∙ ap (λ ts. vars_terms ts []) (sym s.joined) ∙ w.ground;
      many = ap suc s.rest;
      size = omega (arith, sizes-join front others, ap sizes s.joined, w.size);
      written = ap {B = List ℕ} (f ∷◌) (w.written ∙ ap (λ ts. write_terms ts []) s.joined ∙ write-join front others []);
    }

shift : (i j : ℕ) → i + suc j ≡ suc i + j
shift i j = omega arith

module _ (P : List ℕ → Type 0) (rest : ℕ → List (List ℕ)) (S : List Symbol) (h : (f a : ℕ) → get_elem? S f ≡ some (functor a) → All (λ ys. P (f ∷ ys)) (rest a)) where
  all_from : (i : ℕ) (T : List Symbol) → ((j : ℕ) → get_elem? T j ≡ get_elem? S (i + j)) → All P (with_first rest i T)
  unfolding with_first
  all_from i [] same = tt
  all_from i (functor a ∷ T) same =
      let here : i + 0 ≡ i = omega arith in
      all_append P (map (i ∷◌) (rest a)) (with_first rest (suc i) T) (all_map P (i ∷◌) (rest a) (h i a (ap (get_elem? S) (sym here) ∙ sym (same 0))))
      (all_from (suc i) T (λ j. same (suc j) ∙ ap (get_elem? S) (shift i j)))
  all_from i (predicate a ∷ T) same = all_from (suc i) T (λ j. same (suc j) ∙ ap (get_elem? S) (shift i j))

  all_first : All P (with_first rest 0 S)
  all_first = all_from 0 S (λ j. ap (get_elem? S) (start j))
    where
      start : (j : ℕ) → j ≡ 0 + j
      start j = omega arith

module _ (S : List Symbol) (few : length S ≤ 16384) where
  fillings-sound : (m k : ℕ) → All (Filling S m k) (fillings S m k)
  unfolding fillings
  fillings-sound zero zero = (record { terms = nil; formed = tt; ground = refl; many = refl; size = refl; written = refl }, tt)
  fillings-sound zero (suc k) = tt
  fillings-sound (suc m) zero = tt
  fillings-sound (suc m) (suc k) =
      all_first (Filling S (suc m) (suc k)) (λ a. fillings S m (a + k)) S λ f a e.
      all-weaken (Filling S m (a + k)) (λ ys. Filling S (suc m) (suc k) (f ∷ ys))
      (λ ys w. filling-first S m k f a ys (omega (arith, elem_below S f (functor a) e)) e w)
      (fillings S m (a + k)) (fillings-sound m (a + k))

  one-term : (N n : ℕ) (x : List ℕ) (ts : Terms) → WfTerms S ts → vars_terms ts [] ≡ [] → count ts ≡ 1 → sizes ts ≡ n → x ≡ write_terms ts [] → n ≤ N → DrillTerm S N x
  one-term N n x nil w g c e q h = absurd (omega arith)
  one-term N n x (cons t nil) w g c e q h = record { term = t; formed = w.0; ground = g; short = omega arith; written = q }
  one-term N n x (cons t (cons u us)) w g c e q h = absurd (omega arith)

  terms-sound : (N size number : ℕ) → size + number ≤ suc N → All (DrillTerm S N) (terms_from S size number)
  unfolding terms_from
  terms-sound N size zero h = tt
  terms-sound N size (suc number) h =
      all_append (DrillTerm S N) (fillings S size 1) (terms_from S (suc size) number)
      (all-weaken (Filling S size 1) (DrillTerm S N) (λ x w. one-term N size x w.terms w.formed w.ground w.many w.size w.written (omega arith)) (fillings S size 1)
      (fillings-sound size 1))
      (terms-sound N (suc size) number (omega arith))

  -- Every term of the list is a drill term.
  pub drill-sound : (N : ℕ) → All (DrillTerm S N) (drill_terms S N)
  unfolding drill_terms
  drill-sound N = terms-sound N 1 N (omega arith)

-- Completeness.
member-first :
    (rest : ℕ → List (List ℕ)) (f a : ℕ) (ys : List ℕ) (i : ℕ) (T : List Symbol) (j : ℕ) → i + j ≡ f → get_elem? T j ≡ some (functor a) → Memᴰ ys (rest a)
    → Memᴰ (f ∷ ys) (with_first rest i T)
unfolding with_first
member-first rest f a ys i [] j e g m = absurd (none-ne-some (functor a) g)
member-first rest f a ys i (functor b ∷ T) zero e g m =
    let q : i ≡ f = omega arith in
    let p : a ≡ b = cc in
    Memᴰ.append_left (with_first rest (suc i) T) (subst (λ n. Memᴰ (f ∷ ys) (map (n ∷◌) (rest b))) (sym q) (Memᴰ.map (f ∷◌) (subst (λ n. Memᴰ ys (rest n)) p m)))
member-first rest f a ys i (predicate b ∷ T) zero e g m = let z : ◌≡◌ {A = ℕ} 0 1 = cc in absurd (omega arith)
member-first rest f a ys i (functor b ∷ T) (suc j) e g m = Memᴰ.append_right (map (i ∷◌) (rest b)) (member-first rest f a ys (suc i) T j (omega arith) g m)
member-first rest f a ys i (predicate b ∷ T) (suc j) e g m = member-first rest f a ys (suc i) T j (omega arith) g m

fillings-complete : (S : List Symbol) (m : ℕ) (ts : Terms) (k : ℕ) → sizes ts ≡ m → count ts ≡ k → WfTerms S ts → vars_terms ts [] ≡ [] → Memᴰ (write_terms ts []) (fillings S m k)
unfolding fillings
fillings-complete S zero nil zero e c w g = Memᴰ.head refl
fillings-complete S zero nil (suc k) e c w g = absurd (omega arith)
fillings-complete S zero (cons t ts) k e c w g = absurd (omega (arith, size-pos t))
fillings-complete S (suc m) nil k e c w g = absurd (omega arith)
fillings-complete S (suc m) (cons (var v) ts) k e c w g = let z : ◌≡◌ {A = ℕ} 0 1 = cc in absurd (omega arith)
fillings-complete S (suc m) (cons (app f front) ts) zero e c w g = absurd (omega arith)
fillings-complete S (suc m) (cons (app f front) ts) (suc k) e c w g =
    member-first (λ a. fillings S m (a + k)) f (count front) (write_terms front (write_terms ts [])) 0 S f (omega arith) (cell-functor S f (count front) w.0.0)
    (subst (λ l. Memᴰ l (fillings S m (count front + k))) (write-join front ts [])
    (fillings-complete S m (front +++ ts) (count front + k) (omega (arith, sizes-join front ts)) (omega (arith, count-join front ts)) (join-formed S front ts w.0.1 w.1)
    (vars-join front ts [] ∙ g)))

terms-complete : (S : List Symbol) (x : List ℕ) (n size number : ℕ) → Memᴰ x (fillings S n 1) → size ≤ n → n < size + number → Memᴰ x (terms_from S size number)
unfolding terms_from
terms-complete S x n size zero m l h = absurd (omega arith)
terms-complete S x n size (suc number) m l h = go (ℕ_discrete n size) (λ k. terms-complete S x n (suc size) number m k (omega arith))
  where
    go : Dec (n ≡ size) → (suc size ≤ n → Memᴰ x (terms_from S (suc size) number)) → Memᴰ x (fillings S size 1 ++ terms_from S (suc size) number)
    go (yes e) r = Memᴰ.append_left (terms_from S (suc size) number) (subst (λ j. Memᴰ x (fillings S j 1)) e m)
    go (no e) r = Memᴰ.append_right (fillings S size 1) (r (omega arith))

-- Every drill term is in the list.
pub drill-complete : (S : List Symbol) (N : ℕ) (x : List ℕ) → DrillTerm S N x → Memᴰ x (drill_terms S N)
unfolding drill_terms
drill-complete S N x d =
    let t = d.term in
    subst (λ l. Memᴰ l (terms_from S 1 N)) (sym d.written)
    (terms-complete S (write_term t []) (size t) 1 N (fillings-complete S (size t) (cons t nil) 1 (omega arith) refl (d.formed, tt) d.ground) (size-pos t) (omega (arith, d.short)))

-- The order.
sorted-append : (R : List ℕ → List ℕ → Type 0) (L M : List (List ℕ)) → Sorted R L → Sorted R M → All (λ x. All (R x) M) L → Sorted R (L ++ M)
sorted-append R [] M s r h = r
sorted-append R (x ∷ L) M s r h = (all_append (R x) L M s.0 h.0, sorted-append R L M s.1 r h.1)

sorted-map : (f : ℕ) (L : List (List ℕ)) → Sorted CellsBefore L → Sorted CellsBefore (map (f ∷◌) L)
sorted-map f [] s = tt
sorted-map f (x ∷ L) s =
    (all_map (CellsBefore (f ∷ x)) (f ∷◌) L (all-weaken (CellsBefore x) (λ y. CellsBefore (f ∷ x) (f ∷ y)) (λ y b. inr (refl, b)) L s.0), sorted-map f L s.1)

-- The first cell is f or greater.
abbrev From : ℕ → List ℕ → Type 0
From f [] = ⊥
From f (g ∷ ys) = f ≤ g

less : (i : ℕ) (x : List ℕ) → From (suc i) x → From i x
less i [] h = h
less i (g ∷ ys) h = omega arith

module _ (rest : ℕ → List (List ℕ)) where
  first-from : (i : ℕ) (T : List Symbol) → All (From i) (with_first rest i T)
  unfolding with_first
  first-from i [] = tt
  first-from i (functor a ∷ T) =
      all_append (From i) (map (i ∷◌) (rest a)) (with_first rest (suc i) T) (all_map (From i) (i ∷◌) (rest a) (all_of (λ ys. From i (i ∷ ys)) (λ ys. omega arith) (rest a)))
      (all-weaken (From (suc i)) (From i) (less i) (with_first rest (suc i) T) (first-from (suc i) T))
  first-from i (predicate a ∷ T) = all-weaken (From (suc i)) (From i) (less i) (with_first rest (suc i) T) (first-from (suc i) T)

  first-sorted : ((a : ℕ) → Sorted CellsBefore (rest a)) → (i : ℕ) (T : List Symbol) → Sorted CellsBefore (with_first rest i T)
  unfolding with_first
  first-sorted s i [] = tt
  first-sorted s i (functor a ∷ T) =
      sorted-append CellsBefore (map (i ∷◌) (rest a)) (with_first rest (suc i) T) (sorted-map i (rest a) (s a)) (first-sorted s (suc i) T)
      (all_map (λ x. All (CellsBefore x) (with_first rest (suc i) T)) (i ∷◌) (rest a)
      (all_of (λ x. All (CellsBefore (i ∷ x)) (with_first rest (suc i) T)) (λ x. all-weaken (From (suc i)) (CellsBefore (i ∷ x)) (before i x) (with_first rest (suc i) T) (first-from (suc i) T)) (rest a)))
    where
      before : (i : ℕ) (x y : List ℕ) → From (suc i) y → CellsBefore (i ∷ x) y
      before i x [] h = h
      before i x (g ∷ ys) h = inl h
  first-sorted s i (predicate a ∷ T) = first-sorted s (suc i) T

fillings-sorted : (S : List Symbol) (m k : ℕ) → Sorted CellsBefore (fillings S m k)
unfolding fillings
fillings-sorted S zero zero = (tt, tt)
fillings-sorted S zero (suc k) = tt
fillings-sorted S (suc m) zero = tt
fillings-sorted S (suc m) (suc k) = first-sorted (λ a. fillings S m (a + k)) (λ a. fillings-sorted S m (a + k)) 0 S

fillings-length : (S : List Symbol) (m k : ℕ) → All (λ x. length x ≡ m) (fillings S m k)
unfolding fillings
fillings-length S zero zero = (refl, tt)
fillings-length S zero (suc k) = tt
fillings-length S (suc m) zero = tt
fillings-length S (suc m) (suc k) =
    all_first (λ x. length x ≡ suc m) (λ a. fillings S m (a + k)) S λ f a e.
    all-weaken (λ x. length x ≡ m) (λ x. length (f ∷ x) ≡ suc m) (λ x q. ap suc q) (fillings S m (a + k)) (fillings-length S m (a + k))

sorted-same : (m : ℕ) (L : List (List ℕ)) → All (λ x. length x ≡ m) L → Sorted CellsBefore L → Sorted Before L
sorted-same m [] l s = tt
sorted-same m (x ∷ L) l s = (
  all-weaken (λ y. (length y ≡ m) × CellsBefore x y) (Before x) (λ y h. inr (l.0 ∙ sym h.0, h.1)) L (all_both (λ y. length y ≡ m) (CellsBefore x) L l.1 s.0),
  sorted-same m L l.1 s.1,
)

terms-length : (S : List Symbol) (size number : ℕ) → All (λ x. size ≤ length x) (terms_from S size number)
unfolding terms_from
terms-length S size zero = tt
terms-length S size (suc number) =
    all_append (λ x. size ≤ length x) (fillings S size 1) (terms_from S (suc size) number)
    (all-weaken (λ x. length x ≡ size) (λ x. size ≤ length x) (λ x q. omega arith) (fillings S size 1) (fillings-length S size 1))
    (all-weaken (λ x. suc size ≤ length x) (λ x. size ≤ length x) (λ x q. omega arith) (terms_from S (suc size) number) (terms-length S (suc size) number))

terms-sorted : (S : List Symbol) (size number : ℕ) → Sorted Before (terms_from S size number)
unfolding terms_from
terms-sorted S size zero = tt
terms-sorted S size (suc number) =
    sorted-append Before (fillings S size 1) (terms_from S (suc size) number) (sorted-same size (fillings S size 1) (fillings-length S size 1) (fillings-sorted S size 1))
    (terms-sorted S (suc size) number)
    (all-weaken (λ x. length x ≡ size) (λ x. All (Before x) (terms_from S (suc size) number))
    (λ x q. all-weaken (λ y. suc size ≤ length y) (Before x) (λ y h. inl (omega arith)) (terms_from S (suc size) number) (terms-length S (suc size) number))
    (fillings S size 1) (fillings-length S size 1))

-- The list is in order, each term just one time.
pub drill-sorted : (S : List Symbol) (N : ℕ) → Sorted Before (drill_terms S N)
unfolding drill_terms
drill-sorted S N = terms-sorted S 1 N

-- No two are before each other, so a sorted list is known by its members.
cells-once : (x y : List ℕ) → CellsBefore x y → CellsBefore y x → ⊥
cells-once [] y h k = h
cells-once (a ∷ x) [] h k = h
cells-once (a ∷ x) (b ∷ y) (inl h) (inl k) = omega arith
cells-once (a ∷ x) (b ∷ y) (inl h) (inr k) = omega (arith, k.0)
cells-once (a ∷ x) (b ∷ y) (inr h) (inl k) = omega (arith, h.0)
cells-once (a ∷ x) (b ∷ y) (inr h) (inr k) = cells-once x y h.1 k.1

before-once : (x y : List ℕ) → Before x y → Before y x → ⊥
before-once x y (inl h) (inl k) = omega arith
before-once x y (inl h) (inr k) = omega (arith, k.0)
before-once x y (inr h) (inl k) = omega (arith, h.0)
before-once x y (inr h) (inr k) = cells-once x y h.1 k.1

all-member : (P : List ℕ → Type 0) (x : List ℕ) (L : List (List ℕ)) → All P L → Memᴰ x L → P x
all-member P x [] h m = elim m [ ]
all-member P x (y ∷ L) h (Memᴰ.head e) = subst P (sym e) h.0
all-member P x (y ∷ L) h (Memᴰ.tail m) = all-member P x L h.1 m

abbrev Within : List (List ℕ) → List (List ℕ) → Type 0
Within L M = (x : List ℕ) → Memᴰ x L → Memᴰ x M

same_head : (x y : List ℕ) (L M : List (List ℕ)) → Sorted Before (x ∷ L) → Sorted Before (y ∷ M) → Within (x ∷ L) (y ∷ M) → Within (y ∷ M) (x ∷ L) → x ≡ y
same_head x y L M s r h k = go (Memᴰ.cases_cons (h x (Memᴰ.head refl))) (Memᴰ.cases_cons (k y (Memᴰ.head refl)))
  where
    go : (x ≡ y) ⊎ Memᴰ x M → (y ≡ x) ⊎ Memᴰ y L → x ≡ y
    go (inl e) d = e
    go (inr m) (inl e) = sym e
    go (inr m) (inr n) = absurd (before-once x y (all-member (Before x) y L s.0 n) (all-member (Before y) x M r.0 m))

tail_within : (x y : List ℕ) (L M : List (List ℕ)) → x ≡ y → Sorted Before (x ∷ L) → Within (x ∷ L) (y ∷ M) → Within L M
tail_within x y L M e s h z m = go (Memᴰ.cases_cons (h z (Memᴰ.tail m)))
  where
    go : (z ≡ y) ⊎ Memᴰ z M → Memᴰ z M
    go (inl q) = let b = subst (Before x) (q ∙ sym e) (all-member (Before x) z L s.0 m) in absurd (before-once x x b b)
    go (inr n) = n

sorted-unique : (L M : List (List ℕ)) → Sorted Before L → Sorted Before M → Within L M → Within M L → L ≡ M
sorted-unique [] [] s r h k = refl
sorted-unique [] (y ∷ M) s r h k = absurd (Memᴰ.not-nil (k y (Memᴰ.head refl)))
sorted-unique (x ∷ L) [] s r h k = absurd (Memᴰ.not-nil (h x (Memᴰ.head refl)))
sorted-unique (x ∷ L) (y ∷ M) s r h k =
    let e = same_head x y L M s r h k in
    ap₂ ◌∷◌ e (sorted-unique L M s.1 r.1 (tail_within x y L M e s h) (tail_within y x M L (sym e) r k))

-- THE LIST IS DETERMINED: there is one list of just the drill terms in that order, and it is the one computed.
pub drill-only : (S : List Symbol) (N : ℕ) (L M : List (List ℕ)) → DrillList S N L → DrillList S N M → L ≡ M
drill-only S N L M l m = sorted-unique L M l.sorted m.sorted (λ x i. m.all x (l.only x i)) (λ x i. l.all x (m.only x i))

pub drill-list : (S : List Symbol) (few : length S ≤ 16384) (N : ℕ) → DrillList S N (drill_terms S N)
drill-list S few N = record {
  sorted = drill-sorted S N;
  only = λ x m. all-member (DrillTerm S N) x (drill_terms S N) (drill-sound S few N) m;
  all = drill-complete S N;
}

pub drill-unique : (S : List Symbol) (few : length S ≤ 16384) (N : ℕ) (L : List (List ℕ)) → DrillList S N L → L ≡ drill_terms S N
drill-unique S few N L l = drill-only S N L (drill_terms S N) l (drill-list S few N)

-- The terms after a given one: those of the list that it is before.
same-cells : (x y : List ℕ) → same x y ≡ true → x ≡ y
unfolding same
same-cells [] [] e = refl
same-cells [] (b ∷ y) e = absurd (true≢false (sym e))
same-cells (a ∷ x) [] e = absurd (true≢false (sym e))
same-cells (a ∷ x) (b ∷ y) e = let h = (and-eq-true_iff (eqb a b) (same x y)).0 e in ap₂ ◌∷◌ (eqb-true a b h.0) (same-cells x y h.1)

record Cut (x : List ℕ) (L R : List (List ℕ)) : Type 0 where
  front : List (List ℕ)
  joint : L ≡ front ++ (x ∷ R)

past-cut : (x : List ℕ) (L R : List (List ℕ)) → past x L ≡ some R → Cut x L R
unfolding past
past-cut x [] R e = absurd (none-ne-some R e)
past-cut x (t ∷ L) R e = go (same x t) refl (past-cut x L R)
  where
    go : (b : Bool) → same x t ≡ b → (past x L ≡ some R → Cut x L R) → Cut x (t ∷ L) R
    go true q h = let r : L ≡ R = some-injective L R (rw (q, past) at e) in record { front = []; joint = ap₂ ◌∷◌ (sym (same-cells x t q)) r }
    go false q h = let c = h (rw (q, past) at e) in record { front = t ∷ c.front; joint = ap {B = List (List ℕ)} (t ∷◌) c.joint }

sorted-parts : (x : List ℕ) (front R : List (List ℕ)) → Sorted Before (front ++ (x ∷ R)) → All (λ y. Before y x) front × All (Before x) R
sorted-parts x [] R s = (tt, s.0)
sorted-parts x (t ∷ front) R s = let r = sorted-parts x front R s.1 in (((all_split (Before t) front (x ∷ R) s.0).1.0, r.0), r.1)

-- The parts of an ordered list.
sorted_front : (L M : List (List ℕ)) → Sorted Before (L ++ M) → Sorted Before L
sorted_front [] M s = tt
sorted_front (x ∷ L) M s = ((all_split (Before x) L M s.0).0, sorted_front L M s.1)

before_others : (L M : List (List ℕ)) (y : List ℕ) → Sorted Before (L ++ M) → Memᴰ y M → All (λ t. Before t y) L
before_others [] M y s m = tt
before_others (x ∷ L) M y s m = (all-member (Before x) y M (all_split (Before x) L M s.0).1 m, before_others L M y s.1 m)

no_shorter : (x y : List ℕ) → Before x y → length x ≤ length y
no_shorter x y (inl h) = omega arith
no_shorter x y (inr h) = omega (arith, h.0)

first_least : (t : List ℕ) (ts : List (List ℕ)) (y : List ℕ) → Sorted Before (t ∷ ts) → Memᴰ y (t ∷ ts) → length t ≤ length y
first_least t ts y s (Memᴰ.head e) = omega (arith, ap length e)
first_least t ts y s (Memᴰ.tail m) = no_shorter t y (all-member (Before t) y ts s.0 m)

sorted_back : (L M : List (List ℕ)) → Sorted Before (L ++ M) → Sorted Before M
sorted_back [] M s = s
sorted_back (x ∷ L) M s = sorted_back L M s.1

module _ (S : List Symbol) (few : length S ≤ 16384) (N : ℕ) (x : List ℕ) (R : List (List ℕ)) (e : past x (drill_terms S N) ≡ some R) where
  cut : Cut x (drill_terms S N) R
  cut = past-cut x (drill_terms S N) R e

  parts : All (λ y. Before y x) cut.front × All (Before x) R
  parts = sorted-parts x cut.front R (subst (Sorted Before) cut.joint (drill-sorted S N))

  pub past-sound : (y : List ℕ) → Memᴰ y R → DrillTerm S N y × Before x y
  past-sound y m = (
    all-member (DrillTerm S N) y (drill_terms S N) (drill-sound S few N) (subst (Memᴰ y) (sym cut.joint) (Memᴰ.append_right cut.front (Memᴰ.tail m))),
    all-member (Before x) y R parts.1 m,
  )

  pub past-complete : (y : List ℕ) → DrillTerm S N y → Before x y → Memᴰ y R
  past-complete y d b = go (Memᴰ.append_cases cut.front (subst (Memᴰ y) cut.joint (drill-complete S N y d)))
    where
      here : (y ≡ x) ⊎ Memᴰ y R → Memᴰ y R
      here (inl q) = let c = subst (Before x) q b in absurd (before-once x x c c)
      here (inr m) = m

      go : Memᴰ y cut.front ⊎ Memᴰ y (x ∷ R) → Memᴰ y R
      go (inl m) = absurd (before-once x y b (all-member (λ z. Before z x) y cut.front parts.0 m))
      go (inr m) = here (Memᴰ.cases_cons m)

  pub past-sorted : Sorted Before R
  past-sorted = (sorted_back cut.front (x ∷ R) (subst (Sorted Before) cut.joint (drill-sorted S N))).1

  -- A given term is taken just where it is a drill term.
  pub taken-drill : DrillTerm S N x
  taken-drill = all-member (DrillTerm S N) x (drill_terms S N) (drill-sound S few N) (subst (Memᴰ x) (sym cut.joint) (Memᴰ.append_right cut.front (Memᴰ.head refl)))

same_self : (x : List ℕ) → same x x ≡ true
unfolding same
same_self [] = refl
same_self (a ∷ x) = ap₂ ◌&&◌ (eq-eqb a a refl) (same_self x)

past-member : (x : List ℕ) (L : List (List ℕ)) → past x L ≡ none → Memᴰ x L → ⊥
unfolding past
past-member x [] e m = elim m [ ]
past-member x (t ∷ L) e m = go (same x t) refl (Memᴰ.cases_cons m) (past-member x L)
  where
    go : (b : Bool) → same x t ≡ b → (x ≡ t) ⊎ Memᴰ x L → (past x L ≡ none → Memᴰ x L → ⊥) → ⊥
    go true q d h = none-ne-some L (sym (rw (q, past) at e))
    go false q (inl p) h = true≢false (sym (same_self x) ∙ ap (same x) p ∙ q)
    go false q (inr n) h = h (rw (q, past) at e) n

pub refused-drill : (S : List Symbol) (N : ℕ) (x : List ℕ) → past x (drill_terms S N) ≡ none → DrillTerm S N x → ⊥
refused-drill S N x e d = past-member x (drill_terms S N) e (drill-complete S N x d)

-- No drill term is empty, so the start comes before each.
after_start : (S : List Symbol) (N : ℕ) (x : List ℕ) → DrillTerm S N x → Before [] x
after_start S N x d = inl (omega (arith, ap length d.written, term-length d.term [], size-pos d.term))

-- The terms after the given one, or all of them where none is given: in order, and just the drill terms that come after it.
pub record Rest (S : List Symbol) (N : ℕ) (given : List ℕ) (rest : List (List ℕ)) : Type 0 where
  pub from : (given ≡ []) ⊎ DrillTerm S N given
  pub members : All (DrillTerm S N) rest
  pub sorted : Sorted Before rest
  pub later : All (Before given) rest
  pub all : (y : List ℕ) → DrillTerm S N y → Before given y → Memᴰ y rest

pub rest-after : (S : List Symbol) (few : length S ≤ 16384) (N : ℕ) (given : List ℕ) (rest : List (List ℕ)) → after given (drill_terms S N) ≡ some rest → Rest S N given rest
unfolding after
rest-after S few N [] rest e =
    let same_list : drill_terms S N ≡ rest = some-injective (drill_terms S N) rest e in
    let members = subst (All (DrillTerm S N)) same_list (drill-sound S few N) in
    record {
      from = inl refl;
      members = members;
      sorted = subst (Sorted Before) same_list (drill-sorted S N);
      later = all-weaken (DrillTerm S N) (Before []) (after_start S N) rest members;
      all = λ y d b. subst (Memᴰ y) same_list (drill-complete S N y d);
    }
rest-after S few N (c ∷ cs) rest e = record {
  from = inr (taken-drill S few N (c ∷ cs) rest e);
  members = all_in (DrillTerm S N) rest (λ y m. (past-sound S few N (c ∷ cs) rest e y m).0);
  sorted = past-sorted S few N (c ∷ cs) rest e;
  later = all_in (Before (c ∷ cs)) rest (λ y m. (past-sound S few N (c ∷ cs) rest e y m).1);
  all = past-complete S few N (c ∷ cs) rest e;
}

-- As many as fit: the first ones, and the next does not.
pub record Fits (room : ℕ) (terms : List (List ℕ)) : Type 0 where
  pub others : List (List ℕ)
  pub first : terms ≡ fitting room terms ++ others
  pub within : length (joined (fitting room terms)) ≤ room
  pub full : (t : List ℕ) (ts : List (List ℕ)) → others ≡ t ∷ ts → room < length (joined (fitting room terms)) + length t

pub fits : (room : ℕ) (terms : List (List ℕ)) → Fits room terms
unfolding fitting joined
fits room [] = record { others = []; first = refl; within = omega arith; full = λ t ts e. let z : ◌≡◌ {A = ℕ} 0 1 = cc in absurd (omega arith) }
fits room (t ∷ ts) = go (leb (length t) room) refl (fits (room - length t) ts)
  where
    go : (b : Bool) → leb (length t) room ≡ b → Fits (room - length t) ts → Fits room (t ∷ ts)
    go true q f =
        let l : length t ≤ room = leb-true (length t) room q in
        let e : fitting room (t ∷ ts) ≡ t ∷ fitting (room - length t) ts = rw (q, fitting) in
        let n = length-append t (joined (fitting (room - length t) ts)) in
        record {
          others = f.others;
          first = ap {B = List (List ℕ)} (t ∷◌) f.first ∙ ap (◌++ f.others) (sym e);
          within = omega (arith, ap (λ k. length (joined k)) e, n, f.within);
          full = λ u us p. omega (arith, ap (λ k. length (joined k)) e, n, f.full u us p);
        }
    go false q f =
        let l : room < length t = leb-false (length t) room q in
        let e : fitting room (t ∷ ts) ≡ [] = rw (q, fitting) in
        record {
          others = t ∷ ts;
          first = ap (◌++ (t ∷ ts)) (sym e);
          within = omega (arith, ap (λ k. length (joined k)) e);
          full = λ u us p. let r : t ≡ u = cc in omega (arith, ap (λ k. length (joined k)) e, ap length r);
        }

-- Those that fit are in order, and are all what the others are.
pub sorted-fitting : (room : ℕ) (rest : List (List ℕ)) → Sorted Before rest → Sorted Before (fitting room rest)
sorted-fitting room rest s = let f = fits room rest in sorted_front (fitting room rest) f.others (subst (Sorted Before) f.first s)

pub all-fitting : (P : List ℕ → Type 0) (room : ℕ) (rest : List (List ℕ)) → All P rest → All P (fitting room rest)
all-fitting P room rest h = let f = fits room rest in (all_split P (fitting room rest) f.others (subst (All P) f.first h)).0

-- A term is among those that fit, or comes after them all and has no room beside them.
pub fitting-full :
    (room : ℕ) (rest : List (List ℕ)) → Sorted Before rest → (y : List ℕ) → Memᴰ y rest
    → Memᴰ y (fitting room rest) ⊎ (All (λ t. Before t y) (fitting room rest) × (room < length (joined (fitting room rest)) + length y))
fitting-full room rest s y m = go (Memᴰ.append_cases (fitting room rest) (subst (Memᴰ y) f.first m))
  where
    f : Fits room rest
    f = fits room rest

    together : Sorted Before (fitting room rest ++ f.others)
    together = subst (Sorted Before) f.first s

    go : Memᴰ y (fitting room rest) ⊎ Memᴰ y f.others → Memᴰ y (fitting room rest) ⊎ (All (λ t. Before t y) (fitting room rest) × (room < length (joined (fitting room rest)) + length y))
    go (inl n) = inl n
    go (inr n) = inr (before_others (fitting room rest) f.others y together n, no_room f.others refl n)
      where
        no_room : (ts : List (List ℕ)) → f.others ≡ ts → Memᴰ y ts → room < length (joined (fitting room rest)) + length y
        no_room [] e k = elim k [ ]
        no_room (t ∷ ts) e k = omega (arith, f.full t ts e, first_least t ts y (sorted_back (fitting room rest) (t ∷ ts) (subst (λ o. Sorted Before (fitting room rest ++ o)) e together)) k)

-- Two constants, a unary and a binary functor, and a predicate, which is passed over.
example : drill_terms (functor 0 ∷ functor 1 ∷ predicate 1 ∷ functor 0 ∷ functor 2 ∷ []) 3
    ≡ (0 ∷ []) ∷ (3 ∷ []) ∷ (1 ∷ 0 ∷ []) ∷ (1 ∷ 3 ∷ []) ∷ (1 ∷ 1 ∷ 0 ∷ []) ∷ (1 ∷ 1 ∷ 3 ∷ []) ∷ (4 ∷ 0 ∷ 0 ∷ []) ∷ (4 ∷ 0 ∷ 3 ∷ []) ∷ (4 ∷ 3 ∷ 0 ∷ []) ∷ (4 ∷ 3 ∷ 3 ∷ []) ∷ []
unfolding with_first fillings terms_from drill_terms
example = refl
