-- What bindings stand for, and the stamps of the occurs check. Assumes nothing.
use Rattle.std.specs.Prelude.{ℕ, suc, ◌+◌, ◌-◌, ◌<◌, ◌≤◌, ◌≡◌, Bool, true, false, List, [], ◌∷◌, length, get_or, take, set, Option, Some, None, unwrap_or, is_none, count_by}
use Rattle.std.proofs.Math.Logic.{ite}
use Rattle.std.proofs.Math.Decide.{ℕ_discrete, dec_lt}
use Rattle.rules.specs.Terms.{Term, Terms, var, nil, cons, occ}
use Rattle.rules.specs.Unification.{Substitution, done, bind, apply, applys, join}
use Rattle.matching.specs.Taking.{take_t}
use Rattle.matching.specs.Cells.{from, term_at, Formed}

-- The place of the term that a variable was replaced by, or none, for each variable.
abbrev pub Places : Type 0
Places = List (Option ℕ)

-- the eliminations that the bindings of the variables xs stand for, in order, after `before`
unfoldable pub elims_after : List ℕ → List ℕ → Places → Substitution → List ℕ → Substitution
elims_after ar cells bs before [] = before
elims_after ar cells bs before (x ∷ xs) = elims_after ar cells bs (join before (bind x (apply before (term_at ar cells (unwrap_or (get_or bs x None) 0))) done)) xs

abbrev pub elims : List ℕ → List ℕ → Places → List ℕ → ℕ → Substitution
elims ar cells bs trail n = elims_after ar cells bs done (take n trail)

-- after the eliminations: the term at p; that term alone; the k terms at p
abbrev pub value : List ℕ → List ℕ → Places → List ℕ → ℕ → ℕ → Term
value ar cells bs trail n p = apply (elims ar cells bs trail n) (term_at ar cells p)

abbrev pub alone : List ℕ → List ℕ → Places → List ℕ → ℕ → ℕ → Terms
alone ar cells bs trail n p = cons (value ar cells bs trail n p) nil

abbrev pub seen : List ℕ → List ℕ → Places → List ℕ → ℕ → ℕ → ℕ → Terms
seen ar cells bs trail n p k = applys (elims ar cells bs trail n) (take_t k (from ar cells p))

-- how many of the variables xs are left from v on: 0 where v is none of them
unfoldable pub later : ℕ → List ℕ → ℕ
later v [] = 0
later v (x ∷ xs) = ite (ℕ_discrete v x) (suc (length xs)) (later v xs)

-- how many entries are free
abbrev pub unbound : Places → ℕ
unbound bs = count_by is_none bs

-- The bindings `bs` and the first n variables of `trail` stand for the eliminations `elims ..`:
-- a free variable is not eliminated, a bound one has the term at its entry, and chains of variables go forward in the trail.
pub record Triangular (ar cells : List ℕ) (bs : Places) (trail : List ℕ) (n : ℕ) : Type 0 where
  pub formed : Formed ar cells
  pub named : (p : ℕ) → p < length cells → 32768 ≤ get_or cells p 0 → get_or cells p 0 - 32768 < length bs
  pub narrow : length bs < 65535
  pub room : length bs ≤ length trail
  pub counted : n + unbound bs ≡ length bs
  pub listed : (i : ℕ) → i < n → get_or trail i 0 < length bs
  pub within : (v p : ℕ) → get_or bs v None ≡ Some p → p < length cells
  pub untaken : (v : ℕ) → v < length bs → get_or bs v None ≡ None → later v (take n trail) ≡ 0
  pub taken : (v p : ℕ) → get_or bs v None ≡ Some p → 0 < later v (take n trail)
  pub free : (v : ℕ) → v < length bs → get_or bs v None ≡ None → apply (elims ar cells bs trail n) (var v) ≡ var v
  pub held : (v p : ℕ) → get_or bs v None ≡ Some p → apply (elims ar cells bs trail n) (var v) ≡ value ar cells bs trail n p
  pub forward : (v p : ℕ) → get_or bs v None ≡ Some p → 32768 ≤ get_or cells p 0 → later (get_or cells p 0 - 32768) (take n trail) < later v (take n trail)

-- the variable of a cell was replaced by the term at `place`
pub record BoundTo (bs : Places) (cell place : ℕ) : Type 0 where
  pub variable : 32768 ≤ cell
  pub is : get_or bs (cell - 32768) None ≡ Some place

-- a free variable; a place at which no bound variable stands; the place r of that kind that has the value of p
pub record Free (bs : Places) (v : ℕ) : Type 0 where
  pub inside : v < length bs
  pub open' : get_or bs v None ≡ None

pub record Final (cells : List ℕ) (bs : Places) (p : ℕ) : Type 0 where
  pub inside : p < length cells
  pub open' : 32768 ≤ get_or cells p 0 → get_or bs (get_or cells p 0 - 32768) None ≡ None

pub record Resolved (ar cells : List ℕ) (bs : Places) (trail : List ℕ) (n p r : ℕ) : Type 0 where
  pub final : Final cells bs r
  pub same : value ar cells bs trail n r ≡ value ar cells bs trail n p

-- The bindings are triangular, no stamp is above `top`, and only bound variables are stamped.
pub record State (ar cells : List ℕ) (bs : Places) (trail stamps : List ℕ) (n top : ℕ) : Type 0 where
  pub triangular : Triangular ar cells bs trail n
  pub wide : length bs ≤ length stamps
  pub low : (w : ℕ) → get_or stamps w 0 ≤ top
  pub bound : (w : ℕ) → (get_or stamps w 0 ≡ 0 → ⊥) → get_or bs w None ≡ None → ⊥

-- The same, and at neither of a and b stands a bound variable.
pub record Paired (ar cells : List ℕ) (bs : Places) (trail stamps : List ℕ) (n a b : ℕ) : Type 0 where
  pub state : State ar cells bs trail stamps n n
  pub left : Final cells bs a
  pub right : Final cells bs b

-- In an occurs check for v: a variable with the stamp n + 1 has a value in which v does not occur.
pub record Checking (ar cells : List ℕ) (bs : Places) (trail : List ℕ) (n v : ℕ) (stamps : List ℕ) : Type 0 where
  pub state : State ar cells bs trail stamps n (n + 1)
  pub clean : (w : ℕ) → w < length bs → get_or stamps w 0 ≡ n + 1 → occ v (apply (elims ar cells bs trail n) (var w)) ≡ 0

-- r says whether something occurs that occurs k times
pub record Occurs (k : ℕ) (r : Bool) : Type 0 where
  pub if-so : r ≡ true → 0 < k
  pub if-not : r ≡ false → k ≡ 0

-- the stamps after a cell's variable is stamped, if it is a variable
unfoldable pub stamped : List ℕ → ℕ → ℕ → List ℕ
stamped stamps stamp c = ite (dec_lt c 32768) stamps (set stamps (c - 32768) stamp)

-- no variable is bound, and none is stamped
pub record NoBindings (bs : Places) (stamps : List ℕ) : Type 0 where
  pub free : (v : ℕ) → get_or bs v None ≡ None
  pub unstamped : (w : ℕ) → get_or stamps w 0 ≡ 0

-- the first n variables of the trail are all that are bound, and so all that are stamped
pub record Trailed (bs : Places) (trail stamps : List ℕ) (n : ℕ) : Type 0 where
  pub within : n ≤ length trail
  pub wide : length bs ≤ length stamps
  pub listed : (i : ℕ) → i < n → get_or trail i 0 < length bs
  pub taken : (v p : ℕ) → get_or bs v None ≡ Some p → 0 < later v (take n trail)
  pub bound : (w : ℕ) → (get_or stamps w 0 ≡ 0 → ⊥) → get_or bs w None ≡ None → ⊥

-- cells over nv variables, and room for as many in the trail and the stamps
pub record Ready (ar cells : List ℕ) (nv room stamps : ℕ) : Type 0 where
  pub formed : Formed ar cells
  pub named : (p : ℕ) → p < length cells → 32768 ≤ get_or cells p 0 → get_or cells p 0 - 32768 < nv
  pub narrow : nv < 65535
  pub trailed : nv ≤ room
  pub wide : nv ≤ stamps
