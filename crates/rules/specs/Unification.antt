-- Unification, which document 01 calls matching ("Goals"): equations from the front of a list, held as two lists of terms of which
-- the first two are paired, then the second two, and so on.
use Rattle.std.specs.Prelude.{ℕ, zero, suc, max}
use Rattle.std.proofs.Math.Logic.{dite}
use Rattle.std.proofs.Math.Decide.{ℕ_discrete}
use Rattle.rules.specs.Terms.{Term, var, app, Terms, nil, cons, ◌+++◌, count, sizes, occs, tops, sub, subs}

-- A substitution as its eliminations, the first first: the term replaces the variable everywhere, then the others follow.
pub data Substitution : Type 0 where
  done : Substitution
  bind : ℕ → Term → Substitution → Substitution

abbrev pub apply : Substitution → Term → Term
apply done t = t
apply (bind x s es) t = apply es (sub x s t)

abbrev pub applys : Substitution → Terms → Terms
applys done ts = ts
applys (bind x s es) ts = applys es (subs x s ts)

-- One substitution and then another.
abbrev pub join : Substitution → Substitution → Substitution
join done fs = fs
join (bind x s es) fs = bind x s (join es fs)

-- What unification comes to, with the number of equations taken from the list, the failing one included.
-- `spent` is said where a bound of the definition is spent, which does not occur (`unify-unspent`).
pub data Unification : Type 0 where
  fails : ℕ → Unification
  spent : Unification
  solved : ℕ → Substitution → Unification

abbrev pub equations : Unification → ℕ
equations (fails k) = k
equations spent = 0
equations (solved k es) = k

-- One more equation was taken; one more, by which x was bound to s.
abbrev pub tick : Unification → Unification
tick (fails k) = fails (suc k)
tick spent = spent
tick (solved k es) = solved (suc k) es

abbrev pub bound : ℕ → Term → Unification → Unification
bound x s (fails k) = fails (suc k)
bound x s spent = spent
bound x s (solved k es) = solved (suc k) (bind x s es)

-- The first equation. `shorter` unifies without an elimination, `next` after one.
module _ (next shorter : Terms → Terms → Unification) where
  abbrev pub eliminate : ℕ → Term → Terms → Terms → Unification
  eliminate x s l r = bound x s (next (subs x s l) (subs x s r))

  -- The same variable on both sides: dropped. A variable and another term: fails if the term contains the variable (the occurs check),
  -- else the term replaces it everywhere. Two functors: fails if they differ, else their arguments are paired and go to the front in order.
  unfoldable pub unify_front : Term → Term → Terms → Terms → Unification
  unify_front (var x) (var y) l r = dite (ℕ_discrete x y) (λ _. tick (shorter l r)) (λ _. eliminate x (var y) l r)
  unify_front (var x) (app g vs) l r = dite (ℕ_discrete (occs x vs) 0) (λ _. eliminate x (app g vs) l r) (λ _. fails 1)
  unify_front (app f us) (var y) l r = dite (ℕ_discrete (occs y us) 0) (λ _. eliminate y (app f us) l r) (λ _. fails 1)
  unify_front (app f us) (app g vs) l r =
      dite (ℕ_discrete f g) (λ _. dite (ℕ_discrete (count us) (count vs)) (λ _. tick (shorter (us +++ l) (vs +++ r))) (λ _. fails 1)) (λ _. fails 1)

  -- Lists of different length do not occur on an opened deck, nor do equal functors with different numbers of arguments; they fail, so
  -- that the definition is total.
  unfoldable pub unify_step : Terms → Terms → Unification
  unify_step nil nil = solved 0 done
  unify_step nil (cons b r) = fails 0
  unify_step (cons a l) nil = fails 0
  unify_step (cons a l) (cons b r) = unify_front a b l r

-- The number bounds the equations up to the next elimination: each takes a cell from the left sides.
unfoldable pub unify_round : (Terms → Terms → Unification) → ℕ → Terms → Terms → Unification
unify_round next zero l r = spent
unify_round next (suc k) l r = unify_step next (unify_round next k) l r

-- The number bounds the eliminations: each takes a variable from both sides.
unfoldable pub unify_within : ℕ → Terms → Terms → Unification
unify_within zero l r = unify_round (λ l' r'. spent) (suc (sizes l)) l r
unify_within (suc n) l r = unify_round (unify_within n) (suc (sizes l)) l r

unfoldable pub unify : Terms → Terms → Unification
unify l r = unify_within (max (tops l) (tops r)) l r
