-- Following bindings, and the terms that cells stand for after the eliminations. Assumes nothing.
use mathlib.Core.Path.{◌≡◌, refl, sym, ◌∙◌, ap, ap₂}
use mathlib.Core.Logic.{ite}
use mathlib.Core.List.{List}
use Prim.Native.Nat.{ℕ, suc, ◌+◌, ◌-◌, ◌≤◌, ◌<◌}
use native.Mathlib.Decide.{dec_lt}
use native.Mathlib.Omega.{arith}
use native.Mathlib.Numerals.{add-one}
use lib.ListN.{length, get_or, take}
use Rattle.rules.specs.Terms.{var, app, cons, count}
use Rattle.rules.specs.Unification.{Substitution, apply, applys}
use Rattle.rules.proofs.TermLaws.{ite-yes, ite-no, applys-cons, apply-app}
use Rattle.matching.specs.Taking.{take_t}
use Rattle.matching.specs.Cells.{args_of, from, term_at, others}
use Rattle.std.specs.Prelude.{Some, None}
use Rattle.matching.specs.Bindings.{Places, elims, value, seen, later, Triangular, Free, Final, BoundTo, Resolved}
use Rattle.matching.proofs.CellLaws.{from-inside, from_cons, term_at-functor, term_at-var}
use Rattle.matching.proofs.TrailLaws.{is-none}

-- how far a cell is from the end of its chain
pub rank : List ℕ → ℕ → ℕ
rank xs c = ite (dec_lt c 32768) 0 (later (c - 32768) xs)

rank-functor : (xs : List ℕ) (c : ℕ) → c < 32768 → rank xs c ≡ 0
unfolding rank
rank-functor xs c h = ite-yes (dec_lt c 32768) _ _ h

rank-var : (xs : List ℕ) (c : ℕ) → 32768 ≤ c → rank xs c ≡ later (c - 32768) xs
unfolding rank
rank-var xs c h = ite-no (dec_lt c 32768) _ _ (λ l. omega arith)

-- `at` has the value of p
pub record Resolving (ar cells : List ℕ) (bs : Places) (trail : List ℕ) (n p at : ℕ) : Type 0 where
  pub inside : at < length cells
  pub same : value ar cells bs trail n at ≡ value ar cells bs trail n p

-- the end of a chain
module _ {ar cells : List ℕ} {bs : Places} {trail : List ℕ} {n p at : ℕ} (r : Resolving ar cells bs trail n p at) where
  pub resolved : (32768 ≤ get_or cells at 0 → get_or bs (get_or cells at 0 - 32768) None ≡ None) → Resolved ar cells bs trail n p at
  resolved h = record { final = record { inside = r.inside; open' = h }; same = r.same }

  -- the same where its variable v has no place
  pub resolved-free : {v : ℕ} → v ≡ get_or cells at 0 - 32768 → ((place : ℕ) → get_or bs v None ≡ Some place → ⊥) → Resolved ar cells bs trail n p at
  resolved-free e h = resolved (λ _. rw e at (is-none _ h))

-- following a bound variable
pub bound-to : {bs : Places} {cell v place : ℕ} → 32768 ≤ cell → v ≡ cell - 32768 → get_or bs v None ≡ Some place → BoundTo bs cell place
bound-to l e h = record { variable = l; is = rw e at h }

module _ {ar cells : List ℕ} {bs : Places} {trail : List ℕ} {n p at : ℕ} (g : Triangular ar cells bs trail n) (r : Resolving ar cells bs trail n p at) {place : ℕ} (to : BoundTo bs (get_or cells at 0) place) where
  abbrev l : 32768 ≤ get_or cells at 0
  l = to.variable

  pub resolving-more : Resolving ar cells bs trail n p place
  resolving-more = record {
    inside = g.within _ place to.is;
    same = sym (g.held _ place to.is) ∙ ap (apply (elims ar cells bs trail n)) (sym (term_at-var ar cells at r.inside l)) ∙ r.same;
  }

  pub resolving-less : rank (take n trail) (get_or cells place 0) < rank (take n trail) (get_or cells at 0)
  resolving-less = cases (dec_lt (get_or cells place 0) 32768)
    where
      cases : Dec (get_or cells place 0 < 32768) → rank (take n trail) (get_or cells place 0) < rank (take n trail) (get_or cells at 0)
      cases (yes h) = omega (arith, rank-functor (take n trail) (get_or cells place 0) h, rank-var (take n trail) (get_or cells at 0) l, g.taken _ place to.is)
      cases (no h) = omega (arith, rank-var (take n trail) (get_or cells place 0) (omega arith), rank-var (take n trail) (get_or cells at 0) l, g.forward _ place to.is (omega arith))

-- The first of the k terms at p, and the others.
module _ (ar cells : List ℕ) (p k : ℕ) (pos : k ≡ 0 → ⊥) (le : k ≤ count (from ar cells p)) where
  pub first-inside : p < length cells
  first-inside = from-inside ar cells p (omega arith)

  pub first_of : (es : Substitution) → applys es (take_t k (from ar cells p)) ≡ cons (apply es (term_at ar cells p)) (applys es (others ar cells p k))
  first_of es =
      let e : k ≡ suc (k - 1) = omega arith in
      ap₂ (λ i ts. applys es (take_t i ts)) e (from_cons ar cells p first-inside) ∙ applys-cons es (term_at ar cells p) (others ar cells p k)

-- The same by the place `at` that p resolves to.
pub record Opened (ar cells : List ℕ) (bs : Places) (trail : List ℕ) (n p k at : ℕ) : Type 0 where
  pub final : Final cells bs at
  pub same : value ar cells bs trail n at ≡ value ar cells bs trail n p
  pub split : seen ar cells bs trail n p k ≡ cons (value ar cells bs trail n at) (applys (elims ar cells bs trail n) (others ar cells p k))

module _ {ar cells : List ℕ} {bs : Places} {trail : List ℕ} {n p k at : ℕ} where
  pub opened : (k ≡ 0 → ⊥) → k ≤ count (from ar cells p) → Resolved ar cells bs trail n p at → Opened ar cells bs trail n p k at
  opened pos le r = record { final = r.final; same = r.same; split = rw r.same (first_of ar cells p k pos le (elims ar cells bs trail n)) }

module _ {ar cells : List ℕ} {bs : Places} {trail : List ℕ} {n : ℕ} (g : Triangular ar cells bs trail n) where
  -- a free variable, and a functor with its arguments
  pub open-var : {at : ℕ} → Final cells bs at → 32768 ≤ get_or cells at 0 → value ar cells bs trail n at ≡ var (get_or cells at 0 - 32768)
  open-var {at} f l = ap (apply (elims ar cells bs trail n)) (term_at-var ar cells at f.inside l) ∙ g.free _ (g.named at f.inside l) (f.open' l)

  pub open-functor : {at : ℕ} (a : ℕ) → a ≡ args_of ar (get_or cells at 0) → Final cells bs at → get_or cells at 0 < 32768 → value ar cells bs trail n at ≡ app (get_or cells at 0) (seen ar cells bs trail n (at + 1) a)
  open-functor {at} a e f l = rw (e, add-one) (ap (apply (elims ar cells bs trail n)) (term_at-functor ar cells at f.inside l) ∙ apply-app (elims ar cells bs trail n) (get_or cells at 0) (take_t (args_of ar (get_or cells at 0)) (from ar cells (suc at))))

  -- the arguments of a functor are there
  pub args-enough : {at : ℕ} (a : ℕ) → a ≡ args_of ar (get_or cells at 0) → Final cells bs at → a ≤ count (from ar cells (at + 1))
  args-enough {at} a e f = rw (e, add-one) (g.formed.whole at f.inside)

  pub final-free : {at : ℕ} → Final cells bs at → 32768 ≤ get_or cells at 0 → Free bs (get_or cells at 0 - 32768)
  final-free {at} f l = record { inside = g.named at f.inside l; open' = f.open' l }

  -- a variable with a functor's value is bound
  pub resolved-bound : {p at : ℕ} → p < length cells → 32768 ≤ get_or cells p 0 → Resolved ar cells bs trail n p at → get_or cells at 0 < 32768 → get_or bs (get_or cells p 0 - 32768) None ≡ None → ⊥
  resolved-bound {p} {at} i v r l b =
      let e : app (get_or cells at 0) (seen ar cells bs trail n (at + 1) (args_of ar (get_or cells at 0))) ≡ var (get_or cells p 0 - 32768) = sym (open-functor _ refl r.final l) ∙ r.same ∙ open-var (record { inside = i; open' = λ _. b }) v in
      let z : ◌≡◌ {A = ℕ} 0 1 = cc in
      omega arith

-- for a measure, which is t
pub below : {a b t : ℕ} → b ≡ t → a < b → a < t
below e h = omega arith
