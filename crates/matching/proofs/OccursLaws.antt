-- The occurs check: what a term's parts say of it, and its stamps. Assumes nothing.
use mathlib.Core.Path.{◌≡◌, refl, sym, ◌∙◌, ap}
use mathlib.Core.Bool.{Bool, true, false}
use mathlib.Core.Logic.{ite}
use mathlib.Core.List.{List}
use Prim.Native.Nat.{ℕ, zero, suc, ◌+◌, ◌-◌, ◌*◌, ◌≤◌, ◌<◌}
use native.Mathlib.Decide.{ℕ_discrete, dec_lt}
use native.Mathlib.Omega.{arith}
use lib.ListN.{length, get_or, set, length-set}
use lib.Seq.{get_or-set_same, get_or-set_other}
use lib.Dec.{eqb}
use borrow.Author.Tests.{eqb-true, eqb-false}
use Rattle.rules.specs.Terms.{Terms, var, app, cons, occ, occs, size, sizes, count}
use Rattle.rules.specs.Unification.{Substitution, apply, applys}
use Rattle.rules.proofs.TermLaws.{applys-nil, size-pos, occ-same, occ-other}
use Rattle.matching.specs.Taking.{take_t}
use Rattle.matching.specs.Cells.{args_of, from, RestAt}
use Rattle.std.specs.Prelude.{None}
use Rattle.matching.specs.Bindings.{Places, elims, value, seen, Resolved, State, Checking, Occurs, stamped}
use Rattle.matching.proofs.CellLaws.{term_at-var}
use Rattle.matching.proofs.SeenLaws.{first_of, open-var, open-functor, resolved-bound}

-- 1. Answers.

occurs-yes : {k : ℕ} → 0 < k → Occurs k true
occurs-yes h = record { if-so = λ _. h; if-not = λ z. absurd (let y : ◌≡◌ {A = ℕ} 0 1 = cc in omega arith) }

occurs-not : {k : ℕ} → k ≡ 0 → Occurs k false
occurs-not h = record { if-so = λ z. absurd (let y : ◌≡◌ {A = ℕ} 0 1 = cc in omega arith); if-not = λ _. h }

pub occurs-none : (v : ℕ) (es : Substitution) (k : ℕ) (ts : Terms) → k ≡ 0 → Occurs (occs v (applys es (take_t k ts))) false
occurs-none v es zero ts e = occurs-not (rw applys-nil)
occurs-none v es (suc k) ts e = absurd (omega arith)

-- 2. One term, by what stands at the place that it resolves to.
module _ {ar cells : List ℕ} {bs : Places} {trail stamps : List ℕ} {n v : ℕ} (c : Checking ar cells bs trail n v stamps) {p at : ℕ} (r : Resolved ar cells bs trail n p at) where
  occurs-variable : 32768 ≤ get_or cells at 0 → get_or cells at 0 - 32768 ≡ v → Occurs (occ v (value ar cells bs trail n p)) true
  occurs-variable l e = occurs-yes (omega (arith, ap (occ v) (sym r.same ∙ open-var c.state.triangular r.final l), ap (λ w. occ v (var w)) e, occ-same v))

  occurs-other : 32768 ≤ get_or cells at 0 → (get_or cells at 0 - 32768 ≡ v → ⊥) → Occurs (occ v (value ar cells bs trail n p)) false
  occurs-other l q = occurs-not (ap (occ v) (sym r.same ∙ open-var c.state.triangular r.final l) ∙ occ-other v _ (λ h. q (sym h)))

  pub occurs-cell : 32768 ≤ get_or cells at 0 → Occurs (occ v (value ar cells bs trail n p)) (eqb (get_or cells at 0 - 32768) v)
  occurs-cell l = go (eqb (get_or cells at 0 - 32768) v) refl
    where
      go : (b : Bool) → eqb (get_or cells at 0 - 32768) v ≡ b → Occurs (occ v (value ar cells bs trail n p)) b
      go true e = occurs-variable l (eqb-true (get_or cells at 0 - 32768) v e)
      go false e = occurs-other l (eqb-false (get_or cells at 0 - 32768) v e)

  module _ {a : ℕ} (e : a ≡ args_of ar (get_or cells at 0)) (l : get_or cells at 0 < 32768) where
    by_args : value ar cells bs trail n p ≡ app (get_or cells at 0) (seen ar cells bs trail n (at + 1) a)
    by_args = sym r.same ∙ open-functor c.state.triangular a e r.final l

    -- as its arguments say
    pub occurs-args : {b : Bool} → Occurs (occs v (seen ar cells bs trail n (at + 1) a)) b → Occurs (occ v (value ar cells bs trail n p)) b
    occurs-args o = rw by_args o

    pub args-smaller : 2 * sizes (seen ar cells bs trail n (at + 1) a) + 1 < 2 * size (value ar cells bs trail n p)
    args-smaller = omega (arith, ap size by_args)

-- 3. The first of the k terms at p, and the others.
module _ {ar cells : List ℕ} {bs : Places} {trail stamps : List ℕ} {n v : ℕ} (c : Checking ar cells bs trail n v stamps) (p k : ℕ) (pos : k ≡ 0 → ⊥) (le : k ≤ count (from ar cells p)) where
  pub any-first : Occurs (occ v (value ar cells bs trail n p)) true → Occurs (occs v (seen ar cells bs trail n p k)) true
  any-first o = occurs-yes (rw (first_of ar cells p k pos le (elims ar cells bs trail n)) (omega (arith, o.if-so refl)))

  pub first-smaller : 2 * size (value ar cells bs trail n p) < 2 * sizes (seen ar cells bs trail n p k) + 1
  first-smaller = omega (arith, ap sizes (first_of ar cells p k pos le (elims ar cells bs trail n)))

  module _ {r : ℕ} (s : RestAt ar cells p k r) where
    by_next : seen ar cells bs trail n p k ≡ cons (value ar cells bs trail n p) (seen ar cells bs trail n r (k - 1))
    by_next = rw s.same (first_of ar cells p k pos le (elims ar cells bs trail n))

    pub any-others : {b : Bool} → Occurs (occ v (value ar cells bs trail n p)) false → Occurs (occs v (seen ar cells bs trail n r (k - 1))) b → Occurs (occs v (seen ar cells bs trail n p k)) b
    any-others o w = rw by_next (record { if-so = λ z. omega (arith, w.if-so z); if-not = λ z. omega (arith, o.if-not refl, w.if-not z) })

    pub others-smaller : 2 * sizes (seen ar cells bs trail n r (k - 1)) + 1 < 2 * sizes (seen ar cells bs trail n p k) + 1
    others-smaller = omega (arith, ap sizes by_next, size-pos (value ar cells bs trail n p))

pub occurs-by : {k : ℕ} {b b' : Bool} → Occurs k b → b ≡ b' → Occurs k b'
occurs-by o e = rw e at o

-- 4. Stamps.
module _ {ar cells : List ℕ} {bs : Places} {trail stamps : List ℕ} {n : ℕ} where
  pub checking-start : (v : ℕ) → State ar cells bs trail stamps n n → Checking ar cells bs trail n v stamps
  checking-start v s = record {
    state = record { triangular = s.triangular; wide = s.wide; low = λ w. omega (arith, s.low w); bound = s.bound };
    clean = λ w l e. absurd (omega (arith, s.low w));
  }

  pub stamp-fits : {v : ℕ} → Checking ar cells bs trail n v stamps → n + 1 < 65536
  stamp-fits c = omega (arith, c.state.triangular.counted, c.state.triangular.narrow)

  module _ {v : ℕ} (c : Checking ar cells bs trail n v stamps) {p : ℕ} (inside : p < length cells) where
    pub stamp-index : 32768 ≤ get_or cells p 0 → get_or cells p 0 - 32768 < length stamps
    stamp-index l = omega (arith, c.state.triangular.named p inside l, c.state.wide)

    -- a stamped variable's value does not have v
    pub stamped-away : (32768 ≤ get_or cells p 0) × (get_or stamps (get_or cells p 0 - 32768) 0 ≡ n + 1) → Occurs (occ v (value ar cells bs trail n p)) false
    stamped-away h = occurs-not (ap (λ t. occ v (apply (elims ar cells bs trail n) t)) (term_at-var ar cells p inside h.0) ∙ c.clean _ (c.state.triangular.named p inside h.0) h.1)

    -- stamping a variable whose value is a functor's and does not have v
    module _ {at : ℕ} (r : Resolved ar cells bs trail n p at) (f : get_or cells at 0 < 32768) (away : occ v (value ar cells bs trail n p) ≡ 0) where
      -- the variable u at p
      module _ (l : 32768 ≤ get_or cells p 0) (u : ℕ) (eu : get_or cells p 0 - 32768 ≡ u) where
        here : {w : ℕ} → w ≡ u → get_or (set stamps u (n + 1)) w 0 ≡ n + 1
        here e = rw (e, get_or-set_same stamps u (n + 1) 0 (rw eu at (stamp-index l)))

        there : {w : ℕ} → (w ≡ u → ⊥) → get_or (set stamps u (n + 1)) w 0 ≡ get_or stamps w 0
        there {w} q = get_or-set_other stamps u w (n + 1) 0 q

        low' : (w : ℕ) → get_or (set stamps u (n + 1)) w 0 ≤ n + 1
        low' w = elim (ℕ_discrete w u) [ yes e ↦ omega (arith, here e) | no q ↦ omega (arith, there q, c.state.low w) ]

        bound' : (w : ℕ) → (get_or (set stamps u (n + 1)) w 0 ≡ 0 → ⊥) → get_or bs w None ≡ None → ⊥
        bound' w h = elim (ℕ_discrete w u) [
          | yes e ↦ rw (e, ← eu) (resolved-bound c.state.triangular inside l r f)
          | no q ↦ c.state.bound w (λ z. h (there q ∙ z))
        ]

        clean' : (w : ℕ) → w < length bs → get_or (set stamps u (n + 1)) w 0 ≡ n + 1 → occ v (apply (elims ar cells bs trail n) (var w)) ≡ 0
        clean' w lw h = elim (ℕ_discrete w u) [
          | yes e ↦ rw (e, ← eu, ← term_at-var ar cells p inside l) away
          | no q ↦ c.clean w lw (sym (there q) ∙ h)
        ]

        stamped-variable : Checking ar cells bs trail n v (set stamps u (n + 1))
        stamped-variable = record { state = record { triangular = c.state.triangular; wide = rw length-set c.state.wide; low = low'; bound = bound' }; clean = clean' }

      pub stamped_more : {stamps' : List ℕ} → stamps' ≡ stamped stamps (n + 1) (get_or cells p 0) → Checking ar cells bs trail n v stamps'
      unfolding stamped
      stamped_more e = rw e (cases (dec_lt (get_or cells p 0) 32768))
        where
          cases : (d : Dec (get_or cells p 0 < 32768)) → Checking ar cells bs trail n v (ite d stamps (set stamps (get_or cells p 0 - 32768) (n + 1)))
          cases (yes l) = c
          cases (no q) = stamped-variable (omega arith) (get_or cells p 0 - 32768) refl
