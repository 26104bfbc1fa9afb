-- Unification is sound: it fails only where no filling makes the equations true, and where it succeeds the fillings that do are those that
-- agree with its eliminations. That it does come to an end is `unify-found`.
use Prim.Native.Nat.{ℕ, zero, suc}
use mathlib.Core.Path.{◌≡◌, refl, sym, ◌∙◌, ap, ap₂, subst}
use mathlib.Core.Logic.{dite, ◌↔◌}
use native.Mathlib.Decide.{ℕ_discrete}
use native.Mathlib.Omega.{arith}
use Rattle.rules.specs.Terms.{Term, Terms, var, app, nil, cons, subs, occ, occs, sizes, ◌+++◌, count}
use Rattle.rules.specs.Unification.{Substitution, done, bind, applys, Unification, fails, spent, solved, tick, bound, unify_front, unify_step, unify_round, unify_within, unify}
use Rattle.rules.specs.Meaning.{Inds, node, inil, icons, Filling, eval, evals}
use Rattle.rules.proofs.TermLaws.{occ-other}
use Rattle.rules.proofs.Values.{assign, assign-at, assign-free, assign-same, subs-eval, occurs-check}

-- The equations are true under ν.
abbrev pub Solves : Filling → Terms → Terms → Type 0
Solves ν l r = evals ν l ≡ evals ν r

-- No filling makes the equations true.
abbrev pub Unsolvable : Terms → Terms → Type 0
Unsolvable l r = (ν : Filling) → ¬ Solves ν l r

-- ν gives each eliminated variable the value of its term.
abbrev pub Agrees : Filling → Substitution → Type 0
Agrees ν done = Unit {0}
Agrees ν (bind x s es) = (ν x ≡ eval ν s) × Agrees ν es

-- ν, changed so that it does.
abbrev pub extend : Substitution → Filling → Filling
extend done ν = ν
extend (bind x s es) ν = assign (extend es ν) x (eval (extend es ν) s)

pub extend_same : (ν : Filling) (es : Substitution) → Agrees ν es → extend es ν ≡ ν
extend_same ν done h = refl
extend_same ν (bind x s es) h =
    let e : extend es ν ≡ ν = extend_same ν es h.1 in
    ap (λ (μ : Filling). assign μ x (eval μ s)) e ∙ assign-same ν x (eval ν s) h.0

-- The value of terms after a substitution is their value under the changed filling.
pub applys-eval : (ν : Filling) (es : Substitution) (ts : Terms) → evals ν (applys es ts) ≡ evals (extend es ν) ts
applys-eval ν done ts = refl
applys-eval ν (bind x s es) ts = applys-eval ν es (subs x s ts) ∙ subs-eval (extend es ν) x s ts

-- What an outcome says of the equations. Where a bound is spent it says nothing.
abbrev Sound : Terms → Terms → Unification → Type 0
Sound l r (fails k) = Unsolvable l r
Sound l r spent = Unit {0}
Sound l r (solved k es) = ((ν : Filling) → Solves ν l r → Agrees ν es) × ((ν : Filling) → Solves (extend es ν) l r)

-- An outcome for equations with the same solutions; the count is free.
abbrev Same : Terms → Terms → Terms → Terms → Type 0
Same l r l' r' = (ν : Filling) → Solves ν l r ↔ Solves ν l' r'

sound-same : (l r l' r' : Terms) → Same l r l' r' → (o : Unification) → Sound l' r' o → Sound l r o
sound-same l r l' r' q (fails k) h = λ ν e. h ν ((q ν).0 e)
sound-same l r l' r' q spent h = tt
sound-same l r l' r' q (solved k es) h = (λ ν e. h.0 ν ((q ν).0 e), λ ν. (q (extend es ν)).1 (h.1 ν))

sound-tick : (l r l' r' : Terms) → Same l r l' r' → (o : Unification) → Sound l' r' o → Sound l r (tick o)
sound-tick l r l' r' q (fails k) h = sound-same l r l' r' q (fails k) h
sound-tick l r l' r' q spent h = tt
sound-tick l r l' r' q (solved k es) h = sound-same l r l' r' q (solved k es) h

swap : (l r : Terms) → Same l r r l
swap l r ν = (sym, sym)

-- An elimination.
module _ (x : ℕ) (s : Term) (free : occ x s ≡ 0) (l r : Terms) where
  after : (ν : Filling) → Solves ν (cons (var x) l) (cons s r) → (ν x ≡ eval ν s) × Solves ν (subs x s l) (subs x s r)
  after ν e =
      let h : ν x ≡ eval ν s = cc in
      let t : evals ν l ≡ evals ν r = cc in
      let k : assign ν x (eval ν s) ≡ ν = assign-same ν x (eval ν s) h in
      (h, subs-eval ν x s l ∙ ap (λ (μ : Filling). evals μ l) k ∙ t ∙ ap (λ (μ : Filling). evals μ r) (sym k) ∙ sym (subs-eval ν x s r))

  sound-bound : (o : Unification) → Sound (subs x s l) (subs x s r) o → Sound (cons (var x) l) (cons s r) (bound x s o)
  sound-bound (fails k) h = λ ν e. h ν (after ν e).1
  sound-bound spent h = tt
  sound-bound (solved k es) h = (λ ν e. let a = after ν e in (a.0, h.0 ν a.1), λ ν. ap₂ icons (first (extend es ν)) (rest ν))
    where
      first : (μ : Filling) → assign μ x (eval μ s) x ≡ eval (assign μ x (eval μ s)) s
      first μ = assign-at μ x (eval μ s) ∙ sym (assign-free μ x s free)

      rest : (ν : Filling) → Solves (extend (bind x s es) ν) l r
      rest ν = sym (subs-eval (extend es ν) x s l) ∙ h.1 ν ∙ subs-eval (extend es ν) x s r

  sound-bound' : (o : Unification) → Sound (subs x s r) (subs x s l) o → Sound (cons s r) (cons (var x) l) (bound x s o)
  sound-bound' o h = sound-same (cons s r) (cons (var x) l) (cons (var x) l) (cons s r) (swap (cons s r) (cons (var x) l)) (bound x s o) (sound-bound o (sound-same (subs x s l) (subs x s r) (subs x s r) (subs x s l) (swap (subs x s l) (subs x s r)) o h))

-- The same variable on both sides.
same-variable : (x y : ℕ) → x ≡ y → (l r : Terms) → Same (cons (var x) l) (cons (var y) r) l r
same-variable x y e l r ν = ((λ h. cc), (λ h. ap₂ icons (ap ν e) h))

-- Arguments paired and put to the front.
abbrev many : Inds → ℕ
many inil = 0
many (icons u us) = suc (many us)

many-evals : (ν : Filling) (ts : Terms) → many (evals ν ts) ≡ count ts
many-evals ν nil = refl
many-evals ν (cons t ts) = ap suc (many-evals ν ts)

same_count : (ν : Filling) (us vs : Terms) → Solves ν us vs → count us ≡ count vs
same_count ν us vs e = sym (many-evals ν us) ∙ ap many e ∙ many-evals ν vs

module _ (ν : Filling) (l r : Terms) where
  split : (us vs : Terms) → count us ≡ count vs → Solves ν (us +++ l) (vs +++ r) → Solves ν us vs × Solves ν l r
  split nil nil c e = (refl, e)
  split nil (cons v vs) c e = absurd (omega arith)
  split (cons u us) nil c e = absurd (omega arith)
  split (cons u us) (cons v vs) c e =
      let a : eval ν u ≡ eval ν v = cc in
      let b : Solves ν (us +++ l) (vs +++ r) = cc in
      let h = split us vs (omega arith) b in
      (ap₂ icons a h.0, h.1)

  rejoin : (us vs : Terms) → Solves ν us vs → Solves ν l r → Solves ν (us +++ l) (vs +++ r)
  rejoin nil nil e q = q
  rejoin nil (cons v vs) e q = cc
  rejoin (cons u us) nil e q = cc
  rejoin (cons u us) (cons v vs) e q = ap₂ icons (cc) (rejoin us vs (cc) q)

same_args : (f g : ℕ) → f ≡ g → (us vs l r : Terms) → count us ≡ count vs → Same (cons (app f us) l) (cons (app g vs) r) (us +++ l) (vs +++ r)
same_args f g p us vs l r c ν = (
  (λ e. rejoin ν l r us vs (cc) (cc)),
  (λ e. let h = split ν l r us vs c e in ap₂ icons (ap₂ node p h.0) h.1),
)

-- A variable and a term that contains it; functors that differ; arguments of different number.
contained : (x f : ℕ) (ts l r : Terms) → ¬ (occs x ts ≡ 0) → Unsolvable (cons (var x) l) (cons (app f ts) r)
contained x f ts l r q ν e = occurs-check ν x f ts (omega arith) (cc)

contained' : (x f : ℕ) (ts l r : Terms) → ¬ (occs x ts ≡ 0) → Unsolvable (cons (app f ts) l) (cons (var x) r)
contained' x f ts l r q ν e = contained x f ts r l q ν (sym e)

different : (f g : ℕ) (us vs l r : Terms) → ¬ (f ≡ g) → Unsolvable (cons (app f us) l) (cons (app g vs) r)
different f g us vs l r q ν e = q (cc)

uneven : (f g : ℕ) (us vs l r : Terms) → ¬ (count us ≡ count vs) → Unsolvable (cons (app f us) l) (cons (app g vs) r)
uneven f g us vs l r q ν e = q (same_count ν us vs (cc))

-- The steps, from what is known of `next` and `shorter`.
abbrev AllSound : (Terms → Terms → Unification) → Type 0
AllSound f = (l r : Terms) → Sound l r (f l r)

by-case : {P : Type 0} (l r : Terms) (d : Dec P) (a b : Unification) → (P → Sound l r a) → (¬ P → Sound l r b) → Sound l r (dite d (λ _. a) (λ _. b))
by-case l r (yes p) a b f g = f p
by-case l r (no n) a b f g = g n

module _ (next shorter : Terms → Terms → Unification) (next-sound : AllSound next) (shorter-sound : AllSound shorter) where
  front-sound : (a b : Term) (l r : Terms) → Sound (cons a l) (cons b r) (unify_front next shorter a b l r)
  unfolding unify_front
  front-sound (var x) (var y) l r = by-case (cons (var x) l) (cons (var y) r) (ℕ_discrete x y) _ _
      (λ e. sound-tick (cons (var x) l) (cons (var y) r) l r (same-variable x y e l r) (shorter l r) (shorter-sound l r))
      (λ q. sound-bound x (var y) (occ-other x y q) l r (next (subs x (var y) l) (subs x (var y) r)) (next-sound _ _))
  front-sound (var x) (app g vs) l r = by-case (cons (var x) l) (cons (app g vs) r) (ℕ_discrete (occs x vs) 0) _ _
      (λ e. sound-bound x (app g vs) e l r (next (subs x (app g vs) l) (subs x (app g vs) r)) (next-sound _ _))
      (λ q. contained x g vs l r q)
  front-sound (app f us) (var y) l r = by-case (cons (app f us) l) (cons (var y) r) (ℕ_discrete (occs y us) 0) _ _
      (λ e. sound-bound' y (app f us) e r l (next (subs y (app f us) l) (subs y (app f us) r)) (next-sound _ _))
      (λ q. contained' y f us l r q)
  front-sound (app f us) (app g vs) l r = by-case (cons (app f us) l) (cons (app g vs) r) (ℕ_discrete f g) _ _
      (λ e. by-case (cons (app f us) l) (cons (app g vs) r) (ℕ_discrete (count us) (count vs)) _ _
      (λ c. sound-tick (cons (app f us) l) (cons (app g vs) r) (us +++ l) (vs +++ r) (same_args f g e us vs l r c) (shorter (us +++ l) (vs +++ r)) (shorter-sound _ _))
      (λ q. uneven f g us vs l r q))
      (λ q. different f g us vs l r q)

  step-sound : AllSound (unify_step next shorter)
  unfolding unify_step
  step-sound nil nil = (λ ν e. tt, λ ν. refl)
  step-sound nil (cons b r) = λ ν e. (let z : ◌≡◌ {A = ℕ} 0 1 = cc in omega arith)
  step-sound (cons a l) nil = λ ν e. (let z : ◌≡◌ {A = ℕ} 0 1 = cc in omega arith)
  step-sound (cons a l) (cons b r) = front-sound a b l r

round-sound : (next : Terms → Terms → Unification) → AllSound next → (k : ℕ) → AllSound (unify_round next k)
unfolding unify_round
round-sound next n zero l r = tt
round-sound next n (suc k) l r = step-sound next (unify_round next k) n (round-sound next n k) l r

within-sound : (n : ℕ) → AllSound (unify_within n)
unfolding unify_within
within-sound zero l r = round-sound (λ l' r'. spent) (λ l' r'. tt) (suc (sizes l)) l r
within-sound (suc n) l r = round-sound (unify_within n) (within-sound n) (suc (sizes l)) l r

unify-sound : AllSound unify
unfolding unify
unify-sound l r = within-sound _ l r

-- A failed unification has no solution.
pub unify-fails : (l r : Terms) (k : ℕ) → unify l r ≡ fails k → Unsolvable l r
unify-fails l r k e = subst (Sound l r) e (unify-sound l r)

-- The solutions of a successful one are the fillings that agree with the eliminations.
pub unify-solves : (l r : Terms) (k : ℕ) (es : Substitution) → unify l r ≡ solved k es → (ν : Filling) → Solves ν l r ↔ Agrees ν es
unify-solves l r k es e ν =
    let h : Sound l r (solved k es) = subst (Sound l r) e (unify-sound l r) in
    (h.0 ν, λ a. subst (λ (μ : Filling). Solves μ l r) (extend_same ν es a) (h.1 ν))

-- Every filling extends to one, under which a term has the value that it has, all substituted, under ν (`applys-eval`).
pub unify-extends : (l r : Terms) (k : ℕ) (es : Substitution) → unify l r ≡ solved k es → (ν : Filling) → Solves (extend es ν) l r
unify-extends l r k es e ν = let h : Sound l r (solved k es) = subst (Sound l r) e (unify-sound l r) in h.1 ν
