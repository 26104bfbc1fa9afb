-- Laws of terms and of substitutions.
use mathlib.Core.Path.{◌≡◌, refl, ◌∙◌, ap, ap₂}
use mathlib.Core.Logic.{ite, dite, ◌≢◌}
use Prim.Native.Nat.{ℕ, suc, ◌+◌, max, ◌≤◌, ◌<◌}
use native.Mathlib.Decide.{ℕ_discrete}
use native.Mathlib.Omega.{arith}
use Rattle.rules.specs.Terms.{Term, Terms, var, app, nil, cons, sub, subs, occ, occs, size, sizes, top, tops, ◌+++◌, count}
use Rattle.rules.specs.Unification.{Substitution, done, bind, apply, applys}
pub use Rattle.rules.specs.Unification.{join}

pub ite-yes : {P X : Type 0} (d : Dec P) (a b : X) → P → ite d a b ≡ a
ite-yes (yes p) a b h = refl
ite-yes (no n) a b h = absurd (n h)

pub ite-no : {P X : Type 0} (d : Dec P) (a b : X) → (P → ⊥) → ite d a b ≡ b
ite-no (yes p) a b h = absurd (h p)
ite-no (no n) a b h = refl

pub dite-yes : {P X : Type 0} (d : Dec P) (a b : X) → P → dite d (λ _. a) (λ _. b) ≡ a
dite-yes (yes p) a b h = refl
dite-yes (no n) a b h = absurd (n h)

pub dite-no : {P X : Type 0} (d : Dec P) (a b : X) → (P → ⊥) → dite d (λ _. a) (λ _. b) ≡ b
dite-no (yes p) a b h = absurd (h p)
dite-no (no n) a b h = refl

-- What holds either way holds of the choice; what relates each two of two choices relates the choices.
pub dite-both : {P X : Type 0} (Q : X → Type 0) (d : Dec P) (a b : X) → (P → Q a) → ((P → ⊥) → Q b) → Q (dite d (λ _. a) (λ _. b))
dite-both Q (yes p) a b h k = h p
dite-both Q (no n) a b h k = k n

pub dite-related : {P X : Type 0} (R : X → X → Type 0) (d : Dec P) (a b a' b' : X)
    → (P → R a a') → ((P → ⊥) → R b b') → R (dite d (λ _. a) (λ _. b)) (dite d (λ _. a') (λ _. b'))
dite-related R (yes p) a b a' b' h k = h p
dite-related R (no n) a b a' b' h k = k n

-- A substitution at a variable.
pub sub_same : (x : ℕ) (s : Term) → sub x s (var x) ≡ s
sub_same x s = ite-yes (ℕ_discrete x x) s (var x) refl

pub sub-other : (x y : ℕ) (s : Term) → x ≢ y → sub x s (var y) ≡ var y
sub-other x y s h = ite-no (ℕ_discrete x y) s (var y) h

pub occ-same : (x : ℕ) → occ x (var x) ≡ 1
occ-same x = ite-yes (ℕ_discrete x x) 1 0 refl

pub occ-other : (x y : ℕ) → x ≢ y → occ x (var y) ≡ 0
occ-other x y h = ite-no (ℕ_discrete x y) 1 0 h

-- A substitution of a variable that does not occur in a term changes nothing.
module _ (x : ℕ) (s : Term) where
  free-var : (y : ℕ) (d : Dec (x ≡ y)) → ◌≡◌ {A = ℕ} (ite d 1 0) 0 → ite d s (var y) ≡ var y
  free-var y (yes e) h = absurd (omega arith)
  free-var y (no n) h = refl

  mutual
    pub sub-free : (t : Term) → occ x t ≡ 0 → sub x s t ≡ t
    sub-free (var y) h = free-var y (ℕ_discrete x y) h
    sub-free (app f ts) h = ap (app f) (subs-free ts h)

    pub subs-free : (ts : Terms) → occs x ts ≡ 0 → subs x s ts ≡ ts
    subs-free nil h = refl
    subs-free (cons t ts) h = ap₂ cons (sub-free t (omega arith)) (subs-free ts (omega arith))

  pub subs-join : (us l : Terms) → subs x s (us +++ l) ≡ subs x s us +++ subs x s l
  subs-join nil l = refl
  subs-join (cons u us) l = ap (cons (sub x s u)) (subs-join us l)

  pub subs-count : (us : Terms) → count (subs x s us) ≡ count us
  subs-count nil = refl
  subs-count (cons u us) = ap suc (subs-count us)

-- The variable substituted does not occur any more; one that did not occur still does not.
module _ (x : ℕ) (s : Term) (free : occ x s ≡ 0) where
  gone-var : (y : ℕ) (d : Dec (x ≡ y)) → occ x (ite d s (var y)) ≡ 0
  gone-var y (yes e) = free
  gone-var y (no n) = occ-other x y n

  mutual
    pub gone : (t : Term) → occ x (sub x s t) ≡ 0
    gone (var y) = gone-var y (ℕ_discrete x y)
    gone (app f ts) = gones ts

    pub gones : (ts : Terms) → occs x (subs x s ts) ≡ 0
    gones nil = refl
    gones (cons t ts) = ap₂ ◌+◌ (gone t) (gones ts)

module _ (v x : ℕ) (s : Term) (free : occ v s ≡ 0) where
  kept-var : (y : ℕ) (d : Dec (x ≡ y)) → occ v (var y) ≡ 0 → occ v (ite d s (var y)) ≡ 0
  kept-var y (yes e) h = free
  kept-var y (no n) h = h

  mutual
    pub kept : (t : Term) → occ v t ≡ 0 → occ v (sub x s t) ≡ 0
    kept (var y) h = kept-var y (ℕ_discrete x y) h
    kept (app f ts) h = kepts ts h

    pub kepts : (ts : Terms) → occs v ts ≡ 0 → occs v (subs x s ts) ≡ 0
    kepts nil h = refl
    kepts (cons t ts) h = ap₂ ◌+◌ (kept t (omega arith)) (kepts ts (omega arith))

-- A variable at or above `top` does not occur.
mutual
  pub above-top : (t : Term) (v : ℕ) → top t ≤ v → occ v t ≡ 0
  above-top (var x) v h = occ-other v x (λ e. omega arith)
  above-top (app f ts) v h = above-tops ts v h

  pub above-tops : (ts : Terms) (v : ℕ) → tops ts ≤ v → occs v ts ≡ 0
  above-tops nil v h = refl
  above-tops (cons t ts) v h = ap₂ ◌+◌ (above-top t v (omega arith)) (above-tops ts v (omega arith))

-- One list of terms and then another.
pub occs-join : (v : ℕ) (us l : Terms) → occs v (us +++ l) ≡ occs v us + occs v l
occs-join v nil l = omega arith
occs-join v (cons u us) l = omega (arith, occs-join v us l)

pub sizes-join : (us l : Terms) → sizes (us +++ l) ≡ sizes us + sizes l
sizes-join nil l = omega arith
sizes-join (cons u us) l = omega (arith, sizes-join us l)

pub tops-join : (us l : Terms) → tops (us +++ l) ≡ max (tops us) (tops l)
tops-join nil l = omega arith
tops-join (cons u us) l = omega (arith, tops-join us l)

pub size-pos : (t : Term) → 0 < size t
size-pos (var x) = omega arith
size-pos (app f ts) = omega arith

pub join-assoc : (us l m : Terms) → (us +++ l) +++ m ≡ us +++ (l +++ m)
join-assoc nil l m = refl
join-assoc (cons u us) l m = ap (cons u) (join-assoc us l m)

pub join-nil : (us : Terms) → us +++ nil ≡ us
join-nil nil = refl
join-nil (cons u us) = ap (cons u) (join-nil us)

pub count-join : (us l : Terms) → count (us +++ l) ≡ count us + count l
count-join nil l = omega arith
count-join (cons u us) l = omega (arith, count-join us l)

-- Substitutions go through functors and lists.
pub apply-app : (es : Substitution) (f : ℕ) (ts : Terms) → apply es (app f ts) ≡ app f (applys es ts)
apply-app done f ts = refl
apply-app (bind x s es) f ts = apply-app es f (subs x s ts)

pub applys-nil : (es : Substitution) → applys es nil ≡ nil
applys-nil done = refl
applys-nil (bind x s es) = applys-nil es

pub applys-cons : (es : Substitution) (t : Term) (ts : Terms) → applys es (cons t ts) ≡ cons (apply es t) (applys es ts)
applys-cons done t ts = refl
applys-cons (bind x s es) t ts = applys-cons es (sub x s t) (subs x s ts)

pub applys-count : (es : Substitution) (ts : Terms) → count (applys es ts) ≡ count ts
applys-count done ts = refl
applys-count (bind x s es) ts = applys-count es (subs x s ts) ∙ subs-count x s ts

-- One substitution and then another.
pub apply-join : (es fs : Substitution) (t : Term) → apply (join es fs) t ≡ apply fs (apply es t)
apply-join done fs t = refl
apply-join (bind x s es) fs t = apply-join es fs (sub x s t)

pub applys-join : (es fs : Substitution) (ts : Terms) → applys (join es fs) ts ≡ applys fs (applys es ts)
applys-join done fs ts = refl
applys-join (bind x s es) fs ts = applys-join es fs (subs x s ts)

pub substitutions-assoc : (ds es fs : Substitution) → join (join ds es) fs ≡ join ds (join es fs)
substitutions-assoc done es fs = refl
substitutions-assoc (bind x s ds) es fs = ap (bind x s) (substitutions-assoc ds es fs)

pub substitutions-done : (es : Substitution) → join es done ≡ es
substitutions-done done = refl
substitutions-done (bind x s es) = ap (bind x s) (substitutions-done es)
