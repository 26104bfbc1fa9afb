-- The values of terms and what literals say: under a substitution, a renaming, fillings that agree; and the occurs check by size.
use Prim.Native.Nat.{ℕ, zero, suc, ◌+◌, ◌≤◌, ◌<◌}
use mathlib.Core.Path.{◌≡◌, refl, sym, ◌∙◌, ap, ap₂, fun_ext}
use mathlib.Core.Logic.{ite, ◌↔◌, ◌⊎◌, inl, inr, if_pos}
use mathlib.Core.List.Memᴰ
use mathlib.Core.List.{List, [], ◌∷◌, ◌++◌}
use native.Mathlib.Decide.{ℕ_discrete}
use native.Mathlib.Omega.{arith}
use Rattle.rules.specs.Terms.{Term, Terms, var, app, nil, cons, sub, subs, occ, occs, top, tops, rename, renames, vars_term, vars_terms}
use Rattle.rules.specs.Syntax.{Literal, pos, neg, map_literals, vars_literals, top_literals}
use Rattle.rules.specs.Meaning.{Ind, Inds, node, inil, icons, Filling, eval, evals, Reading, Holds}
use Rattle.rules.proofs.TermLaws.{sub-free}
use Rattle.rules.proofs.NumberingLaws.{In}

-- The filling that gives x the individual i, and else is ν.
abbrev pub assign : Filling → ℕ → Ind → Filling
assign ν x i y = ite (ℕ_discrete x y) i (ν y)

pub assign-at : (ν : Filling) (x : ℕ) (i : Ind) → assign ν x i x ≡ i
assign-at ν x i = if_pos (ℕ_discrete x x) refl i (ν x)

-- The value after a substitution is the value with the term's value for the variable.
module _ (ν : Filling) (x : ℕ) (s : Term) where
  sub-var : (y : ℕ) (d : Dec (x ≡ y)) → eval ν (ite d s (var y)) ≡ ite d (eval ν s) (ν y)
  sub-var y (yes e) = refl
  sub-var y (no n) = refl

  mutual
    pub sub-eval : (t : Term) → eval ν (sub x s t) ≡ eval (assign ν x (eval ν s)) t
    sub-eval (var y) = sub-var y (ℕ_discrete x y)
    sub-eval (app f ts) = ap (node f) (subs-eval ts)

    pub subs-eval : (ts : Terms) → evals ν (subs x s ts) ≡ evals (assign ν x (eval ν s)) ts
    subs-eval nil = refl
    subs-eval (cons t ts) = ap₂ icons (sub-eval t) (subs-eval ts)

  -- The term itself keeps its value where the variable does not occur in it.
  pub assign-free : occ x s ≡ 0 → eval (assign ν x (eval ν s)) s ≡ eval ν s
  assign-free free = sym (sub-eval s) ∙ ap (eval ν) (sub-free x s s free)

-- Where ν gives x the value i already, the assignment changes nothing.
pub assign-same : (ν : Filling) (x : ℕ) (i : Ind) → ν x ≡ i → assign ν x i ≡ ν
assign-same ν x i e = fun_ext (λ y. at y (ℕ_discrete x y))
  where
    at : (y : ℕ) (d : Dec (x ≡ y)) → ite d i (ν y) ≡ ν y
    at y (yes p) = sym e ∙ ap ν p
    at y (no n) = refl

-- The value of a renamed term.
module _ (ν : Filling) (ρ : ℕ → ℕ) where
  mutual
    pub rename-eval : (t : Term) → eval ν (rename ρ t) ≡ eval (λ v. ν (ρ v)) t
    rename-eval (var v) = refl
    rename-eval (app f ts) = ap (node f) (renames-eval ts)

    pub renames-eval : (ts : Terms) → evals ν (renames ρ ts) ≡ evals (λ v. ν (ρ v)) ts
    renames-eval nil = refl
    renames-eval (cons t ts) = ap₂ icons (rename-eval t) (renames-eval ts)

-- Fillings that agree below a number agree on terms whose variables are below it.
module _ (ν μ : Filling) (N : ℕ) (same : (v : ℕ) → v < N → ν v ≡ μ v) where
  mutual
    pub eval-below : (t : Term) → top t ≤ N → eval ν t ≡ eval μ t
    eval-below (var v) h = same v h
    eval-below (app f ts) h = ap (node f) (evals-below ts h)

    pub evals-below : (ts : Terms) → tops ts ≤ N → evals ν ts ≡ evals μ ts
    evals-below nil h = refl
    evals-below (cons t ts) h = ap₂ icons (eval-below t (omega arith)) (evals-below ts (omega arith))

-- Fillings that agree on the variables of terms agree on the terms; and on the variables that follow, `rest`.
abbrev pub AgreeOn : Filling → Filling → List ℕ → Type 0
AgreeOn ν μ vs = (v : ℕ) → In v vs → ν v ≡ μ v

module _ (ν μ : Filling) where
  mutual
    pub eval-on : (t : Term) (rest : List ℕ) → AgreeOn ν μ (vars_term t rest) → (eval ν t ≡ eval μ t) × AgreeOn ν μ rest
    eval-on (var v) rest h = (h v (Memᴰ.head refl), λ w k. h w (Memᴰ.tail k))
    eval-on (app f ts) rest h = let r = evals-on ts rest h in (ap (node f) r.0, r.1)

    pub evals-on : (ts : Terms) (rest : List ℕ) → AgreeOn ν μ (vars_terms ts rest) → (evals ν ts ≡ evals μ ts) × AgreeOn ν μ rest
    evals-on nil rest h = (refl, h)
    evals-on (cons t ts) rest h =
        let a = eval-on t (vars_terms ts rest) h in
        let b = evals-on ts rest a.1 in
        (ap₂ icons a.0 b.0, b.1)

-- What literals say: as types, so that it can be carried over by `transport`.
module _ (I : Reading) where
  abbrev Both : Type 0 → Type 0 → Type 0
  Both A B = A × B

  pub holds-append : (ν : Filling) (ls ms : List Literal) → Holds I ν (ls ++ ms) ↔ (Holds I ν ls × Holds I ν ms)
  holds-append ν [] ms = (λ h. (tt, h), λ h. h.1)
  holds-append ν (pos p ts ∷ ls) ms =
      let r = holds-append ν ls ms in
      (λ h. ((h.0, (r.0 h.1).0), (r.0 h.1).1), λ h. (h.0.0, r.1 (h.0.1, h.1)))
  holds-append ν (neg p ts ∷ ls) ms =
      let r = holds-append ν ls ms in
      (λ h. ((h.0, (r.0 h.1).0), (r.0 h.1).1), λ h. (h.0.0, r.1 (h.0.1, h.1)))

  module _ (ν μ : Filling) where
    -- After a change of the terms that is a change of the filling.
    pub holds-map : (F : Terms → Terms) → ((ts : Terms) → evals ν (F ts) ≡ evals μ ts) → (ls : List Literal) → Holds I ν (map_literals F ls) ≡ Holds I μ ls
    holds-map F h [] = refl
    holds-map F h (pos p ts ∷ ls) = ap₂ Both (ap (I.inside p) (h ts)) (holds-map F h ls)
    holds-map F h (neg p ts ∷ ls) = ap₂ Both (ap (I.outside p) (h ts)) (holds-map F h ls)

    -- Under fillings that agree below a number, or on the variables.
    pub holds-below : (N : ℕ) → ((v : ℕ) → v < N → ν v ≡ μ v) → (ls : List Literal) → top_literals ls ≤ N → Holds I ν ls ≡ Holds I μ ls
    holds-below N same [] h = refl
    holds-below N same (pos p ts ∷ ls) h = ap₂ Both (ap (I.inside p) (evals-below ν μ N same ts (omega arith))) (holds-below N same ls (omega arith))
    holds-below N same (neg p ts ∷ ls) h = ap₂ Both (ap (I.outside p) (evals-below ν μ N same ts (omega arith))) (holds-below N same ls (omega arith))

    pub holds_on : (ls : List Literal) → AgreeOn ν μ (vars_literals ls) → Holds I ν ls ≡ Holds I μ ls
    holds_on [] h = refl
    holds_on (pos p ts ∷ ls) h = let r = evals-on ν μ ts (vars_literals ls) h in ap₂ Both (ap (I.inside p) r.0) (holds_on ls r.1)
    holds_on (neg p ts ∷ ls) h = let r = evals-on ν μ ts (vars_literals ls) h in ap₂ Both (ap (I.outside p) r.0) (holds_on ls r.1)

-- The size of an individual; its parts are smaller.
abbrev mutual
  pub nodes : Ind → ℕ
  nodes (node f us) = suc (nodes_of us)

  pub nodes_of : Inds → ℕ
  nodes_of inil = 0
  nodes_of (icons u us) = nodes u + nodes_of us

either : (a b : ℕ) → 0 < a + b → (0 < a) ⊎ (0 < b)
either zero b l = inr (omega arith)
either (suc a) b l = inl (omega arith)

module _ (ν : Filling) (x : ℕ) where
  mutual
    inside : (t : Term) → 0 < occ x t → nodes (ν x) ≤ nodes (eval ν t)
    inside (var y) l = at (ℕ_discrete x y) l
      where
        at : (d : Dec (x ≡ y)) → 0 < ite d 1 0 → nodes (ν x) ≤ nodes (ν y)
        at (yes e) h = omega (arith, ap (λ z. nodes (ν z)) e)
        at (no n) h = omega arith
    inside (app f ts) l = omega (arith, insides ts l)

    insides : (ts : Terms) → 0 < occs x ts → nodes (ν x) ≤ nodes_of (evals ν ts)
    insides nil l = omega arith
    insides (cons t ts) l = elim (either (occ x t) (occs x ts) l) [
      | inl a ↦ omega (arith, inside t a)
      | inr b ↦ omega (arith, insides ts b)
    ]

  -- The occurs check: what properly contains a variable never has its value.
  pub occurs-check : (f : ℕ) (ts : Terms) → 0 < occs x ts → ν x ≡ eval ν (app f ts) → ⊥
  occurs-check f ts l e = omega (arith, insides ts l, ap nodes e)
