-- Which variables occur: in the terms of literals taken together, after a substitution or a renaming, and on the two sides of equations that
-- were unified.
use Prim.Native.Nat.{ℕ, ◌+◌, ◌<◌}
use mathlib.Core.Path.{◌≡◌, refl, sym, ◌∙◌, ap}
use mathlib.Core.Logic.{◌↔◌, inl, inr}
use mathlib.Core.List.Memᴰ
use mathlib.Core.List.{List, [], ◌∷◌, ◌++◌, Memᴰ}
use native.Mathlib.Decide.{ℕ_discrete}
use native.Mathlib.Omega.{arith}
use Rattle.rules.specs.Terms.{Term, Terms, var, app, nil, cons, ◌+++◌, occ, occs, vars_term, vars_terms, rename, renames}
use Rattle.rules.specs.Syntax.{Literal, pos, neg, arguments, map_literals, vars_literals}
use Rattle.rules.specs.Unification.{Substitution, apply, applys, solved, unify}
use Rattle.rules.specs.Resolution.{place}
use Rattle.rules.specs.Loose.{positives}
use Rattle.rules.specs.Meaning.{Ind, node, inil, Filling, eval, evals}
use Rattle.rules.proofs.TermLaws.{ite-yes, occ-same, occ-other, subs-free, occs-join, apply-app, applys-nil, applys-cons}
use Rattle.rules.proofs.NumberingLaws.{In, sum-pos, occs-vars}
use Rattle.rules.proofs.Values.{assign, subs-eval}
use Rattle.rules.proofs.UnifySound.{applys-eval, unify-extends}

-- Each variable of the first occurs in the second.
abbrev pub Within : Terms → Terms → Type 0
Within us ts = (x : ℕ) → 0 < occs x us → 0 < occs x ts

-- THE TERMS OF LITERALS, taken together.
abbrev pub terms : List Literal → Terms
terms [] = nil
terms (l ∷ ls) = arguments l +++ terms ls

vars-join : (us ts : Terms) (rest : List ℕ) → vars_terms (us +++ ts) rest ≡ vars_terms us (vars_terms ts rest)
vars-join nil ts rest = refl
vars-join (cons u us) ts rest = ap (vars_term u) (vars-join us ts rest)

pub vars-terms : (ls : List Literal) → vars_literals ls ≡ vars_terms (terms ls) []
vars-terms [] = refl
vars-terms (l ∷ ls) = ap (vars_terms (arguments l)) (vars-terms ls) ∙ sym (vars-join (arguments l) (terms ls) [])

-- A variable occurs in terms and literals exactly if it is among their variables.
pub occurs-vars : (x : ℕ) (ts : Terms) (ls : List Literal) → (0 < occs x (ts +++ terms ls)) ↔ In x (vars_terms ts (vars_literals ls))
occurs-vars x ts ls = rw (vars-terms ls, ← vars-join ts (terms ls) []) (occs-vars x (ts +++ terms ls))

pub occs-terms : (x : ℕ) (ls ms : List Literal) → occs x (terms (ls ++ ms)) ≡ occs x (terms ls) + occs x (terms ms)
occs-terms x [] ms = omega arith
occs-terms x (l ∷ ls) ms = omega (arith, occs-join x (arguments l) (terms (ls ++ ms)), occs-join x (arguments l) (terms ls), occs-terms x ls ms)

pub positives-append : (ls ms : List Literal) → positives (ls ++ ms) ≡ positives ls ++ positives ms
positives-append [] ms = refl
positives-append (pos p ts ∷ ls) ms = ap (pos p ts ∷◌) (positives-append ls ms)
positives-append (neg p ts ∷ ls) ms = positives-append ls ms

pub positives-occs : (x : ℕ) (ls ms : List Literal)
    → occs x (terms (positives (ls ++ ms))) ≡ occs x (terms (positives ls)) + occs x (terms (positives ms))
positives-occs x ls ms = rw (positives-append ls ms) (occs-terms x (positives ls) (positives ms))

-- Where the clause's body goes does not matter to what occurs: for a number that adds up over literals.
pub place-adds : (number : List Literal → ℕ) → ((ls ms : List Literal) → number (ls ++ ms) ≡ number ls + number ms)
    → (before body after : List Literal) → number (place before body after) ≡ number before + number body + number after
place-adds number adds before body after = omega (arith, adds before (after ++ body), adds after body)

-- Literal by literal.
pub in-literals : (x : ℕ) (ls : List Literal) → (0 < occs x (terms ls)) ↔ ((l : Literal) × Memᴰ l ls × (0 < occs x (arguments l)))
in-literals x [] = (λ h. absurd (omega arith), λ r. absurd (Memᴰ.not-nil r.1))
in-literals x (l ∷ ls) = (
  λ h. elim (sum-pos (occs x (arguments l)) (occs x (terms ls)) (omega (arith, occs-join x (arguments l) (terms ls)))) [
    | inl i ↦ (l, Memᴰ.head refl, i)
    | inr j ↦ (let r = (in-literals x ls).0 j in (r.0, Memᴰ.tail r.1, r.2))
  ],
  λ r. elim (Memᴰ.cases_cons r.1) [
    | inl e ↦ omega (arith, occs-join x (arguments l) (terms ls), (rw e at r.2))
    | inr m ↦ omega (arith, occs-join x (arguments l) (terms ls), (in-literals x ls).1 (r.0, m, r.2))
  ],
)

-- The positive ones.
abbrev pub InPositive : ℕ → List Literal → Type 0
InPositive x ls = (p : ℕ) × (us : Terms) × Memᴰ (pos p us) ls × (0 < occs x us)

positive-later : (x : ℕ) (l : Literal) (ls : List Literal) → InPositive x ls → InPositive x (l ∷ ls)
positive-later x l ls r = (r.0, r.1, Memᴰ.tail r.2, r.3)

pub in-positives : (x : ℕ) (ls : List Literal) → 0 < occs x (terms (positives ls)) → InPositive x ls
in-positives x [] h = absurd (omega arith)
in-positives x (pos p ts ∷ ls) h = elim (sum-pos (occs x ts) (occs x (terms (positives ls))) (omega (arith, occs-join x ts (terms (positives ls))))) [
  | inl i ↦ (p, ts, Memᴰ.head refl, i)
  | inr j ↦ positive-later x (pos p ts) ls (in-positives x ls j)
]
in-positives x (neg p ts ∷ ls) h = positive-later x (neg p ts) ls (in-positives x ls h)

pub positives-in : (x p : ℕ) (us : Terms) {ls : List Literal} → Memᴰ (pos p us) ls → 0 < occs x us → 0 < occs x (terms (positives ls))
positives-in x p us (Memᴰ.head {x = l} {xs = ls} e) h = rw (← e) (omega (arith, occs-join x us (terms (positives ls))))
positives-in x p us (Memᴰ.tail {x = l} {xs = ls} m) h = later l (positives-in x p us m h)
  where
    later : (l : Literal) → 0 < occs x (terms (positives ls)) → 0 < occs x (terms (positives (l ∷ ls)))
    later (pos q ts) k = omega (arith, occs-join x ts (terms (positives ls)))
    later (neg q ts) k = k

-- A CHANGE OF TERMS that goes through functors and lists, as a substitution and a renaming do.
pub record Change (f : Term → Term) (F : Terms → Terms) : Type 0 where
  pub through : (g : ℕ) (ts : Terms) → f (app g ts) ≡ app g (F ts)
  pub none : F nil ≡ nil
  pub more : (t : Term) (ts : Terms) → F (cons t ts) ≡ cons (f t) (F ts)

pub applied : (es : Substitution) → Change (apply es) (applys es)
applied es = record { through = apply-app es; none = applys-nil es; more = applys-cons es }

pub renamed : (ρ : ℕ → ℕ) → Change (rename ρ) (renames ρ)
renamed ρ = record { through = λ g ts. refl; none = refl; more = λ t ts. refl }

module _ (f : Term → Term) (F : Terms → Terms) (c : Change f F) where
  pub change-join : (us ts : Terms) → F (us +++ ts) ≡ F us +++ F ts
  change-join nil ts = rw c.none
  change-join (cons u us) ts = rw (c.more u (us +++ ts), c.more u us, change-join us ts)

  pub change-terms : (ls : List Literal) → terms (map_literals F ls) ≡ F (terms ls)
  change-terms [] = sym c.none
  change-terms (pos p ts ∷ ls) = ap (F ts +++◌) (change-terms ls) ∙ sym (change-join ts (terms ls))
  change-terms (neg p ts ∷ ls) = ap (F ts +++◌) (change-terms ls) ∙ sym (change-join ts (terms ls))

  pub change-positives : (ls : List Literal) → positives (map_literals F ls) ≡ map_literals F (positives ls)
  change-positives [] = refl
  change-positives (pos p ts ∷ ls) = ap (pos p (F ts) ∷◌) (change-positives ls)
  change-positives (neg p ts ∷ ls) = change-positives ls

  -- What occurs after the change comes from a variable that occurs before it, and what comes from one occurs.
  module _ (v : ℕ) where
    abbrev Source : (ℕ → ℕ) → Type 0
    Source occurs = (x : ℕ) × (0 < occurs x) × (0 < occ v (f (var x)))

    mutual
      source : (t : Term) → 0 < occ v (f t) → Source (λ x. occ x t)
      source (var x) h = (x, omega (arith, occ-same x), h)
      source (app g ts) h = sources ts (rw (c.through g ts) at h)

      pub sources : (ts : Terms) → 0 < occs v (F ts) → Source (λ x. occs x ts)
      sources nil h = absurd (omega (arith, ap (occs v) c.none))
      sources (cons t ts) h = elim (sum-pos (occ v (f t)) (occs v (F ts)) (rw (c.more t ts) at h)) [
        | inl a ↦ (let s = source t a in (s.0, omega (arith, s.1), s.2))
        | inr b ↦ (let s = sources ts b in (s.0, omega (arith, s.1), s.2))
      ]

    module _ (x : ℕ) (there : 0 < occ v (f (var x))) where
      mutual
        image : (t : Term) → 0 < occ x t → 0 < occ v (f t)
        image (var y) h = elim (ℕ_discrete x y) [ yes e ↦ rw (← e) there | no n ↦ absurd (omega (arith, occ-other x y n)) ]
        image (app g ts) h = rw (c.through g ts) (images ts h)

        pub images : (ts : Terms) → 0 < occs x ts → 0 < occs v (F ts)
        images nil h = absurd (omega arith)
        images (cons t ts) h = rw (c.more t ts) (elim (sum-pos (occ x t) (occs x ts) h) [
          | inl a ↦ omega (arith, image t a)
          | inr b ↦ omega (arith, images ts b)
        ])

  pub change-within : (us ts : Terms) → Within us ts → Within (F us) (F ts)
  change-within us ts h v k = let s = sources v us k in images v s.0 s.2 ts (h s.0 s.1)

-- UNIFIED SIDES have the same variables: one that occurred on one side alone would matter to its value and not to the other's.
module _ (ν : Filling) (v : ℕ) where
  mutual
    value_tells : (i : Ind) (t : Term) → 0 < occ v t → eval ν t ≡ eval (assign ν v i) t → ν v ≡ i
    value_tells i (var y) h e = elim (ℕ_discrete v y) [
      | yes p ↦ ap ν p ∙ e ∙ ite-yes (ℕ_discrete v y) i (ν y) p
      | no n ↦ absurd (omega (arith, occ-other v y n))
    ]
    value_tells i (app f ts) h e = values-tell i ts h (cc)

    values-tell : (i : Ind) (ts : Terms) → 0 < occs v ts → evals ν ts ≡ evals (assign ν v i) ts → ν v ≡ i
    values-tell i nil h e = absurd (omega arith)
    values-tell i (cons t ts) h e = elim (sum-pos (occ v t) (occs v ts) h) [
      | inl a ↦ value_tells i t a (cc)
      | inr b ↦ values-tell i ts b (cc)
    ]

pub unified-within : (l r : Terms) (k : ℕ) (es : Substitution) → unify l r ≡ solved k es → Within (applys es l) (applys es r)
unified-within l r k es e v h = go (ℕ_discrete (occs v (applys es r)) 0)
  where
    ν : Filling
    ν x = node 0 inil

    μ : Filling
    μ = assign ν v (node 1 inil)

    equal : (φ : Filling) → evals φ (applys es l) ≡ evals φ (applys es r)
    equal φ = applys-eval φ es l ∙ unify-extends l r k es e φ ∙ sym (applys-eval φ es r)

    go : Dec (occs v (applys es r) ≡ 0) → 0 < occs v (applys es r)
    go (no n) = omega arith
    go (yes z) =
        let free : evals μ (applys es r) ≡ evals ν (applys es r) =
        sym (subs-eval ν v (app 1 nil) (applys es r)) ∙ ap (evals ν) (subs-free v (app 1 nil) (applys es r) z) in
        let same : node 0 inil ≡ node 1 inil = values-tell ν v (node 1 inil) (applys es l) h (equal ν ∙ sym free ∙ sym (equal μ)) in
        let w : ◌≡◌ {A = ℕ} 0 1 = cc in
        absurd (omega arith)
