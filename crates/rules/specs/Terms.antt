-- Terms as trees (document 01, "The deck": "A term is a variable or a functor with its terms"), and the walks over them that the rules use.
use Rattle.std.specs.Prelude.{ℕ, suc, ◌+◌, max, List, ◌∷◌}
use Rattle.std.proofs.Math.Logic.{ite}
use Rattle.std.proofs.Math.Decide.{ℕ_discrete}

mutual
  pub data Term : Type 0 where
    var : ℕ → Term
    app : ℕ → Terms → Term

  pub data Terms : Type 0 where
    nil : Terms
    cons : Term → Terms → Terms

-- One list of terms and then another; how many terms there are.
infixr 65 ◌+++◌
abbrev pub ◌+++◌ : Terms → Terms → Terms
nil +++ ts = ts
(cons s ss) +++ ts = cons s (ss +++ ts)

abbrev pub count : Terms → ℕ
count nil = 0
count (cons t ts) = suc (count ts)

-- The number of cells that a term takes.
abbrev mutual
  pub size : Term → ℕ
  size (var x) = 1
  size (app f ts) = suc (sizes ts)

  pub sizes : Terms → ℕ
  sizes nil = 0
  sizes (cons t ts) = size t + sizes ts

-- The variables where they stand, from left to right; `rest` is what follows.
abbrev mutual
  pub vars_term : Term → List ℕ → List ℕ
  vars_term (var v) rest = v ∷ rest
  vars_term (app f ts) rest = vars_terms ts rest

  pub vars_terms : Terms → List ℕ → List ℕ
  vars_terms nil rest = rest
  vars_terms (cons t ts) rest = vars_term t (vars_terms ts rest)

-- How often a variable occurs.
abbrev mutual
  pub occ : ℕ → Term → ℕ
  occ x (var y) = ite (ℕ_discrete x y) 1 0
  occ x (app f ts) = occs x ts

  pub occs : ℕ → Terms → ℕ
  occs x nil = 0
  occs x (cons t ts) = occ x t + occs x ts

-- The least number above every variable; 0 where there is none.
abbrev mutual
  pub top : Term → ℕ
  top (var x) = suc x
  top (app f ts) = tops ts

  pub tops : Terms → ℕ
  tops nil = 0
  tops (cons t ts) = max (top t) (tops ts)

-- Substitution of one variable: s for each x.
abbrev mutual
  pub sub : ℕ → Term → Term → Term
  sub x s (var y) = ite (ℕ_discrete x y) s (var y)
  sub x s (app f ts) = app f (subs x s ts)

  pub subs : ℕ → Term → Terms → Terms
  subs x s nil = nil
  subs x s (cons t ts) = cons (sub x s t) (subs x s ts)

-- Renaming of variables.
abbrev mutual
  pub rename : (ℕ → ℕ) → Term → Term
  rename ρ (var x) = var (ρ x)
  rename ρ (app f ts) = app f (renames ρ ts)

  pub renames : (ℕ → ℕ) → Terms → Terms
  renames ρ nil = nil
  renames ρ (cons t ts) = cons (rename ρ t) (renames ρ ts)
