-- What a goal covers under a filling: with its terms changed, with fresh variables beside its own, and renumbered.
use Prim.Native.Nat.{ℕ, ◌+◌, ◌-◌, ◌≤◌, ◌<◌}
use mathlib.Core.Path.{◌≡◌, sym, ◌∙◌, ap, ap₂, fun_ext, transport}
use mathlib.Core.Logic.{ite, if_pos, if_neg, ◌↔◌}
use mathlib.Core.List.{List, []}
use native.Mathlib.Decide.{dec_lt}
use native.Mathlib.Omega.{arith}
use lib.ListN.{get_or}
use Rattle.rules.specs.Terms.{Terms, renames}
use Rattle.rules.specs.Syntax.{Goal, map_goal, vars_literals, vars_goal, top_goal}
use Rattle.rules.specs.Goals.{appearing, position, renumber}
use Rattle.rules.specs.Resolution.{fresh}
use Rattle.rules.specs.Meaning.{Inds, Filling, evals, Reading, Holds, CoversBy}
use Rattle.rules.proofs.NumberingLaws.{at_position, appearing-finds}
use Rattle.rules.proofs.Values.{AgreeOn, evals-on, evals-below, renames-eval, holds-map, holds_on, holds-below}

-- The goal covers the choice under ν.
abbrev pub CoversAt : Reading → Inds → Goal → Filling → Type 0
CoversAt I choice g ν = (evals ν g.answer_terms ≡ choice) × Holds I ν g.literals

module _ (I : Reading) (choice : Inds) (g : Goal) (ν μ : Filling) where
  -- After a change of the terms that is a change of the filling; under fillings that agree on the goal's variables, or below a number.
  pub covers-map : (F : Terms → Terms) → ((ts : Terms) → evals ν (F ts) ≡ evals μ ts) → CoversAt I choice (map_goal F g) ν ≡ CoversAt I choice g μ
  covers-map F h = ap₂ (λ (A B : Type 0). A × B) (ap (λ (us : Inds). us ≡ choice) (h g.answer_terms)) (holds-map I ν μ F h g.literals)

  pub covers-on : AgreeOn ν μ (vars_goal g) → CoversAt I choice g ν ≡ CoversAt I choice g μ
  covers-on h =
      let r = evals-on ν μ g.answer_terms (vars_literals g.literals) h in
      ap₂ (λ (A B : Type 0). A × B) (ap (λ (us : Inds). us ≡ choice) r.0) (holds_on I ν μ g.literals r.1)

  pub covers_below : (N : ℕ) → ((v : ℕ) → v < N → ν v ≡ μ v) → top_goal g ≤ N → CoversAt I choice g ν ≡ CoversAt I choice g μ
  covers_below N same h =
      ap₂ (λ (A B : Type 0). A × B) (ap (λ (us : Inds). us ≡ choice) (evals-below ν μ N same g.answer_terms (omega arith)))
      (holds-below I ν μ N same g.literals (omega arith))

-- Fresh variables: ν for the goal's, which are below N, and μ for the clause's, from N on.
abbrev pub merge : ℕ → Filling → Filling → Filling
merge N ν μ v = ite (dec_lt v N) (ν v) (μ (v - N))

pub merge-below : (N : ℕ) (ν μ : Filling) (v : ℕ) → v < N → ν v ≡ merge N ν μ v
merge-below N ν μ v h = sym (if_pos (dec_lt v N) h (ν v) (μ (v - N)))

-- So a clause with fresh variables has the values that it has under μ.
pub fresh-merge : (N : ℕ) (ν μ : Filling) (ts : Terms) → evals (merge N ν μ) (fresh N ts) ≡ evals μ ts
fresh-merge N ν μ ts = renames-eval (merge N ν μ) (λ v. N + v) ts ∙ ap (λ (κ : Filling). evals κ ts) (fun_ext from)
  where
    from : (v : ℕ) → merge N ν μ (N + v) ≡ μ v
    from v = if_neg (dec_lt (N + v) N) (λ h. omega arith) (ν (N + v)) (μ ((N + v) - N)) ∙ ap μ (omega arith)

-- And under any filling it has the values of some filling of its own.
pub fresh-own : (N : ℕ) (ν : Filling) → (μ : Filling) × ((ts : Terms) → evals ν (fresh N ts) ≡ evals μ ts)
fresh-own N ν = ((λ v. ν (N + v)), renames-eval ν (λ v. N + v))

-- Renumbering keeps what a goal covers.
pub renumber-covers : (I : Reading) (choice : Inds) (g : Goal) → CoversBy I choice (renumber g) ↔ CoversBy I choice g
unfolding renumber
renumber-covers I choice g = (
  λ h. let k = transport (moved h.0) (h.1, h.2) in ((λ v. h.0 (position order v)), k.0, k.1),
  λ h. let k = transport (covers-on I choice g h.0 _ (found h.0) ∙ sym (moved (λ i. h.0 (get_or order i 0)))) (h.1, h.2) in ((λ i. h.0 (get_or order i 0)), k.0, k.1),
)
  where
    order : List ℕ
    order = appearing [] (vars_goal g)

    moved : (ν : Filling) → CoversAt I choice (map_goal (renames (position order)) g) ν ≡ CoversAt I choice g (λ v. ν (position order v))
    moved ν = covers-map I choice g ν (λ v. ν (position order v)) (renames (position order)) (renames-eval ν (position order))

    found : (ν : Filling) → AgreeOn ν (λ v. ν (get_or order (position order v) 0)) (vars_goal g)
    found ν v h = ap ν (sym (at_position v (appearing-finds v [] h)))
