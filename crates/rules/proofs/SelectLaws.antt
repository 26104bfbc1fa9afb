-- What the selection of a literal says of a list of literals.
use Prim.Native.Nat.{ℕ}
use mathlib.Core.Path.{◌≡◌, refl, ap}
use mathlib.Core.Bool.{Bool, true, false, false≢true}
use mathlib.Core.List.{List, [], ◌∷◌, ◌++◌}
use Rattle.rules.specs.Terms.{Terms, vars_terms}
use Rattle.rules.specs.Syntax.{Literal, pos, neg}
use Rattle.rules.specs.Resolution.{Selection, nothing, positive, negative, ground, behind, select}

pub ground-vars : (ts : Terms) → ground ts ≡ true → vars_terms ts [] ≡ []
unfolding ground
ground-vars ts h = go (vars_terms ts []) h
  where
    go : (vs : List ℕ) → (elim vs as (λ _. Bool) [ [] ↦ true | v ∷ rest ↦ false ]) ≡ true → vs ≡ []
    go [] e = refl
    go (v ∷ rest) e = absurd (false≢true e)

-- The literals are those before the selected one, it, and those after it. A selected negative literal has no variables.
abbrev pub Selected : List Literal → Selection → Type 0
Selected ls nothing = Unit {0}
Selected ls (positive before p ts after) = ls ≡ before ++ (pos p ts ∷ after)
Selected ls (negative before p ts after) = (ls ≡ before ++ (neg p ts ∷ after)) × (vars_terms ts [] ≡ [])

behind-selected : (l : Literal) (ls : List Literal) (s : Selection) → Selected ls s → Selected (l ∷ ls) (behind l s)
unfolding behind
behind-selected l ls nothing h = tt
behind-selected l ls (positive before p ts after) h = ap (◌∷◌ l) h
behind-selected l ls (negative before p ts after) h = (ap (◌∷◌ l) h.0, h.1)

pub select-selected : (ls : List Literal) → Selected ls (select ls)
unfolding select
select-selected [] = tt
select-selected (pos p ts ∷ ls) = refl
select-selected (neg p ts ∷ ls) = go (ground ts) refl (select-selected ls)
  where
    go : (b : Bool) → ground ts ≡ b → Selected ls (select ls) → Selected (neg p ts ∷ ls) (select (neg p ts ∷ ls))
    go true e h = rw (e, select) (refl, ground-vars ts e)
    go false e h = rw (e, select) (behind-selected (neg p ts) ls (select ls) h)
