-- The walks over cells that look for variables or copy cells, one cell after another.
use Prim.Native.Nat.{ℕ, suc, ◌+◌, ◌-◌, ◌≤◌, ◌<◌, max}
use mathlib.Core.Path.{◌≡◌, refl, sym, ◌∙◌, ap}
use mathlib.Core.Bool.{Bool, true, false, ◌&&◌, true≢false}
use borrow.Author.Tests.{ltb-true, ltb-false}
use lib.Dec.{ltb}
use Rattle.std.specs.List.{list_all}
use mathlib.Core.List.{List, [], ◌∷◌, map}
use native.Mathlib.Numerals.{add-one}
use native.Mathlib.Omega.{arith}
use lib.ListN.{length, get_or, drop, set, length-set, drop_of_length-le}
use lib.Seq.{sets, drop-cons}
use Rattle.rules.specs.Terms.{vars_terms}
use Rattle.rules.specs.Syntax.{Symbol, Goal, top_goal}
use Rattle.rules.proofs.NumberingLaws.{above, top_goal-above}
use Rattle.resolvents.specs.Variables.{variables_in, NoneOf, fresh_cell}
use Rattle.resolvents.specs.Selecting.{GoalCells}
use Rattle.resolvents.proofs.CellTrees.{goal_terms, goal-cells, goal-vars}
use Rattle.resolvents.proofs.RowLaws.{variables-none, variable-none, variable-one, terms-variables, fresh-symbol, fresh-variable, goal-fits}

-- NO VARIABLE
pub none-of : (cs : List ℕ) → NoneOf (variables_in cs) (list_all (λ c. ltb c 32768) cs)
none-of [] = record { if-so = λ _. variables-none; if-not = λ q. absurd (true≢false q) }
none-of (c ∷ cs) = go (ltb c 32768) refl (none-of cs)
  where
    go : (b : Bool) → ltb c 32768 ≡ b → NoneOf (variables_in cs) (list_all (λ c. ltb c 32768) cs) → NoneOf (variables_in (c ∷ cs)) (b && list_all (λ c. ltb c 32768) cs)
    go true e h = rw (variable-none c cs (ltb-true c 32768 e)) h
    go false e h = record {
      if-so = λ q. absurd (true≢false (sym q));
      if-not = λ _ n. absurd (let z = sym (variable-one c cs (ltb-false c 32768 e)) ∙ n in let m : ◌≡◌ {A = ℕ} 0 1 = cc in omega arith);
    }

-- THE LEAST NUMBER ABOVE ALL VARIABLES: `top` of the variables before i.
pub record AboveSoFar (cells : List ℕ) (top i : ℕ) : Type 0 where
  pub small : top ≤ 32768
  pub rest : max top (above (variables_in (drop i cells))) ≡ above (variables_in cells)

pub topped-none : (cells : List ℕ) → AboveSoFar cells 0 0
topped-none cells = record { small = omega arith; rest = omega arith }

module _ {cells : List ℕ} {top i : ℕ} (s : AboveSoFar cells top i) (l : i < length cells) where
  step : above (variables_in (drop i cells)) ≡ above (variables_in (get_or cells i 0 ∷ drop (suc i) cells))
  step = ap (λ cs. above (variables_in cs)) (drop-cons cells i 0 l)

  pub topped-more : {top' : ℕ} → 32768 ≤ get_or cells i 0 → get_or cells i 0 < 65536 → top' ≡ max top (get_or cells i 0 - 32768 + 1) → AboveSoFar cells top' (i + 1)
  topped-more h k e =
      record {
        small = omega arith;
        rest = rw (add-one i) (omega (arith, step, s.rest, ap above (variable-one (get_or cells i 0) (drop (suc i) cells) h)));
      }

  pub topped-same : get_or cells i 0 < 32768 → AboveSoFar cells top (i + 1)
  topped-same h =
      record {
        small = s.small;
        rest = rw (add-one i) (omega (arith, step, s.rest, ap above (variable-none (get_or cells i 0) (drop (suc i) cells) h)));
      }

pub topped-all : {cells : List ℕ} {top i : ℕ} → AboveSoFar cells top i → length cells ≤ i → top ≡ above (variables_in cells)
topped-all {cells} {top} {i} s l =
    let z : above (variables_in (drop i cells)) ≡ 0 = ap above (ap variables_in (drop_of_length-le cells l) ∙ variables-none) in
    omega (arith, s.rest)

-- COPYING: the fresh cells before i are written.
pub record Copying (clause cells₀ : List ℕ) (to n : ℕ) (cells : List ℕ) (i : ℕ) : Type 0 where
  pub long : length cells ≡ length cells₀
  pub rest : sets cells₀ to (map (fresh_cell n) clause) ≡ sets cells (to + i) (map (fresh_cell n) (drop i clause))

pub copying-none : (clause cells : List ℕ) (to n : ℕ) → Copying clause cells to n cells 0
copying-none clause cells to n = let e : to ≡ to + 0 = omega arith in record { long = refl; rest = ap (λ k. sets cells k (map (fresh_cell n) clause)) e }

module _ {clause cells₀ : List ℕ} {to n : ℕ} {cells : List ℕ} {i : ℕ} (s : Copying clause cells₀ to n cells i) where
  copying-cell : (v : ℕ) → i < length clause → v ≡ fresh_cell n (get_or clause i 0) → Copying clause cells₀ to n (set cells (to + i) v) (i + 1)
  copying-cell v l e =
      let k : suc (to + i) ≡ to + suc i = omega arith in
      record {
        long = length-set cells (to + i) v ∙ s.long;
        rest = s.rest ∙ rw (add-one i, e, drop-cons clause i 0 l) (ap (λ j. sets (set cells (to + i) (fresh_cell n (get_or clause i 0))) j (map (fresh_cell n) (drop (suc i) clause))) k);
      }

  pub copying-symbol : i < length clause → get_or clause i 0 < 32768 → Copying clause cells₀ to n (set cells (to + i) (get_or clause i 0)) (i + 1)
  copying-symbol l h = copying-cell (get_or clause i 0) l (sym (fresh-symbol n (get_or clause i 0) h))

  pub copying-variable : i < length clause → 32768 ≤ get_or clause i 0 → Copying clause cells₀ to n (set cells (to + i) (get_or clause i 0 + n)) (i + 1)
  copying-variable l h = copying-cell (get_or clause i 0 + n) l (sym (fresh-variable n (get_or clause i 0) h))

  pub copying-all : length clause ≤ i → cells ≡ sets cells₀ to (map (fresh_cell n) clause)
  copying-all l = sym (s.rest ∙ ap (λ cs. sets cells (to + i) (map (fresh_cell n) cs)) (drop_of_length-le clause l))

-- What is found of a goal's cells.
pub goal-topped : {ar cells : List ℕ} {answer_cells : ℕ} {S : List Symbol} {g : Goal} → GoalCells ar cells answer_cells S g → above (variables_in cells) ≡ top_goal g
goal-topped {ar} {cells} {answer_cells} {S} {g} h =
    ap above (ap variables_in (h.goal ∙ goal-cells g) ∙ terms-variables ar (goal_terms g) (goal-fits h) [] ∙ ap (vars_terms (goal_terms g)) variables-none ∙ goal-vars g) ∙ top_goal-above g
