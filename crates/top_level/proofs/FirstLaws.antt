-- The words of a query's first goal: its length, the number of the query's variables, the variables in order, and the query.
use Prim.Native.Nat.{ℕ, ◌+◌, ◌≤◌}
use mathlib.Core.Path.{◌≡◌, refl, sym, ◌∙◌, ap, ap₂}
use mathlib.Core.List.{List, [], ◌∷◌, ◌++◌, map, map-append, reverse, append-nil}
use native.Mathlib.Omega.{arith}
use native.Mathlib.Numerals.{add-one}
use lib.ListN.{length, take, set, length-append, length-map}
use lib.Seq.{sets, length-sets}
use Rattle.rules.specs.Terms.{nil, sizes}
use Rattle.rules.specs.Syntax.{Symbol, Literal, Goal, vars_literals, top_goal}
use Rattle.rules.specs.Cells.{write_terms, write_literals}
use Rattle.rules.specs.Goals.{unmarked, goal_cells, goal_words, write_goals, variables, query_variables, first_goal}
use Rattle.rules.proofs.CellLaws.{terms-length}
use Rattle.rules.proofs.NumberingLaws.{up_to, length-up_to, numbered-appearing, top_goal-above}
use Rattle.rules.proofs.FirstGoal.{first_goal-wf}
use Rattle.words.proofs.StoreLaws.{sets-append, take-sets, rev, rev-fronted, length-rev}
use Rattle.resolvents.specs.Selecting.{GoalCells}
use Rattle.goals.specs.Store.{Holding}
use Rattle.top_level.specs.Top.{Queries}
use Rattle.goals.proofs.HeldLaws.{pending_words, goals-first, cells-length}

-- The cells of the variables below n.
abbrev pub numbers : ℕ → List ℕ
numbers n = map (λ v. 32768 + v) (up_to n)

numbers-length : (n : ℕ) → length (numbers n) ≡ n
numbers-length n = length-map (up_to n) (λ v. 32768 + v) ∙ length-up_to n

-- One more of them is written.
pub numbers_more : (s : List ℕ) (i : ℕ) → set (sets s 2 (numbers i)) (2 + i) (32768 + i) ≡ sets s 2 (numbers (i + 1))
numbers_more s i =
    ap (λ (k : ℕ). set (sets s 2 (numbers i)) (2 + k) (32768 + i)) (sym (numbers-length i))
    ∙ sets-append (numbers i) ((32768 + i) ∷ []) s 2
    ∙ ap (sets s 2) (sym (map-append (λ v. 32768 + v) (up_to i) (i ∷ [])))
    ∙ ap (λ (k : ℕ). sets s 2 (numbers k)) (sym (add-one i))

variables-cells : (vs rest : List ℕ) → write_terms (variables vs) rest ≡ map (λ v. 32768 + v) vs ++ rest
unfolding variables
variables-cells [] rest = refl
variables-cells (v ∷ vs) rest = ap {B = List ℕ} (λ r. (32768 + v) ∷ r) (variables-cells vs rest)

-- The query alone, as a goal.
abbrev query_goal : List Literal → Goal
query_goal q = record { answer_terms = nil; literals = q }

module _ {ar words : List ℕ} {S : List Symbol} {q : List Literal} (h : Queries ar words S q) where
  pub query-cells : GoalCells ar words 0 S (query_goal q)
  unfolding goal_cells goal_words
  query-cells = record {
    symbols = h.symbols;
    well_formed = record { answer_terms = tt; literals = h.well_formed.literals; in_order = h.well_formed.in_order; short = omega (arith, h.well_formed.short) };
    goal = h.are;
    wide = refl;
  }

  module _ (n held : ℕ) (e : n ≡ top_goal (query_goal q)) (k : held ≡ 2 + n + length words) where
    in_order_lem : query_variables q ≡ up_to n
    unfolding query_variables
    in_order_lem = numbered-appearing (vars_literals q) h.well_formed.in_order ∙ ap up_to (top_goal-above (query_goal q) ∙ sym e)

    first-cells : goal_cells (first_goal q) ≡ numbers n ++ words
    unfolding goal_cells first_goal
    first-cells =
        variables-cells (query_variables q) (write_literals q) ∙ ap₂ (λ (vs ws : List ℕ). map (λ v. 32768 + v) vs ++ ws) in_order_lem (sym h.are)

    first-size : goal_words (first_goal q) ≡ held
    first-size = omega (arith, cells-length (first_goal q), ap length first-cells, length-append (numbers n) words, numbers-length n)

    first-answers : sizes (first_goal q).answer_terms ≡ n
    unfolding first_goal
    first-answers =
        let c = variables-cells (query_variables q) [] in
        omega (arith, terms-length (variables (query_variables q)) [], ap length c, ap length (append-nil (map (λ v. 32768 + v) (query_variables q))), ap (λ (vs : List ℕ). length (map (λ v. 32768 + v) vs)) in_order_lem, numbers-length n)

    -- It is short enough.
    pub first_short : held ≤ 1024
    first_short = omega (arith, first-size, (first_goal-wf S q h.well_formed).short)

    first-words : write_goals (unmarked (first_goal q ∷ [])) ≡ held ∷ (n ∷ (numbers n ++ words))
    unfolding write_goals
    first-words =
        goals-first (first_goal q) [] ∙ append-nil (pending_words (first_goal q))
        ∙ ap₂ (λ (x : ℕ) (r : List ℕ). x ∷ r) first-size (ap₂ (λ (x : ℕ) (r : List ℕ). x ∷ r) first-answers first-cells)

    -- It is held, where it is written in order and then reversed.
    pub first-held : (s t : List ℕ) → 1024 ≤ length s
        → t ≡ rev 0 held (sets (sets (set (set s 0 held) 1 n) 2 (numbers n)) (2 + n) words) → Holding S t held (first_goal q ∷ [])
    first-held s t l r =
        let ws = held ∷ (n ∷ (numbers n ++ words)) in
        let all : sets (sets (set (set s 0 held) 1 n) 2 (numbers n)) (2 + n) words ≡ sets s 0 ws =
        let m : 2 + n ≡ 0 + length (held ∷ (n ∷ numbers n)) = omega (arith, numbers-length n) in
        ap₂ (λ (x : List ℕ) (i : ℕ). sets x i words) (sets-append (held ∷ (n ∷ [])) (numbers n) s 0) m
        ∙ sets-append (held ∷ (n ∷ numbers n)) words s 0 in
        let m : 0 + length ws ≡ held = omega (arith, length-append (numbers n) words, numbers-length n) in
        let front = (rev-fronted (sets s 0 ws) [] ws 0 held refl m (take-sets ws s held 0 m (omega (arith, first_short)))).0 in
        record {
          inside = omega (arith, first_short, ap length r, ap length all, length-rev (sets (sets (set (set s 0 held) 1 n) 2 (numbers n)) (2 + n) words) 0 held (omega arith), length-sets s 0 ws);
          well_formed = (first_goal-wf S q h.well_formed, tt);
          words = ap (take held) (r ∙ ap (rev 0 held) all) ∙ front ∙ ap reverse (sym first-words);
        }
