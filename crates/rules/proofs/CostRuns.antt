-- Runs for what a step costs (document 02, U6). The comment before a run says which slip it refuses.
use Prim.Native.Nat.{ℕ}
use mathlib.Core.Path.{◌≡◌, refl}
use mathlib.Core.List.{List, [], ◌∷◌, map}
use Rattle.rules.specs.Evaluation.{finished, budget}
use Rattle.rules.specs.All.{rules}
use Rattle.rules.proofs.Cases.{Case, case, shows, actual}

-- Clauses p(x, x) if e(x); p(f(a), b); e(a). Symbols: a, b, f, p, e.
abbrev pub deck_y : List ℕ
deck_y =
    1 ∷ 5 ∷ 8 ∷ 3 ∷ 13 ∷ 11 ∷ 16 ∷ 27
    ∷ 0 ∷ 0 ∷ 1 ∷ 258 ∷ 257
    ∷ 0 ∷ 5 ∷ 9
    ∷ 3 ∷ 32768 ∷ 32768 ∷ 4 ∷ 32768 ∷ 3 ∷ 2 ∷ 0 ∷ 1 ∷ 4 ∷ 0 ∷ []

-- p(y, y): 2 equations with the first clause, of which the second is dropped, and 2 with the second clause, of which the second fails; a dropped
-- equation not counted, a clause that does not match not counted.
-- The same with one less: the answer is not listed.
-- p(f(a), a): 2 equations and 3; two functors' equation not counted, an argument not counted.
-- p(f(y), y): 2 equations and 3, the first failing by the occurs check.
-- The same with one less: a step begun that cannot be paid.
abbrev pub costs : List Case
costs =
    case deck_y (3 ∷ 32768 ∷ 32768 ∷ []) 8 (shows finished 3 1 0 [] 8)
    ∷ case deck_y (3 ∷ 32768 ∷ 32768 ∷ []) 7 (shows budget 2 0 1 [] 7)
    ∷ case deck_y (3 ∷ 2 ∷ 0 ∷ 0 ∷ []) 6 (shows finished 1 0 0 [] 6)
    ∷ case deck_y (3 ∷ 2 ∷ 32768 ∷ 32768 ∷ []) 6 (shows finished 1 0 0 [] 6)
    ∷ case deck_y (3 ∷ 2 ∷ 32768 ∷ 32768 ∷ []) 5 (shows budget 0 0 1 [] 0)
    ∷ []

pub cost-runs : map actual costs ≡ map (λ c. c.expected) costs
unfolding rules
cost-runs = refl
