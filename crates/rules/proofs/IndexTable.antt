-- Runs on long lists of facts, by computing them: what is tried is what is paid.
use Prim.Native.Nat.{ℕ, zero, suc, ◌+◌, ◌*◌, ◌%◌}
use mathlib.Core.Path.{◌≡◌, refl}
use mathlib.Core.List.{List, [], ◌∷◌, ◌++◌, map}
use lib.ListN.{replicate}
use Rattle.rules.specs.Refusals.{refused, accepted}
use Rattle.rules.specs.Decks.{open_deck}
use Rattle.rules.specs.Resolution.{index_words}
use Rattle.rules.specs.Evaluation.{finished, budget}
use Rattle.rules.specs.All.{rules}
use Rattle.rules.proofs.Cases.{Case, case, shows, actual}

-- n facts p(c₀), p(c₁) and on again from p(c₀) after m of them. Symbols: c₀ to c₃₉, p.
abbrev starts : ℕ → ℕ → ℕ → List ℕ
starts width zero i = []
starts width (suc n) i = (width * i) ∷ starts width n (i + 1)

abbrev facts : ℕ → ℕ → ℕ → List ℕ
facts m zero i = []
facts m (suc n) i = 40 ∷ (i % m) ∷ facts m n (i + 1)

abbrev pub deck_of : ℕ → ℕ → List ℕ
deck_of m n =
    1 ∷ 41 ∷ 8 ∷ n ∷ 49 ∷ (2 * n) ∷ (49 + n) ∷ (49 + 3 * n)
    ∷ (replicate 40 0 ++ (257 ∷ (starts 2 n 0 ++ facts m n 0)))

-- n times p(c₀), and p(x) if e(x). Symbols: c₀ to c₃₉, p, e.
abbrev pub deck_with : ℕ → List ℕ
deck_with n =
    1 ∷ 42 ∷ 8 ∷ (n + 1) ∷ 50 ∷ (2 * n + 4) ∷ (51 + n) ∷ (55 + 3 * n)
    ∷ (replicate 40 0 ++ (257 ∷ 257 ∷ (starts 2 (n + 1) 0 ++ (facts 1 n 0 ++ (40 ∷ 32768 ∷ 41 ∷ 32768 ∷ [])))))

-- n times p, without arguments. Symbol: p.
abbrev pub deck_bare : ℕ → List ℕ
deck_bare n = 1 ∷ 1 ∷ 8 ∷ n ∷ 9 ∷ n ∷ (9 + n) ∷ (9 + 2 * n) ∷ 256 ∷ (starts 1 n 0 ++ replicate n 0)

-- p(c₀): with 64 facts all are tried; with 65 the five whose number is 0, 16 or 32.
-- p(c₈) with 65 facts: the four whose number is 8 or 24. A budget of 6 leaves its second answer pending, one of 4 the query.
-- p(x) with 65 facts: all are tried, and all are answers.
-- p(c₁) with 65 times p(c₀): none is tried, and the goal is gone; with 64, all are.
-- p(c₁₆) with 65 times p(c₀): all share the remainder, are tried and fail.
-- p(c₁) with 64 times p(c₀), and p(x) if e(x): only this one is tried, whatever the row; then e(c₁) has no clause.
-- 65 times p, without arguments: there are no rows, and no equations.
abbrev pub indexed : List Case
indexed =
    case (deck_of 40 64) (40 ∷ 0 ∷ []) 100000 (shows finished 3 2 0 [] 67)
    ∷ case (deck_of 40 65) (40 ∷ 0 ∷ []) 100000 (shows finished 3 2 0 [] 8)
    ∷ case (deck_of 40 65) (40 ∷ 8 ∷ []) 100000 (shows finished 3 2 0 [] 7)
    ∷ case (deck_of 40 65) (40 ∷ 8 ∷ []) 6 (shows budget 2 1 1 [] 6)
    ∷ case (deck_of 40 65) (40 ∷ 8 ∷ []) 4 (shows budget 0 0 1 [] 0)
    ∷ case (deck_of 40 65) (40 ∷ 32768 ∷ []) 100000 (shows finished 66 65 0 [] 131)
    ∷ case (deck_of 1 65) (40 ∷ 1 ∷ []) 100000 (shows finished 1 0 0 [] 1)
    ∷ case (deck_of 1 64) (40 ∷ 1 ∷ []) 100000 (shows finished 1 0 0 [] 65)
    ∷ case (deck_of 1 65) (40 ∷ 16 ∷ []) 100000 (shows finished 1 0 0 [] 66)
    ∷ case (deck_with 64) (40 ∷ 1 ∷ []) 100000 (shows finished 2 0 0 [] 3)
    ∷ case (deck_bare 65) (0 ∷ []) 100000 (shows finished 66 65 0 [] 66)
    ∷ []

pub indexed-runs : map actual indexed ≡ map (λ c. c.expected) indexed
unfolding rules
indexed-runs = refl

-- The words that the index takes: 16 rows of two words each for 65 clauses with arguments, none for 64, none without arguments.
abbrev taken : List ℕ → ℕ
taken ws = elim (open_deck ws) [ refused n ↦ 0 | accepted d ↦ index_words d.clauses 0 d.symbols ]

pub index-words : map taken (deck_of 40 64 ∷ deck_of 40 65 ∷ deck_bare 65 ∷ []) ≡ 0 ∷ 32 ∷ 0 ∷ []
unfolding rules
index-words = refl
