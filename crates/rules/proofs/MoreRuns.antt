-- Runs for what the starred ones do not tell apart, shown about the written rules by computing them.
use Prim.Native.Nat.{ℕ, zero, suc}
use mathlib.Core.Path.{◌≡◌, refl}
use mathlib.Core.List.{List, [], ◌∷◌, map}
use Rattle.rules.specs.Refusals.{loose_clause, refused}
use Rattle.rules.specs.Goals.{undecided, oversized}
use Rattle.rules.specs.Evaluation.{finished, budget, answers, store}
use Rattle.rules.specs.Run.{answers_after, store_start}
use Rattle.rules.specs.All.{rules}
use Rattle.rules.proofs.Cases.{Case, case, shows, actual, outcome_of, words_of_run}
use Rattle.rules.proofs.Table.{deck_l}

-- The cells of f(.. f(a) ..), with n times the functor f, which has number 1; a has number 0.
abbrev pub nested : ℕ → List ℕ
nested zero = 0 ∷ []
nested (suc n) = 1 ∷ nested n

-- Clause p if not p. Symbol: p.
abbrev pub deck_p : List ℕ
deck_p =
    1 ∷ 1 ∷ 8 ∷ 1 ∷ 9 ∷ 2 ∷ 10 ∷ 12
    ∷ 256
    ∷ 0
    ∷ 0 ∷ 16384 ∷ []

-- Clauses r(f(x)) if e(x); e(a). Symbols: f, r, e, a.
abbrev pub deck_r : List ℕ
deck_r =
    1 ∷ 4 ∷ 8 ∷ 2 ∷ 12 ∷ 7 ∷ 14 ∷ 21
    ∷ 1 ∷ 257 ∷ 257 ∷ 0
    ∷ 0 ∷ 5
    ∷ 1 ∷ 0 ∷ 32768 ∷ 2 ∷ 32768 ∷ 2 ∷ 3 ∷ []

-- Clauses q(x, f(x)) if e(x); e(a). Symbols: f, q, e, a.
abbrev pub deck_s : List ℕ
deck_s =
    1 ∷ 4 ∷ 8 ∷ 2 ∷ 12 ∷ 8 ∷ 14 ∷ 22
    ∷ 1 ∷ 258 ∷ 257 ∷ 0
    ∷ 0 ∷ 6
    ∷ 1 ∷ 32768 ∷ 0 ∷ 32768 ∷ 2 ∷ 32768 ∷ 2 ∷ 3 ∷ []

-- Clauses p(x) if q(x, .., x), twelve times x; p(f(..)), a hundred times f. Symbols: a, f, p, q.
abbrev pub deck_o : List ℕ
deck_o =
    1 ∷ 4 ∷ 8 ∷ 2 ∷ 12 ∷ 117 ∷ 14 ∷ 131
    ∷ 0 ∷ 1 ∷ 257 ∷ 268
    ∷ 0 ∷ 15
    ∷ 2 ∷ 32768 ∷ 3 ∷ 32768 ∷ 32768 ∷ 32768 ∷ 32768 ∷ 32768 ∷ 32768 ∷ 32768 ∷ 32768 ∷ 32768 ∷ 32768 ∷ 32768 ∷ 32768 ∷ 2 ∷ nested 100

-- Clauses e(a), three times; p(a), twice; h(x) if e(y) and g(x). Symbols: a, f, e, g, p, h.
abbrev pub deck_e : List ℕ
deck_e =
    1 ∷ 6 ∷ 8 ∷ 6 ∷ 14 ∷ 16 ∷ 20 ∷ 36
    ∷ 0 ∷ 1 ∷ 257 ∷ 257 ∷ 257 ∷ 257
    ∷ 0 ∷ 2 ∷ 4 ∷ 6 ∷ 8 ∷ 10
    ∷ 2 ∷ 0 ∷ 2 ∷ 0 ∷ 2 ∷ 0 ∷ 4 ∷ 0 ∷ 4 ∷ 0 ∷ 5 ∷ 32768 ∷ 2 ∷ 32769 ∷ 3 ∷ 32768 ∷ []

-- Clauses p(x) if r(x); p(x) if s(x); r(x) if q(x, x, x, x); s(x) if m(x), twice. Symbols: a, f, p, r, s, q, m.
abbrev pub deck_k : List ℕ
deck_k =
    1 ∷ 7 ∷ 8 ∷ 5 ∷ 15 ∷ 23 ∷ 20 ∷ 43
    ∷ 0 ∷ 1 ∷ 257 ∷ 257 ∷ 257 ∷ 260 ∷ 257
    ∷ 0 ∷ 4 ∷ 8 ∷ 15 ∷ 19
    ∷ 2 ∷ 32768 ∷ 3 ∷ 32768 ∷ 2 ∷ 32768 ∷ 4 ∷ 32768 ∷ 3 ∷ 32768 ∷ 5 ∷ 32768 ∷ 32768 ∷ 32768 ∷ 32768 ∷ 4 ∷ 32768 ∷ 6 ∷ 32768 ∷ 4 ∷ 32768 ∷ 6 ∷ 32768 ∷ []

-- Clauses a if not b; b if not c; c. Symbols: a, b, c.
abbrev pub deck_n : List ℕ
deck_n =
    1 ∷ 3 ∷ 8 ∷ 3 ∷ 11 ∷ 5 ∷ 14 ∷ 19
    ∷ 256 ∷ 256 ∷ 256
    ∷ 0 ∷ 2 ∷ 4
    ∷ 0 ∷ 16385 ∷ 1 ∷ 16386 ∷ 2 ∷ []

-- Clark's P(x) if Q(y) and R(y); Q(h(y)) if Q(y); R(g(y)), with the loose variables x and y. Symbols: a, h, g, P, Q, R.
abbrev pub deck_c : List ℕ
deck_c =
    1 ∷ 6 ∷ 8 ∷ 3 ∷ 14 ∷ 14 ∷ 17 ∷ 31
    ∷ 0 ∷ 1 ∷ 1 ∷ 257 ∷ 257 ∷ 257
    ∷ 0 ∷ 6 ∷ 11
    ∷ 3 ∷ 32768 ∷ 4 ∷ 32769 ∷ 5 ∷ 32769 ∷ 4 ∷ 1 ∷ 32768 ∷ 4 ∷ 32768 ∷ 5 ∷ 2 ∷ 32768 ∷ []

-- The same without loose variables: P(a) if Q(y) and R(y); Q(h(y)) if Q(y); R(g(y)) if R(y).
abbrev pub deck_d : List ℕ
deck_d =
    1 ∷ 6 ∷ 8 ∷ 3 ∷ 14 ∷ 16 ∷ 17 ∷ 33
    ∷ 0 ∷ 1 ∷ 1 ∷ 257 ∷ 257 ∷ 257
    ∷ 0 ∷ 6 ∷ 11
    ∷ 3 ∷ 0 ∷ 4 ∷ 32768 ∷ 5 ∷ 32768 ∷ 4 ∷ 1 ∷ 32768 ∷ 4 ∷ 32768 ∷ 5 ∷ 2 ∷ 32768 ∷ 5 ∷ 32768 ∷ []

-- Clause P(x) if P(f(x)). Symbols: a, f, P.
abbrev pub deck_f : List ℕ
deck_f = 1 ∷ 3 ∷ 8 ∷ 1 ∷ 11 ∷ 5 ∷ 12 ∷ 17 ∷ 0 ∷ 1 ∷ 257 ∷ 0 ∷ 2 ∷ 32768 ∷ 2 ∷ 1 ∷ 32768 ∷ []

-- p if not p: level 32 parks with mark 4, and each level above it with mark 2.
-- r(y) has the answer f(a): the clause's variable is another than the query's.
-- q(y, y) over q(x, f(x)) if e(x): no x is f(x).
-- p(f(..)) with a child over 1,024 words and a sister that would be an answer: the goal itself is parked, and all the equations are paid.
-- The same with one less than that step costs: it is not taken, and nothing is parked.
-- Two ends and room for one: stop "answers".
-- Three children of 405 words and a store of 1,024: stop "store".
-- A parked goal of 344 words, and children of 688 words together: only the parked words make it too much.
-- Two pending goals of 483 words, and a new level's goal of 483 words.
-- not h(f(..)): the new level stops with "store" in its second step, and the goal is still pending.
-- a if not b, b if not c, c: finished in 7 steps; a budget of 5 ends on the second level below.
-- Clark's P(a): with the oldest literal first it fails in three steps. (The budget is small, so that a wrong order shows soon.)
-- Clark's own deck: refused, for its loose variables.
abbrev pub more : List Case
more =
    case deck_p (0 ∷ []) 100000 (shows finished 66 0 0 (undecided ∷ []) 66)
    ∷ case deck_r (1 ∷ 32768 ∷ []) 100000 (shows finished 3 1 0 [] 5)
    ∷ case deck_s (1 ∷ 32768 ∷ 32768 ∷ []) 100000 (shows finished 1 0 0 [] 3)
    ∷ case deck_o (2 ∷ nested 100) 100000 (shows finished 1 0 0 (oversized ∷ []) 103)
    ∷ case deck_o (2 ∷ nested 100) 102 (shows budget 0 0 1 [] 0)
    ∷ record { deck = deck_l; query = 2 ∷ 32768 ∷ []; budget = 9; answer_room = 3; store_size = 1024; expected = shows answers 2 1 1 [] 4 }
    ∷ record { deck = deck_e; query = 2 ∷ 32768 ∷ 3 ∷ nested 400; budget = 9; answer_room = 3; store_size = 1024; expected = shows store 0 0 1 [] 0 }
    ∷ record { deck = deck_k; query = 2 ∷ nested 340; budget = 9; answer_room = 0; store_size = 1024; expected = shows store 2 0 1 (oversized ∷ []) 5 }
    ∷ record { deck = deck_e; query = 4 ∷ 0 ∷ 16387 ∷ nested 479; budget = 9; answer_room = 0; store_size = 1024; expected = shows store 1 0 2 [] 3 }
    ∷ record { deck = deck_e; query = 16389 ∷ nested 340; budget = 9; answer_room = 9; store_size = 1024; expected = shows store 2 0 1 [] 3 }
    ∷ case deck_n (0 ∷ []) 7 (shows finished 7 1 0 [] 7)
    ∷ case deck_n (0 ∷ []) 5 (shows budget 5 0 1 [] 5)
    ∷ case deck_d (3 ∷ 0 ∷ []) 100 (shows finished 3 0 0 [] 6)
    ∷ case deck_c (3 ∷ 0 ∷ []) 100 (refused loose_clause)
    ∷ []

pub more-runs : map actual more ≡ map (λ c. c.expected) more
unfolding rules
more-runs = refl

-- Where the budget ends on a deeper level, the level 0 goal is as it was, its negative literal included.
pub cut-goal : words_of_run store_start (outcome_of (case deck_n (0 ∷ []) 5 (shows budget 5 0 1 [] 5))) ≡ 3 ∷ 0 ∷ 16385 ∷ []
unfolding rules
cut-goal = refl

-- Where a child is oversized, the goal itself is parked, and not the child.
pub oversized-goal : words_of_run store_start (outcome_of (case deck_o (2 ∷ nested 100) 103 (shows finished 1 0 0 (oversized ∷ []) 103))) ≡ 12392 ∷ 0 ∷ 2 ∷ nested 100
unfolding rules
oversized-goal = refl

-- The answer f(a) of r(y).
pub fresh-answer : words_of_run (λ o. answers_after o []) (outcome_of (case deck_r (1 ∷ 32768 ∷ []) 9 (shows finished 3 1 0 [] 5))) ≡ 4 ∷ 2 ∷ 0 ∷ 3 ∷ []
unfolding rules
fresh-answer = refl
