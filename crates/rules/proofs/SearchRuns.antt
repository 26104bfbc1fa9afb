-- Runs for the order of things: of search, of literals, of answers and of the goals left. The comment before a run says which slip it refuses.
use Prim.Native.Nat.{ℕ}
use mathlib.Core.Path.{◌≡◌, refl}
use mathlib.Core.List.{List, [], ◌∷◌, ◌++◌, map}
use lib.ListN.{replicate}
use Rattle.rules.specs.Goals.{oversized}
use Rattle.rules.specs.Evaluation.{finished, budget}
use Rattle.rules.specs.All.{rules}
use Rattle.rules.proofs.Cases.{case, shows}
use Rattle.rules.proofs.Table.{deck_l}
use Rattle.rules.proofs.MoreRuns.{nested, deck_s}
use Rattle.rules.proofs.WordRuns.{words, Row, row, found, wanted}

-- Clauses p(x) if q(x); p(c); q(a); q(b). Symbols: a, b, c, p, q.
abbrev pub deck_a : List ℕ
deck_a =
    1 ∷ 5 ∷ 8 ∷ 4 ∷ 13 ∷ 10 ∷ 17 ∷ 27
    ∷ 0 ∷ 0 ∷ 0 ∷ 257 ∷ 257
    ∷ 0 ∷ 4 ∷ 6 ∷ 8
    ∷ 3 ∷ 32768 ∷ 4 ∷ 32768 ∷ 3 ∷ 2 ∷ 4 ∷ 0 ∷ 4 ∷ 1 ∷ []

-- Clause p if q. Symbols: p, q, s, t of one term.
abbrev pub deck_b : List ℕ
deck_b = 1 ∷ 4 ∷ 8 ∷ 1 ∷ 12 ∷ 2 ∷ 13 ∷ 15 ∷ 256 ∷ 256 ∷ 256 ∷ 257 ∷ 0 ∷ 0 ∷ 1 ∷ []

-- Clauses p(x) if r(x); p(x) if s(x); p(x) if p(x); r(x) if w(x, .., x) and s(x) if w(x, .., x), fifteen times x. Symbols: a, f, p, r, s, w.
abbrev pub deck_f : List ℕ
deck_f =
    1 ∷ 6 ∷ 8 ∷ 5 ∷ 14 ∷ 48 ∷ 19 ∷ 67
    ∷ 0 ∷ 1 ∷ 257 ∷ 257 ∷ 257 ∷ 271
    ∷ 0 ∷ 4 ∷ 8 ∷ 12 ∷ 30
    ∷ 2 ∷ 32768 ∷ 3 ∷ 32768 ∷ 2 ∷ 32768 ∷ 4 ∷ 32768 ∷ 2 ∷ 32768 ∷ 2 ∷ 32768
    ∷ 3 ∷ 32768 ∷ 5 ∷ (replicate 15 32768 ++ (4 ∷ 32768 ∷ 5 ∷ replicate 15 32768))

-- Clauses p(x) if q(x) and not r(x); q(a); q(b). Symbols: a, b, p, q, r.
abbrev pub deck_h : List ℕ
deck_h =
    1 ∷ 5 ∷ 8 ∷ 3 ∷ 13 ∷ 10 ∷ 16 ∷ 26
    ∷ 0 ∷ 0 ∷ 257 ∷ 257 ∷ 257
    ∷ 0 ∷ 6 ∷ 8
    ∷ 2 ∷ 32768 ∷ 3 ∷ 32768 ∷ 16388 ∷ 32768 ∷ 3 ∷ 0 ∷ 3 ∷ 1 ∷ []

-- Clause p(x, y) if q(y, x). Symbols: p, q.
abbrev pub deck_x : List ℕ
deck_x = 1 ∷ 2 ∷ 8 ∷ 1 ∷ 10 ∷ 6 ∷ 11 ∷ 17 ∷ 258 ∷ 258 ∷ 0 ∷ 0 ∷ 32768 ∷ 32769 ∷ 1 ∷ 32769 ∷ 32768 ∷ []

-- Clauses p if not c; p; c if not c. Symbols: p, c.
abbrev pub deck_m : List ℕ
deck_m = 1 ∷ 2 ∷ 8 ∷ 3 ∷ 10 ∷ 5 ∷ 13 ∷ 18 ∷ 256 ∷ 256 ∷ 0 ∷ 2 ∷ 3 ∷ 0 ∷ 16385 ∷ 0 ∷ 1 ∷ 16385 ∷ []

-- Answers a, b, c: breadth-first would list c first; the derived goals come in deck order, the answers in order of listing.
-- not t(x), p, s, t(x): the body q comes after t(x).
-- not t(x), not q, p, t(x): "not q" is selected, neither the "not" with a variable nor a positive literal after it.
-- One goal pending, then two parked in order of parking.
-- "not r(a)" has held: the goal without it stays first, before "not r(b)".
-- q(v1, v0) after the answer terms v0, v1: numbered from the answer terms.
-- Answers a, f(a): what is found for one variable is filled into both answer terms.
-- not p: an inner level that has parked a goal and then succeeds has succeeded.
-- not drawn(a): the goal is dropped.
abbrev pub searches : List Row
searches =
    row (case deck_a (3 ∷ 32768 ∷ []) 9 (shows finished 5 3 0 [] 9)) (words (3 ∷ 1 ∷ 0 ∷ 3 ∷ 1 ∷ 1 ∷ 3 ∷ 1 ∷ 2 ∷ []) [])
    ∷ row (case deck_b (16387 ∷ 32768 ∷ 0 ∷ 2 ∷ 3 ∷ 32768 ∷ []) 1 (shows budget 1 0 1 [] 1)) (words [] (9 ∷ 1 ∷ 32768 ∷ 16387 ∷ 32768 ∷ 2 ∷ 3 ∷ 32768 ∷ 1 ∷ []))
    ∷ row (case deck_b (16387 ∷ 32768 ∷ 16385 ∷ 0 ∷ 3 ∷ 32768 ∷ []) 2 (shows budget 2 0 1 [] 2)) (words [] (8 ∷ 1 ∷ 32768 ∷ 16387 ∷ 32768 ∷ 0 ∷ 3 ∷ 32768 ∷ []))
    ∷ row (case deck_f (2 ∷ nested 100) 8 (shows budget 3 0 1 (oversized ∷ oversized ∷ []) 8))
    (words [] ((104 ∷ 0 ∷ 2 ∷ nested 100) ++ ((12392 ∷ 0 ∷ 3 ∷ nested 100) ++ (12392 ∷ 0 ∷ 4 ∷ nested 100))))
    ∷ row (case deck_h (2 ∷ 32768 ∷ []) 7 (shows budget 4 0 2 [] 7)) (words [] (3 ∷ 1 ∷ 0 ∷ 5 ∷ 1 ∷ 1 ∷ 16388 ∷ 1 ∷ []))
    ∷ row (case deck_x (0 ∷ 32768 ∷ 32769 ∷ []) 3 (shows budget 1 0 1 [] 3)) (words [] (7 ∷ 2 ∷ 32768 ∷ 32769 ∷ 1 ∷ 32769 ∷ 32768 ∷ []))
    ∷ row (case deck_s (1 ∷ 32768 ∷ 32769 ∷ []) 9 (shows finished 3 1 0 [] 6)) (words (5 ∷ 3 ∷ 3 ∷ 0 ∷ 3 ∷ []) [])
    ∷ row (case deck_m (16384 ∷ []) 99 (shows finished 66 0 0 [] 66)) (words [] [])
    ∷ row (case deck_l (16387 ∷ 0 ∷ []) 9 (shows finished 3 0 0 [] 4)) (words [] [])
    ∷ []

pub search-runs : map found searches ≡ map wanted searches
unfolding rules
search-runs = refl
