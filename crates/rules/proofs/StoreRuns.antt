-- Runs for the bounds: 1,024 words a goal, the words held at every level, the answer list, and the order of the stops.
-- The comment before a run says which slip it refuses. Each store has 1,024 words.
use Prim.Native.Nat.{ℕ}
use mathlib.Core.Path.{◌≡◌, refl}
use mathlib.Core.List.{List, [], ◌∷◌, ◌++◌, map}
use lib.ListN.{replicate}
use Rattle.rules.specs.Goals.{undecided, oversized}
use Rattle.rules.specs.Refusals.{Checked}
use Rattle.rules.specs.Evaluation.{finished, budget, answers, store}
use Rattle.rules.specs.All.{rules}
use Rattle.rules.proofs.Cases.{Case, Line, shows}
use Rattle.rules.proofs.Table.{deck_l}
use Rattle.rules.proofs.MoreRuns.{nested, deck_e}
use Rattle.rules.proofs.WordRuns.{words, Row, row, found, wanted}

-- Clauses p(x) if q(x, x, x, a); r(x) if s(x, x, x, a, a). Symbols: a, f, p, q, r, s.
abbrev pub deck_c : List ℕ
deck_c =
    1 ∷ 6 ∷ 8 ∷ 2 ∷ 14 ∷ 15 ∷ 16 ∷ 31
    ∷ 0 ∷ 1 ∷ 257 ∷ 260 ∷ 257 ∷ 261
    ∷ 0 ∷ 7
    ∷ 2 ∷ 32768 ∷ 3 ∷ 32768 ∷ 32768 ∷ 32768 ∷ 0 ∷ 4 ∷ 32768 ∷ 5 ∷ 32768 ∷ 32768 ∷ 32768 ∷ 0 ∷ 0 ∷ []

-- Clauses t(a), twice; t(a) if u; s(a), twice; s(a) if u and u. Symbols: a, f, t, s, g, u without terms.
abbrev pub deck_t : List ℕ
deck_t =
    1 ∷ 6 ∷ 8 ∷ 6 ∷ 14 ∷ 15 ∷ 20 ∷ 35
    ∷ 0 ∷ 1 ∷ 257 ∷ 257 ∷ 257 ∷ 256
    ∷ 0 ∷ 2 ∷ 4 ∷ 7 ∷ 9 ∷ 11
    ∷ 2 ∷ 0 ∷ 2 ∷ 0 ∷ 2 ∷ 0 ∷ 5 ∷ 3 ∷ 0 ∷ 3 ∷ 0 ∷ 3 ∷ 0 ∷ 5 ∷ 5 ∷ []

-- Clauses t(f(..)), twenty times f; t(x) if w(x, .., x), fifteen times x, twice. Symbols: a, f, t, w, g, u without terms.
abbrev pub deck_u : List ℕ
deck_u =
    1 ∷ 6 ∷ 8 ∷ 3 ∷ 14 ∷ 58 ∷ 17 ∷ 75
    ∷ 0 ∷ 1 ∷ 257 ∷ 271 ∷ 257 ∷ 256
    ∷ 0 ∷ 22 ∷ 40
    ∷ 2 ∷ (nested 20 ++ (2 ∷ 32768 ∷ 3 ∷ (replicate 15 32768 ++ (2 ∷ 32768 ∷ 3 ∷ replicate 15 32768))))

-- Clauses t(x) if v(x); t(x) if m(x); v(x) if z(x, x, x, x); m(x) if w(x), twice. Symbols: a, f, t, v, m, w, z.
abbrev pub deck_v : List ℕ
deck_v =
    1 ∷ 7 ∷ 8 ∷ 5 ∷ 15 ∷ 23 ∷ 20 ∷ 43
    ∷ 0 ∷ 1 ∷ 257 ∷ 257 ∷ 257 ∷ 257 ∷ 260
    ∷ 0 ∷ 4 ∷ 8 ∷ 15 ∷ 19
    ∷ 2 ∷ 32768 ∷ 3 ∷ 32768 ∷ 2 ∷ 32768 ∷ 4 ∷ 32768 ∷ 3 ∷ 32768 ∷ 6 ∷ 32768 ∷ 32768 ∷ 32768 ∷ 32768 ∷ 4 ∷ 32768 ∷ 5 ∷ 32768 ∷ 4 ∷ 32768 ∷ 5 ∷ 32768 ∷ []

-- A deck, a query, the budget, the length of the answer list and what the run shows.
abbrev pub small : List ℕ → List ℕ → ℕ → ℕ → Checked Line → Case
small deck query total room expected = record { deck = deck; query = query; budget = total; answer_room = room; store_size = 1024; expected = expected }

-- A child of 1,024 words is derived: a limit of 1,023.
-- A child of 1,025 words parks its goal: a limit of 1,025.
-- Children of 341, 341 and 342 words: a store exactly full counted as over.
-- Children of 341, 341 and 343 words: one word too many let through.
-- The same with one less than the step costs: the store looked at before the budget.
-- A goal of 386 words outside, and on level 1 goals of 2, 318 and 318 words, of which the first has no literals: a success refused where the store is full.
-- A goal of 387 words outside: the words of outer levels not held.
-- Two goals of 342 words and a new level's goal of 340: a new level refused where its goal just fits.
-- A goal of 304 words outside, one of 304 words parked on level 1, then two of 304 words there: a deeper level's parked words held.
-- Two answers of 3 words, and room for 6, for 5, and for 3 with the budget spent: an exactly full answer list counted as over, one word too many let
-- through, the answer list looked at before the budget.
abbrev pub bounds : List Row
bounds =
    row (small deck_c (2 ∷ nested 339) 9 0 (shows finished 2 0 0 [] 3)) (words [] [])
    ∷ row (small deck_c (4 ∷ nested 339) 9 0 (shows finished 1 0 0 (oversized ∷ []) 2)) (words [] (12631 ∷ 0 ∷ 4 ∷ nested 339))
    ∷ row (small deck_t (2 ∷ 0 ∷ 4 ∷ nested 337) 4 0 (shows budget 1 0 3 [] 4))
    (words [] ((341 ∷ 0 ∷ 4 ∷ nested 337) ++ ((341 ∷ 0 ∷ 4 ∷ nested 337) ++ (342 ∷ 0 ∷ 4 ∷ (nested 337 ++ (5 ∷ []))))))
    ∷ row (small deck_t (3 ∷ 0 ∷ 4 ∷ nested 337) 4 0 (shows store 0 0 1 [] 0)) (words [] (343 ∷ 0 ∷ 3 ∷ 0 ∷ 4 ∷ nested 337))
    ∷ row (small deck_t (3 ∷ 0 ∷ 4 ∷ nested 337) 3 0 (shows budget 0 0 1 [] 0)) (words [] (343 ∷ 0 ∷ 3 ∷ 0 ∷ 4 ∷ nested 337))
    ∷ row (small deck_u (16386 ∷ (nested 20 ++ (4 ∷ nested 360))) 26 0 (shows finished 3 0 0 [] 26)) (words [] [])
    ∷ row (small deck_u (16386 ∷ (nested 20 ++ (4 ∷ (nested 360 ++ (5 ∷ []))))) 26 0 (shows store 1 0 1 [] 1))
    (words [] (387 ∷ 0 ∷ 16386 ∷ (nested 20 ++ (4 ∷ (nested 360 ++ (5 ∷ []))))))
    ∷ row (small deck_e (4 ∷ 0 ∷ 16387 ∷ (nested 336 ++ (2 ∷ 0 ∷ []))) 5 0 (shows budget 3 0 2 [] 5))
    (words [] (4 ∷ 0 ∷ 2 ∷ 0 ∷ 342 ∷ 0 ∷ 16387 ∷ (nested 336 ++ (2 ∷ 0 ∷ []))))
    ∷ row (small deck_v (16386 ∷ nested 300) 11 0 (shows finished 6 0 0 (undecided ∷ []) 11)) (words [] (8496 ∷ 0 ∷ 16386 ∷ nested 300))
    ∷ row (small deck_l (2 ∷ 32768 ∷ []) 9 6 (shows finished 3 2 0 [] 5)) (words (3 ∷ 1 ∷ 0 ∷ 3 ∷ 1 ∷ 1 ∷ []) [])
    ∷ row (small deck_l (2 ∷ 32768 ∷ []) 9 5 (shows answers 2 1 1 [] 4)) (words (3 ∷ 1 ∷ 0 ∷ []) (3 ∷ 1 ∷ 1 ∷ []))
    ∷ row (small deck_l (2 ∷ 32768 ∷ []) 4 3 (shows budget 2 1 1 [] 4)) (words (3 ∷ 1 ∷ 0 ∷ []) (3 ∷ 1 ∷ 1 ∷ []))
    ∷ []

pub store-runs : map found bounds ≡ map wanted bounds
unfolding rules
store-runs = refl
