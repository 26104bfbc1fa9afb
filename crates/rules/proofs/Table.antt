-- The runs of document 01 that have a star, with budgets and costs as document 02 has them (U6), shown about the written rules by computing them.
use Prim.Native.Nat.{ℕ}
use mathlib.Core.Path.{◌≡◌, refl}
use mathlib.Core.List.{List, [], ◌∷◌, map}
use mathlib.Core.Option.{some}
use Rattle.rules.specs.Refusals.{loose_clause, loose_query, refused}
use Rattle.rules.specs.Evaluation.{finished, budget}
use Rattle.rules.specs.Run.{answers_after}
use Rattle.rules.specs.Program.{program}
use Rattle.rules.specs.All.{rules}
use Rattle.rules.proofs.Cases.{Case, case, shows, actual, outcome_of, words_of_run}

-- Deck L: end of a, end of b; a is drawn; x is a lead if x is an end and not drawn.
abbrev pub deck_l : List ℕ
deck_l =
    1 ∷ 5 ∷ 8 ∷ 4 ∷ 13 ∷ 12 ∷ 17 ∷ 29
    ∷ 0 ∷ 0 ∷ 257 ∷ 257 ∷ 257
    ∷ 0 ∷ 2 ∷ 4 ∷ 6
    ∷ 2 ∷ 0 ∷ 2 ∷ 1 ∷ 3 ∷ 0 ∷ 4 ∷ 32768 ∷ 2 ∷ 32768 ∷ 16387 ∷ 32768 ∷ []

-- Clause q(x, f(x)), whose variable is loose. Symbols: f, q.
abbrev pub deck_q : List ℕ
deck_q = 1 ∷ 2 ∷ 8 ∷ 1 ∷ 10 ∷ 4 ∷ 11 ∷ 15 ∷ 1 ∷ 258 ∷ 0 ∷ 1 ∷ 32768 ∷ 0 ∷ 32768 ∷ []

-- THE STARRED RUNS, after document 02: the floundering query is refused with 14 and the q(x, f(x)) deck with 13 (U5).
abbrev pub starred : List Case
starred =
    case deck_l (4 ∷ 32768 ∷ []) 13 (shows finished 8 1 0 [] 13)
    ∷ case deck_l (4 ∷ 32768 ∷ []) 12 (shows budget 7 0 1 [] 12)
    ∷ case deck_l (4 ∷ 32768 ∷ []) 8 (shows budget 4 0 2 [] 8)
    ∷ case deck_l (4 ∷ 32768 ∷ []) 7 (shows budget 3 0 2 [] 6)
    ∷ case deck_l (4 ∷ 32768 ∷ []) 4 (shows budget 1 0 1 [] 2)
    ∷ case deck_l (4 ∷ 32768 ∷ []) 0 (shows budget 0 0 1 [] 0)
    ∷ case deck_l (16387 ∷ 32768 ∷ []) 100000 (refused loose_query)
    ∷ case deck_l [] 100000 (shows finished 1 1 0 [] 1)
    ∷ case deck_l (3 ∷ 1 ∷ []) 100000 (shows finished 1 0 0 [] 2)
    ∷ case deck_l (3 ∷ 0 ∷ []) 100000 (shows finished 2 1 0 [] 3)
    ∷ case deck_q (1 ∷ 32768 ∷ 32768 ∷ []) 100000 (refused loose_clause)
    ∷ []

pub starred-runs : map actual starred ≡ map (λ c. c.expected) starred
unfolding rules
starred-runs = refl

-- The words that query 4 32768 with budget 13 leaves in an answer list of five words.
pub answer-words : words_of_run (λ o. answers_after o (7 ∷ 7 ∷ 7 ∷ 7 ∷ 7 ∷ [])) (outcome_of (case deck_l (4 ∷ 32768 ∷ []) 13 (shows finished 8 1 0 [] 13))) ≡ 3 ∷ 1 ∷ 1 ∷ 7 ∷ 7 ∷ []
unfolding rules
answer-words = refl

-- A word's bytes, the low one first.
abbrev pub bytes_l : List ℕ
bytes_l =
    1 ∷ 0 ∷ 5 ∷ 0 ∷ 8 ∷ 0 ∷ 4 ∷ 0 ∷ 13 ∷ 0 ∷ 12 ∷ 0 ∷ 17 ∷ 0 ∷ 29 ∷ 0
    ∷ 0 ∷ 0 ∷ 0 ∷ 0 ∷ 1 ∷ 1 ∷ 1 ∷ 1 ∷ 1 ∷ 1
    ∷ 0 ∷ 0 ∷ 2 ∷ 0 ∷ 4 ∷ 0 ∷ 6 ∷ 0
    ∷ 2 ∷ 0 ∷ 0 ∷ 0 ∷ 2 ∷ 0 ∷ 1 ∷ 0 ∷ 3 ∷ 0 ∷ 0 ∷ 0 ∷ 4 ∷ 0 ∷ 0 ∷ 128 ∷ 2 ∷ 0 ∷ 0 ∷ 128 ∷ 3 ∷ 64 ∷ 0 ∷ 128 ∷ []

-- The listing of query 4 32768 over deck L: "all", "finished 8 1 0 0 13", "s1".
pub listing-bytes :
    program (some bytes_l) (4 ∷ 0 ∷ 0 ∷ 128 ∷ [])
    ≡ 97 ∷ 108 ∷ 108 ∷ 10 ∷ 102 ∷ 105 ∷ 110 ∷ 105 ∷ 115 ∷ 104 ∷ 101 ∷ 100 ∷ 32 ∷ 56 ∷ 32 ∷ 49 ∷ 32 ∷ 48 ∷ 32 ∷ 48 ∷ 32 ∷ 49 ∷ 51 ∷ 10 ∷ 115 ∷ 49 ∷ 10 ∷ []
unfolding rules
listing-bytes = refl
