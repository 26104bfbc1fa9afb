-- Runs of calls for drill terms (document 02, U12), shown by computing them: refusal 19 just met and just missed, rooms just enough and just too short, the rest of the list, and the program.
use Prim.Native.Nat.{ℕ}
use mathlib.Core.Path.{◌≡◌, refl}
use mathlib.Core.List.{List, [], ◌∷◌, ◌++◌, map}
use mathlib.Core.Option.{some, none}
use Rattle.rules.specs.Refusals.{checked_number}
use Rattle.rules.specs.Drill.{fitting, drill, list_after}
use Rattle.rules.specs.DrillProgram.{drill_program}
use Rattle.rules.specs.All.{rules}
use Rattle.rules.proofs.RefusalRuns.{deck_of}
use Rattle.rules.proofs.ListingRuns.{text}

-- Two constants 0 and 3, a unary functor 1, a predicate 2 of arity 1 and a binary functor 4.
abbrev pub drill_symbols : List ℕ
drill_symbols = 0 ∷ 1 ∷ 257 ∷ 0 ∷ 2 ∷ []

-- The number that a call on them ends with, for N and a given term.
abbrev pub asked_number : ℕ → List ℕ → ℕ
asked_number N given = checked_number (drill (deck_of drill_symbols [] []) N given 8)

-- One constant: N = 0, 8 and 9 after no term, then 8 and 9 after the constant.
abbrev pub constant_number : ℕ → List ℕ → ℕ
constant_number N given = checked_number (drill (deck_of (0 ∷ []) [] []) N given 8)

pub sizes-drilled :
    map (λ N. constant_number N []) (0 ∷ 8 ∷ 9 ∷ []) ++ map (λ N. constant_number N (0 ∷ [])) (8 ∷ 9 ∷ [])
    ≡ 0 ∷ 0 ∷ 19 ∷ 0 ∷ 19 ∷ []
unfolding rules
sizes-drilled = refl

-- Taken, with N = 3: 0; f(0); g(0, 3), of just N cells. Not taken, with N = 2: a term of 3 cells; a predicate, alone and inside a term; a variable, alone and inside a term; an unknown symbol;
-- cells left over, one and a whole term; unfinished, by one term, by one of two, and by two. Nor a term with N = 0.
pub given-terms :
    map (asked_number 3) ((0 ∷ []) ∷ (1 ∷ 0 ∷ []) ∷ (4 ∷ 0 ∷ 3 ∷ []) ∷ [])
    ++ map (asked_number 2)
    ((4 ∷ 0 ∷ 3 ∷ []) ∷ (2 ∷ 0 ∷ []) ∷ (1 ∷ 2 ∷ []) ∷ (32768 ∷ []) ∷ (1 ∷ 32768 ∷ []) ∷ (5 ∷ []) ∷ (0 ∷ 5 ∷ []) ∷ (0 ∷ 3 ∷ []) ∷ (1 ∷ []) ∷ (4 ∷ 0 ∷ []) ∷ (4 ∷ []) ∷ [])
    ++ (asked_number 0 (0 ∷ []) ∷ [])
    ≡ 0 ∷ 0 ∷ 0 ∷ 19 ∷ 19 ∷ 19 ∷ 19 ∷ 19 ∷ 19 ∷ 19 ∷ 19 ∷ 19 ∷ 19 ∷ 19 ∷ 19 ∷ []
unfolding rules
given-terms = refl

-- A refused deck before 19: no words; a bad symbol word; cells without a clause. A deck with a loose variable is listed.
pub deck-first :
    checked_number (drill [] 9 [] 8)
    ∷ checked_number (drill (deck_of (16 ∷ []) [] []) 9 [] 8)
    ∷ checked_number (drill (deck_of (0 ∷ []) [] (0 ∷ [])) 1 (1 ∷ []) 8)
    ∷ checked_number (drill (deck_of (0 ∷ 257 ∷ []) (0 ∷ []) (1 ∷ 32768 ∷ [])) 1 [] 8)
    ∷ []
    ≡ 1 ∷ 2 ∷ 3 ∷ 0 ∷ []
unfolding rules
deck-first = refl

-- Terms of 1, 2 and 2 cells in rooms of 0 to 5: a term that just fits is written, one that does not ends the list.
pub fitting-rooms :
    map (λ room. fitting room ((0 ∷ []) ∷ (1 ∷ 0 ∷ []) ∷ (1 ∷ 3 ∷ []) ∷ [])) (0 ∷ 1 ∷ 2 ∷ 3 ∷ 4 ∷ 5 ∷ [])
    ≡ []
    ∷ ((0 ∷ []) ∷ [])
    ∷ ((0 ∷ []) ∷ [])
    ∷ ((0 ∷ []) ∷ (1 ∷ 0 ∷ []) ∷ [])
    ∷ ((0 ∷ []) ∷ (1 ∷ 0 ∷ []) ∷ [])
    ∷ ((0 ∷ []) ∷ (1 ∷ 0 ∷ []) ∷ (1 ∷ 3 ∷ []) ∷ [])
    ∷ []
unfolding rules
fitting-rooms = refl

-- What the list holds after a call: all terms of 2 cells in a list of 7; after f(0), the next; after the last, none; after a refusal.
abbrev pub list_of : ℕ → List ℕ → List ℕ
list_of N given = let before = 90 ∷ 91 ∷ 92 ∷ 93 ∷ 94 ∷ 95 ∷ 96 ∷ [] in list_after (drill (deck_of drill_symbols [] []) N given 7) before

pub lists-left :
    list_of 2 [] ∷ list_of 2 (1 ∷ 0 ∷ []) ∷ list_of 2 (1 ∷ 3 ∷ []) ∷ list_of 9 [] ∷ []
    ≡ (0 ∷ 3 ∷ 1 ∷ 0 ∷ 1 ∷ 3 ∷ 96 ∷ [])
    ∷ (1 ∷ 3 ∷ 92 ∷ 93 ∷ 94 ∷ 95 ∷ 96 ∷ [])
    ∷ (90 ∷ 91 ∷ 92 ∷ 93 ∷ 94 ∷ 95 ∷ 96 ∷ [])
    ∷ (90 ∷ 91 ∷ 92 ∷ 93 ∷ 94 ∷ 95 ∷ 96 ∷ [])
    ∷ []
unfolding rules
lists-left = refl

-- The bytes of the deck of these symbols, low byte first.
abbrev pub drill_bytes : List ℕ
drill_bytes = 1 ∷ 0 ∷ 5 ∷ 0 ∷ 8 ∷ 0 ∷ 0 ∷ 0 ∷ 13 ∷ 0 ∷ 0 ∷ 0 ∷ 13 ∷ 0 ∷ 13 ∷ 0 ∷ 0 ∷ 0 ∷ 1 ∷ 0 ∷ 1 ∷ 1 ∷ 0 ∷ 0 ∷ 2 ∷ 0 ∷ []

-- The program: N = 2 from the start; N = 3 after g(0, 3); N = 9; no input; an odd input; no deck and N = 9.
pub programs-drill :
    map (drill_program (some drill_bytes)) ((2 ∷ 0 ∷ []) ∷ (3 ∷ 0 ∷ 4 ∷ 0 ∷ 0 ∷ 0 ∷ 3 ∷ 0 ∷ []) ∷ (9 ∷ 0 ∷ []) ∷ [] ∷ (2 ∷ 0 ∷ 0 ∷ []) ∷ []) ++ (drill_program none (9 ∷ 0 ∷ []) ∷ [])
    ≡ text "s0\ns3\ns1(s0)\ns1(s3)\n" ∷ text "s4(s3,s0)\ns4(s3,s3)\n" ∷ text "refused 19\n" ∷ text "refused 19\n" ∷ text "refused 19\n" ∷ text "refused 1\n" ∷ []
unfolding rules
programs-drill = refl
