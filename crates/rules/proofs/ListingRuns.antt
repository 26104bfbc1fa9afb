-- Runs of the program, down to the bytes that it prints, and the program's own checks and numbers, shown by computing them.
use Prim.Native.Nat.{ℕ}
use Prim.Native.Char.{code}
use Prim.Native.String as string
use Prim.Native.String.{String}
use mathlib.Core.Path.{◌≡◌, refl}
use mathlib.Core.List.{List, [], ◌∷◌, ◌++◌, map}
use mathlib.Core.Option.{some, none}
use lib.ListN.{length, replicate}
use Rattle.rules.specs.Terms.{var, app, nil, cons}
use Rattle.rules.specs.Syntax.{Goal}
use Rattle.rules.specs.Evaluation.{finished, budget, answers, store}
use Rattle.rules.specs.Refusals.{bad_header, bad_symbol, bad_starts, long_clause, bad_clause, long_query, bad_query, bad_store, bad_scratch, loose_clause, loose_query, bad_bars, barred_reached, refused, accepted, and_then, require, obtain, checked_number}
use Rattle.rules.specs.Decks.{open_deck}
use Rattle.rules.specs.Run.{run}
use Rattle.rules.specs.Listing.{listing}
use Rattle.rules.specs.Program.{words_from, even, deck_file, query_input, program_run, program}
use Rattle.rules.specs.All.{rules}
use Rattle.rules.proofs.Cases.{case, shows, outcome_of}
use Rattle.rules.proofs.Table.{deck_l, bytes_l}
use Rattle.rules.proofs.MoreRuns.{nested, deck_p, deck_e}
use Rattle.rules.proofs.SearchRuns.{deck_m}
use Rattle.rules.proofs.StoreRuns.{small}

-- The bytes of a text.
abbrev pub text : String → List ℕ
text string.[] = []
text (string.◌∷◌ c s) = code c ∷ text s

-- 1. THE LISTING.

-- L, 3 1 through the program, and p if not p: `no` and `open` exchanged, `no` with a goal parked.
pub says-no : program (some bytes_l) (3 ∷ 0 ∷ 1 ∷ 0 ∷ []) ≡ text "no\nfinished 1 0 0 0 2\n"
unfolding rules
says-no = refl

pub says-open : listing (outcome_of (case deck_p (0 ∷ []) 99 (shows finished 66 0 0 [] 66))) ≡ text "open\nfinished 66 0 0 1 66\n"
unfolding rules
says-open = refl

-- p if not c; p; c if not c: `all` with a goal parked, and the line of an answer without terms.
-- The ends of deck L with budget 4, with room for one answer, and with budget 5: `all` with a spent budget or a full answer list; the stops' words.
-- A goal whose children do not fit: `no` with a full store.
pub verdicts :
    map (λ c. listing (outcome_of c))
    (case deck_m (0 ∷ []) 99 (shows finished 67 1 0 [] 67)
    ∷ small deck_l (2 ∷ 32768 ∷ []) 4 9 (shows budget 2 1 1 [] 4)
    ∷ small deck_l (2 ∷ 32768 ∷ []) 9 5 (shows answers 2 1 1 [] 4)
    ∷ small deck_l (2 ∷ 32768 ∷ []) 5 6 (shows finished 3 2 0 [] 5)
    ∷ small deck_e (2 ∷ 32768 ∷ 3 ∷ nested 400) 9 9 (shows store 0 0 1 [] 0)
    ∷ [])
    ≡ text "open\nfinished 67 1 0 1 67\ntrue\n"
    ∷ text "open\nbudget 2 1 1 0 4\ns0\n"
    ∷ text "open\nanswers 2 1 1 0 4\ns0\n"
    ∷ text "all\nfinished 3 2 0 0 5\ns0\ns1\n"
    ∷ text "open\nstore 0 0 1 0 0\n"
    ∷ []
unfolding rules
verdicts = refl

-- Each of the six numbers in its place, with inner zeros; brackets, commas, a space between terms.
abbrev pub bare : Goal
bare = record { answer_terms = nil; literals = [] }

pub all-marks :
    listing (accepted (record {
      stop = budget;
      steps = 100305;
      cost = 2000040;
      answers = record { answer_terms = cons (app 30 (cons (app 0 nil) (cons (var 0) nil))) (cons (var 10) nil); literals = [] } ∷ bare ∷ [];
      pending = bare ∷ bare ∷ bare ∷ [];
      parked = [];
    }))
    ≡ text "open\nbudget 100305 2 3 0 2000040\ns30(s0,v0) v10\ntrue\n"
unfolding rules
all-marks = refl

-- The numbers of the refusals.
pub refusals :
    map (λ n. listing (refused n)) (bad_header ∷ bad_symbol ∷ bad_starts ∷ long_clause ∷ bad_clause ∷ long_query ∷ bad_query ∷ bad_store ∷ bad_scratch ∷ loose_clause ∷ loose_query ∷ bad_bars ∷ barred_reached ∷ [])
    ≡ text "refused 1\n" ∷ text "refused 2\n" ∷ text "refused 3\n" ∷ text "refused 4\n" ∷ text "refused 5\n" ∷ text "refused 6\n" ∷ text "refused 7\n"
    ∷ text "refused 8\n" ∷ text "refused 9\n" ∷ text "refused 13\n" ∷ text "refused 14\n" ∷ text "refused 15\n" ∷ text "refused 16\n" ∷ []
unfolding rules
refusals = refl

-- 2. THE PROGRAM'S CHECKS.

-- The low byte first.
pub low_first : words_from (1 ∷ 2 ∷ 3 ∷ 4 ∷ []) ≡ 513 ∷ 1027 ∷ []
unfolding rules
low_first = refl

-- A deck of 32,768 bytes, of 32,767, 32,769 and 32,770. A query of 1,000 bytes, of 999, 1,001 and 1,002: 6 before 7.
pub byte-counts :
    map (λ n. checked_number (deck_file (some (replicate n 0)))) (32768 ∷ 32767 ∷ 32769 ∷ 32770 ∷ [])
    ++ map (λ n. checked_number (query_input (replicate n 0))) (1000 ∷ 999 ∷ 1001 ∷ 1002 ∷ [])
    ≡ 0 ∷ 1 ∷ 1 ∷ 1 ∷ 0 ∷ 7 ∷ 6 ∷ 6 ∷ []
unfolding rules
byte-counts = refl

-- The bytes of the q(x, f(x)) deck.
abbrev pub bytes_q : List ℕ
bytes_q =
    1 ∷ 0 ∷ 2 ∷ 0 ∷ 8 ∷ 0 ∷ 1 ∷ 0 ∷ 10 ∷ 0 ∷ 4 ∷ 0 ∷ 11 ∷ 0 ∷ 15 ∷ 0
    ∷ 1 ∷ 0 ∷ 2 ∷ 1 ∷ 0 ∷ 0 ∷ 1 ∷ 0 ∷ 0 ∷ 128 ∷ 0 ∷ 0 ∷ 0 ∷ 128 ∷ []

-- No deck and an odd query; an odd deck and a long query; a deck of one word and a long query; a bad symbol word and an odd query: the query looked
-- at before the deck. Deck L and a long odd query, an odd one, one that is not literals.
-- Loose variables: a deck q(x, f(x)) and a query that is not literals; the same and one that has a loose variable too; deck L and that: 7 before 13, 13 before 14.
pub program-order :
    program none (3 ∷ [])
    ∷ program (some (bytes_l ++ (0 ∷ []))) (replicate 1001 0)
    ∷ program (some (1 ∷ 0 ∷ [])) (replicate 1001 0)
    ∷ program (some (1 ∷ 0 ∷ 1 ∷ 0 ∷ 8 ∷ 0 ∷ 0 ∷ 0 ∷ 9 ∷ 0 ∷ 0 ∷ 0 ∷ 9 ∷ 0 ∷ 9 ∷ 0 ∷ 16 ∷ 0 ∷ [])) (3 ∷ [])
    ∷ program (some bytes_l) (replicate 1001 0)
    ∷ program (some bytes_l) (3 ∷ [])
    ∷ program (some bytes_l) (0 ∷ 0 ∷ [])
    ∷ program (some bytes_q) (0 ∷ 0 ∷ [])
    ∷ program (some bytes_q) (1 ∷ 64 ∷ 0 ∷ 128 ∷ 0 ∷ 128 ∷ [])
    ∷ program (some bytes_l) (3 ∷ 64 ∷ 0 ∷ 128 ∷ [])
    ∷ []
    ≡ text "refused 1\n" ∷ text "refused 1\n" ∷ text "refused 1\n" ∷ text "refused 2\n" ∷ text "refused 6\n" ∷ text "refused 7\n" ∷ text "refused 7\n"
    ∷ text "refused 7\n" ∷ text "refused 13\n" ∷ text "refused 14\n" ∷ []
unfolding rules
program-order = refl

-- 3. THE PROGRAM'S NUMBERS: budget 100,000, answer list 8,192, store 16,384, scratch 8,192; nothing is barred. Only the program is opened here, not the run.
pub program-numbers :
    program_run (some bytes_l) (4 ∷ 0 ∷ 0 ∷ 128 ∷ []) ≡ and_then (open_deck deck_l) (λ deck. run deck_l (4 ∷ 32768 ∷ []) (replicate (length deck.symbols) 0) 100000 8192 16384 8192)
unfolding and_then require obtain words_from even deck_file query_input program_run
program-numbers = refl
