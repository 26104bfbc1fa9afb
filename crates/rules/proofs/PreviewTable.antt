-- Previews (document 02, U11), shown about the written rules by computing them.
use Prim.Native.Nat.{ℕ}
use mathlib.Core.Path.{◌≡◌, refl}
use mathlib.Core.List.{List, [], ◌∷◌, ◌++◌, map}
use lib.ListN.{replicate}
use Rattle.rules.specs.Refusals.{Checked, refused, bad_header, bad_symbol, bad_starts, long_clause, bad_clause, long_query, bad_query, bad_store, bad_scratch, loose_clause, loose_query, bad_bars, barred_reached}
use Rattle.rules.specs.Goals.{undecided}
use Rattle.rules.specs.Evaluation.{finished, budget}
use Rattle.rules.specs.Run.{answers_after, store_start}
use Rattle.rules.specs.Preview.{lengthened, preview}
use Rattle.rules.specs.All.{rules}
use Rattle.rules.proofs.Cases.{Line, shows, shown, words_of_run}
use Rattle.rules.proofs.Table.{deck_l, deck_q}
use Rattle.rules.proofs.IndexTable.{deck_of}
use Rattle.rules.proofs.FormatTable.{deck_m, deck_l2}

-- THE COPIES, word by word: deck L with drawn(b), in both formats; deck M with shot(a, 28); a deck without clauses, with p.
pub copies :
    lengthened deck_l (3 ∷ 1 ∷ []) ∷ lengthened deck_l2 (3 ∷ 1 ∷ []) ∷ lengthened deck_m (4 ∷ 0 ∷ 3 ∷ [])
    ∷ lengthened (1 ∷ 1 ∷ 8 ∷ 0 ∷ 9 ∷ 0 ∷ 9 ∷ 9 ∷ 256 ∷ []) (0 ∷ []) ∷ []
    ≡ (1 ∷ 5 ∷ 8 ∷ 5 ∷ 13 ∷ 14 ∷ 18 ∷ 32 ∷ 0 ∷ 0 ∷ 257 ∷ 257 ∷ 257 ∷ 0 ∷ 2 ∷ 4 ∷ 6 ∷ 12
    ∷ 2 ∷ 0 ∷ 2 ∷ 1 ∷ 3 ∷ 0 ∷ 4 ∷ 32768 ∷ 2 ∷ 32768 ∷ 16387 ∷ 32768 ∷ 3 ∷ 1 ∷ [])
    ∷ (2 ∷ 5 ∷ 8 ∷ 5 ∷ 18 ∷ 14 ∷ 23 ∷ 37 ∷ 0 ∷ 0 ∷ 0 ∷ 0 ∷ 257 ∷ 0 ∷ 257 ∷ 0 ∷ 257 ∷ 0 ∷ 0 ∷ 2 ∷ 4 ∷ 6 ∷ 12
    ∷ 2 ∷ 0 ∷ 2 ∷ 1 ∷ 3 ∷ 0 ∷ 4 ∷ 32768 ∷ 2 ∷ 32768 ∷ 16387 ∷ 32768 ∷ 3 ∷ 1 ∷ [])
    ∷ (2 ∷ 5 ∷ 8 ∷ 3 ∷ 18 ∷ 9 ∷ 21 ∷ 30 ∷ 0 ∷ 0 ∷ 0 ∷ 0 ∷ 512 ∷ 65501 ∷ 512 ∷ 28 ∷ 258 ∷ 0 ∷ 0 ∷ 3 ∷ 6 ∷ 4 ∷ 0 ∷ 2 ∷ 4 ∷ 1 ∷ 3 ∷ 4 ∷ 0 ∷ 3 ∷ [])
    ∷ (1 ∷ 1 ∷ 8 ∷ 1 ∷ 9 ∷ 1 ∷ 10 ∷ 11 ∷ 256 ∷ 0 ∷ 0 ∷ [])
    ∷ []
unfolding rules
copies = refl

-- A deck, a clause, a query, a member's list, and what the preview shows.
record Try : Type 0 where
  deck : List ℕ
  clause : List ℕ
  query : List ℕ
  bars : List ℕ
  most : ℕ
  expected : Checked Line

abbrev try : List ℕ → List ℕ → List ℕ → List ℕ → ℕ → Checked Line → Try
try deck clause query bars most expected = record { deck = deck; clause = clause; query = query; bars = bars; most = most; expected = expected }

abbrev actual : Try → Checked Line
actual t = shown (preview t.deck t.clause t.query t.bars t.most 8192 16384 8192)

-- Deck L: symbols a, b, end, drawn, lead; its lists bar nothing, drawn, lead.
abbrev free : List ℕ
free = 0 ∷ 0 ∷ 0 ∷ 0 ∷ 0 ∷ []

abbrev drawn_barred : List ℕ
drawn_barred = 0 ∷ 0 ∷ 0 ∷ 1 ∷ 0 ∷ []

abbrev lead_barred : List ℕ
lead_barred = 0 ∷ 0 ∷ 0 ∷ 0 ∷ 1 ∷ []

-- WOULD DRAWING B CLOSE THE LEAD? lead(x) with drawn(b): there is none any more. The same in format 2. With a budget of 14, and of 0.
-- With lead(a) at the end: it comes after b. With end(b) once more: b twice. With end(a) if drawn(b): nothing new.
-- With drawn(b) if not drawn(b): undecided whether b is one.
-- Deck M: shot(x, y) with shot(a, 28). A first clause. 64 facts p(c₀) .. and a 65th: rows are built, and six clauses tried.
abbrev tries : List Try
tries =
    try deck_l (3 ∷ 1 ∷ []) (4 ∷ 32768 ∷ []) free 100 (shows finished 8 0 0 [] 15)
    ∷ try deck_l2 (3 ∷ 1 ∷ []) (4 ∷ 32768 ∷ []) free 100 (shows finished 8 0 0 [] 15)
    ∷ try deck_l (3 ∷ 1 ∷ []) (4 ∷ 32768 ∷ []) free 14 (shows budget 7 0 1 [] 14)
    ∷ try deck_l (3 ∷ 1 ∷ []) (4 ∷ 32768 ∷ []) free 0 (shows budget 0 0 1 [] 0)
    ∷ try deck_l (4 ∷ 0 ∷ []) (4 ∷ 32768 ∷ []) free 100 (shows finished 9 2 0 [] 15)
    ∷ try deck_l (2 ∷ 1 ∷ []) (4 ∷ 32768 ∷ []) free 100 (shows finished 11 2 0 [] 18)
    ∷ try deck_l (2 ∷ 0 ∷ 3 ∷ 1 ∷ []) (4 ∷ 32768 ∷ []) free 100 (shows finished 11 1 0 [] 18)
    ∷ try deck_l (3 ∷ 1 ∷ 16387 ∷ 1 ∷ []) (4 ∷ 32768 ∷ []) free 100000 (shows finished 70 0 0 (undecided ∷ []) 139)
    ∷ try deck_m (4 ∷ 0 ∷ 3 ∷ []) (4 ∷ 32768 ∷ 32769 ∷ []) free 100 (shows finished 4 3 0 [] 10)
    ∷ try (1 ∷ 1 ∷ 8 ∷ 0 ∷ 9 ∷ 0 ∷ 9 ∷ 9 ∷ 256 ∷ []) (0 ∷ []) (0 ∷ []) (0 ∷ []) 100 (shows finished 2 1 0 [] 2)
    ∷ try (deck_of 40 64) (40 ∷ 0 ∷ []) (40 ∷ 0 ∷ []) (replicate 41 0) 100 (shows finished 4 3 0 [] 10)
    ∷ []

pub tries-show : map actual tries ≡ map (λ t. t.expected) tries
unfolding rules
tries-show = refl

-- The words that are left: the answers b and a, in this order, and nothing after them; after one step the goal still open.
pub words-left :
    words_of_run (λ o. answers_after o (7 ∷ 7 ∷ 7 ∷ 7 ∷ 7 ∷ 7 ∷ 7 ∷ [])) (preview deck_l (4 ∷ 0 ∷ []) (4 ∷ 32768 ∷ []) free 100 7 1024 8192)
    ∷ words_of_run store_start (preview deck_l (4 ∷ 0 ∷ []) (4 ∷ 32768 ∷ []) free 3 7 1024 8192)
    ∷ []
    ≡ (3 ∷ 1 ∷ 1 ∷ 3 ∷ 1 ∷ 0 ∷ 7 ∷ []) ∷ (7 ∷ 1 ∷ 32768 ∷ 2 ∷ 32768 ∷ 16387 ∷ 32768 ∷ 3 ∷ 1 ∷ 0 ∷ []) ∷ []
unfolding rules
words-left = refl

-- THE CHECKS. The deck alone comes first: with 2, with 3, with 5, whatever the clause is. Then the copy: a word over 16,384, and just 16,384 words;
-- no cells; 257 cells, no clause either; a variable, a functor, a negated head, misnumbered, a term short, a term over.
-- Then the run's: 6, 7; 13 of the copy, whether of the clause or of the deck; 14; 15, 16.
abbrev bad_2 : List ℕ
bad_2 = 1 ∷ 2 ∷ 8 ∷ 1 ∷ 10 ∷ 1 ∷ 11 ∷ 12 ∷ 300 ∷ 256 ∷ 0 ∷ 1 ∷ []

abbrev bad_3 : List ℕ
bad_3 = 1 ∷ 1 ∷ 8 ∷ 1 ∷ 9 ∷ 1 ∷ 10 ∷ 11 ∷ 256 ∷ 1 ∷ 0 ∷ []

abbrev bad_5 : List ℕ
bad_5 = 1 ∷ 1 ∷ 8 ∷ 1 ∷ 9 ∷ 1 ∷ 10 ∷ 11 ∷ 256 ∷ 0 ∷ 16384 ∷ []

abbrev refusals : List Try
refusals =
    try bad_2 [] [] [] 9 (refused bad_symbol)
    ∷ try bad_3 (replicate 257 0) [] [] 9 (refused bad_starts)
    ∷ try bad_5 (0 ∷ []) (0 ∷ []) (0 ∷ []) 9 (refused bad_clause)
    ∷ try bad_5 (replicate 16384 0) [] [] 9 (refused bad_clause)
    ∷ try deck_l (replicate 16355 0) [] [] 9 (refused bad_header)
    ∷ try deck_l (replicate 16354 0) [] [] 9 (refused long_clause)
    ∷ try deck_l [] (replicate 501 0) [] 9 (refused bad_starts)
    ∷ try deck_l (replicate 257 32768) [] [] 9 (refused long_clause)
    ∷ try deck_l (replicate 256 32768) [] [] 9 (refused bad_clause)
    ∷ try deck_l (0 ∷ []) [] free 9 (refused bad_clause)
    ∷ try deck_l (16387 ∷ 1 ∷ []) [] free 9 (refused bad_clause)
    ∷ try deck_l (4 ∷ 32769 ∷ 2 ∷ 32769 ∷ []) [] free 9 (refused bad_clause)
    ∷ try deck_l (3 ∷ []) [] free 9 (refused bad_clause)
    ∷ try deck_l (3 ∷ 1 ∷ 1 ∷ []) (replicate 501 0) free 9 (refused bad_clause)
    ∷ try deck_l (3 ∷ 32768 ∷ []) (replicate 501 0) [] 9 (refused long_query)
    ∷ try deck_l (3 ∷ 32768 ∷ []) (0 ∷ []) [] 9 (refused bad_query)
    ∷ try deck_l (3 ∷ 32768 ∷ []) (16387 ∷ 32768 ∷ []) [] 9 (refused loose_clause)
    ∷ try deck_q (1 ∷ 0 ∷ 1 ∷ 32768 ∷ 1 ∷ 32768 ∷ 32768 ∷ []) [] [] 9 (refused bad_clause)
    ∷ try deck_q (1 ∷ 32768 ∷ 32768 ∷ 1 ∷ 32768 ∷ 32768 ∷ []) [] [] 9 (refused loose_clause)
    ∷ try deck_l (3 ∷ 1 ∷ []) (16387 ∷ 32768 ∷ []) [] 9 (refused loose_query)
    ∷ try deck_l (3 ∷ 1 ∷ []) (4 ∷ 32768 ∷ []) [] 9 (refused bad_bars)
    ∷ try deck_l (3 ∷ 1 ∷ []) (2 ∷ 32768 ∷ []) drawn_barred 9 (shows finished 3 2 0 [] 5)
    ∷ try deck_l (2 ∷ 0 ∷ 3 ∷ 1 ∷ []) (2 ∷ 32768 ∷ []) drawn_barred 9 (refused barred_reached)
    ∷ try deck_l (4 ∷ 0 ∷ 3 ∷ 1 ∷ []) (2 ∷ 32768 ∷ []) lead_barred 9 (shows finished 3 2 0 [] 5)
    ∷ try deck_l (2 ∷ 0 ∷ 16387 ∷ 1 ∷ []) (2 ∷ 1 ∷ []) drawn_barred 9 (refused barred_reached)
    ∷ []

pub refusals-show : map actual refusals ≡ map (λ t. t.expected) refusals
unfolding rules
refusals-show = refl

-- 8 and 9, of the sizes, come after 7 and before 13.
pub sizes-show :
    map (λ q. shown (preview deck_l (3 ∷ 32768 ∷ []) q free 9 9 1023 8191)) ((0 ∷ []) ∷ [] ∷ [])
    ++ map (λ n. shown (preview deck_l (3 ∷ 32768 ∷ []) [] free 9 9 n 8191)) (65536 ∷ 65535 ∷ [])
    ++ map (λ n. shown (preview deck_l (3 ∷ 32768 ∷ []) [] free 9 9 1024 n)) (8191 ∷ 8192 ∷ [])
    ≡ refused bad_query ∷ refused bad_store ∷ refused bad_store ∷ refused bad_scratch ∷ refused bad_scratch ∷ refused loose_clause ∷ []
unfolding rules
sizes-show = refl
