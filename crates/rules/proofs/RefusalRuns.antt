-- The checks and their numbers, shown by computing them: each check just met and just missed, and two faults at once, where the lower number counts.
use Prim.Native.Nat.{ℕ, zero, suc, ◌+◌}
use mathlib.Core.Path.{◌≡◌, refl}
use mathlib.Core.List.{List, [], ◌∷◌, ◌++◌, map}
use mathlib.Core.Option.{some, none}
use lib.ListN.{length, replicate, take, set}
use Rattle.rules.specs.Terms.{var, nil, cons}
use Rattle.rules.specs.Cells.{row, read_row}
use Rattle.rules.specs.Refusals.{checked_number}
use Rattle.rules.specs.Decks.{open_deck, check_query}
use Rattle.rules.specs.Run.{run}
use Rattle.rules.specs.All.{rules}
use Rattle.rules.proofs.Cases.{unbarred}
use Rattle.rules.proofs.Table.{deck_l}
use Rattle.rules.proofs.MoreRuns.{nested}

-- The deck of these symbol words, clause words and term cells; what opening it returns.
abbrev pub deck_of : List ℕ → List ℕ → List ℕ → List ℕ
deck_of symbols starts cells =
    let s = length symbols in
    let c = length starts in
    let t = length cells in
    1 ∷ s ∷ 8 ∷ c ∷ (8 + s) ∷ t ∷ (8 + s + c) ∷ (8 + s + c + t) ∷ (symbols ++ (starts ++ cells))

abbrev pub opens : List ℕ → ℕ
opens ws = checked_number (open_deck ws)

-- 1. Each header word of deck L in turn taken for 30; deck L, its first seven words, one word after it, no words; 0, 1, 4,096 and 4,097 symbols.
pub header-off :
    map (λ i. opens (set deck_l i 30)) (0 ∷ 1 ∷ 2 ∷ 3 ∷ 4 ∷ 5 ∷ 6 ∷ 7 ∷ [])
    ≡ 1 ∷ 1 ∷ 1 ∷ 1 ∷ 1 ∷ 1 ∷ 1 ∷ 1 ∷ []
unfolding rules
header-off = refl

pub length-off : opens deck_l ∷ opens (take 7 deck_l) ∷ opens (deck_l ++ (0 ∷ [])) ∷ opens [] ∷ [] ≡ 0 ∷ 1 ∷ 1 ∷ 1 ∷ []
unfolding rules
length-off = refl

pub symbol-counts : map (λ n. opens (deck_of (replicate n 0) [] [])) (0 ∷ 1 ∷ 4096 ∷ 4097 ∷ []) ≡ 1 ∷ 0 ∷ 0 ∷ 1 ∷ []
unfolding rules
symbol-counts = refl

-- 64 clauses p(f(..)), all but the last of 256 cells, in 16,384 and in 16,385 words. Symbols: a, f, p, q without terms.
abbrev pub symbols : List ℕ
symbols = 0 ∷ 1 ∷ 257 ∷ 256 ∷ []

abbrev pub starts : ℕ → ℕ → List ℕ
starts zero at = []
starts (suc n) at = at ∷ starts n (at + 256)

abbrev pub long_rows : ℕ → List ℕ → List ℕ
long_rows zero last = last
long_rows (suc n) last = (2 ∷ nested 254) ++ long_rows n last

pub total-words : map (λ n. opens (deck_of symbols (starts 64 0) (long_rows 63 (2 ∷ nested n)))) (178 ∷ 179 ∷ []) ≡ 0 ∷ 1 ∷ []
unfolding rules
total-words = refl

-- 2. Symbol words at the ends of what is allowed.
pub symbol-words :
    map (λ w. opens (deck_of (w ∷ []) [] [])) (0 ∷ 15 ∷ 16 ∷ 255 ∷ 256 ∷ 271 ∷ 272 ∷ [])
    ≡ 0 ∷ 0 ∷ 2 ∷ 2 ∷ 0 ∷ 0 ∷ 2 ∷ []
unfolding rules
symbol-words = refl

-- 3. Over the cells p p p: clauses that start at 0 and 1; the first not at 0; two equal; one before the last; one at T; one past T; none, with cells;
-- none, without; one, without.
pub clause-starts :
    map (λ ss. opens (deck_of (256 ∷ []) ss (0 ∷ 0 ∷ 0 ∷ []))) ((0 ∷ 1 ∷ []) ∷ (1 ∷ 2 ∷ []) ∷ (0 ∷ 0 ∷ []) ∷ (0 ∷ 2 ∷ 1 ∷ []) ∷ (0 ∷ 3 ∷ []) ∷ (0 ∷ 4 ∷ []) ∷ [] ∷ [])
    ++ map (λ ss. opens (deck_of (256 ∷ []) ss [])) ([] ∷ (0 ∷ []) ∷ [])
    ≡ 0 ∷ 3 ∷ 3 ∷ 3 ∷ 3 ∷ 3 ∷ 3 ∷ 0 ∷ 3 ∷ []
unfolding rules
clause-starts = refl

-- 4. A clause p(f(..)) of 256 cells, of 257; the same after a short one.
pub clause-lengths :
    map (λ n. opens (deck_of symbols (0 ∷ []) (2 ∷ nested n))) (254 ∷ 255 ∷ []) ++ map (λ n. opens (deck_of symbols (0 ∷ 1 ∷ []) (3 ∷ 2 ∷ nested n))) (254 ∷ 255 ∷ [])
    ≡ 0 ∷ 4 ∷ 0 ∷ 4 ∷ []
unfolding rules
clause-lengths = refl

-- 5. Over these symbols, clauses that are well formed: q; p(x) if p(y), not q.
-- And those that are not: a head that is negated, or a functor, or past the last symbol; a term missing, or one too many; a predicate as a term,
-- negated too; a negated functor; a variable alone; variables that start from 1, or leave out a number, or are numbered past 1,023.
pub clause-forms :
    map (λ cells. opens (deck_of symbols (0 ∷ []) cells))
    ((3 ∷ []) ∷ (2 ∷ 32768 ∷ 2 ∷ 32769 ∷ 16387 ∷ [])
    ∷ (16387 ∷ []) ∷ (0 ∷ []) ∷ (4 ∷ []) ∷ (2 ∷ []) ∷ (3 ∷ 0 ∷ []) ∷ (2 ∷ 3 ∷ []) ∷ (2 ∷ 16387 ∷ []) ∷ (3 ∷ 16384 ∷ []) ∷ (32768 ∷ [])
    ∷ (2 ∷ 32769 ∷ []) ∷ (2 ∷ 32768 ∷ 2 ∷ 32770 ∷ []) ∷ (2 ∷ 33792 ∷ []) ∷ [])
    ≡ 0 ∷ 0 ∷ 5 ∷ 5 ∷ 5 ∷ 5 ∷ 5 ∷ 5 ∷ 5 ∷ 5 ∷ 5 ∷ 5 ∷ 5 ∷ 5 ∷ []
unfolding rules
clause-forms = refl

-- The last variable is 1,023. No clause, query or goal is long enough to have it, so the cell is read alone.
pub last-variable : map (λ c. read_row [] (c ∷ [])) (33791 ∷ 33792 ∷ []) ≡ some (row (cons (var 1023) nil) []) ∷ none ∷ []
unfolding rules
last-variable = refl

-- 6 and 7. Queries of 500 and of 501 cells; a functor; a variable number left out.
abbrev pub asks : List ℕ → ℕ
asks ws = checked_number (check_query (deck_of symbols [] []) ws)

pub queries : map asks ([] ∷ replicate 500 3 ∷ replicate 501 3 ∷ (0 ∷ []) ∷ (2 ∷ 32769 ∷ []) ∷ []) ≡ 0 ∷ 0 ∷ 6 ∷ 7 ∷ 7 ∷ []
unfolding rules
queries = refl

-- 8 and 9. The store's size, and the scratch's.
abbrev pub lends : ℕ → ℕ → ℕ
lends store_size scratch_size = checked_number (run deck_l [] (unbarred deck_l) 0 0 store_size scratch_size)

pub sizes :
    map (λ n. lends n 8192) (1023 ∷ 1024 ∷ 65535 ∷ 65536 ∷ []) ++ map (lends 1024) (8191 ∷ 8192 ∷ 8193 ∷ [])
    ≡ 8 ∷ 0 ∷ 0 ∷ 8 ∷ 9 ∷ 0 ∷ 0 ∷ []
unfolding rules
sizes = refl

-- 13 and 14. With the empty query, clauses without a loose variable: q; p(x) if p(x); p(f(x)) if p(x); p(x) if not p(x) and p(f(x)).
-- And with one: p(x); p(f(x)) if q; p(x) if not p(x); p(x) if p(y); q if not p(x); the same after another clause; in the last place of a body.
abbrev pub bound : List ℕ → List ℕ → ℕ
bound ss cells = checked_number (check_query (deck_of symbols ss cells) [])

pub loose-clauses :
    map (bound (0 ∷ []))
    ((3 ∷ []) ∷ (2 ∷ 32768 ∷ 2 ∷ 32768 ∷ []) ∷ (2 ∷ 1 ∷ 32768 ∷ 2 ∷ 32768 ∷ []) ∷ (2 ∷ 32768 ∷ 16386 ∷ 32768 ∷ 2 ∷ 1 ∷ 32768 ∷ [])
    ∷ (2 ∷ 32768 ∷ []) ∷ (2 ∷ 1 ∷ 32768 ∷ 3 ∷ []) ∷ (2 ∷ 32768 ∷ 16386 ∷ 32768 ∷ []) ∷ (2 ∷ 32768 ∷ 2 ∷ 32769 ∷ []) ∷ (3 ∷ 16386 ∷ 32768 ∷ []) ∷ [])
    ++ (bound (0 ∷ 1 ∷ []) (3 ∷ 3 ∷ 16386 ∷ 32768 ∷ []) ∷ bound (0 ∷ []) (2 ∷ 32768 ∷ 2 ∷ 32768 ∷ 16386 ∷ 32769 ∷ []) ∷ [])
    ≡ 0 ∷ 0 ∷ 0 ∷ 0 ∷ 13 ∷ 13 ∷ 13 ∷ 13 ∷ 13 ∷ 13 ∷ 13 ∷ []
unfolding rules
loose-clauses = refl

-- Queries p(x); not p(x) and p(f(x)); not p(x); p(x) and not p(y).
pub loose-queries :
    map asks ((2 ∷ 32768 ∷ []) ∷ (16386 ∷ 32768 ∷ 2 ∷ 1 ∷ 32768 ∷ []) ∷ (16386 ∷ 32768 ∷ []) ∷ (2 ∷ 32768 ∷ 16386 ∷ 32769 ∷ []) ∷ [])
    ≡ 0 ∷ 0 ∷ 14 ∷ 14 ∷ []
unfolding rules
loose-queries = refl

-- Two faults at once: 1 and 2, 2 and 3, 3 and 4; 4 and 5, the later clause too long and the earlier one misnumbered, and the other way round;
-- 5 and 6, 6 and 7, 7 and 8, 8 and 9, 9 and 13, 9 and 14, 13 and 14, 14 and 15, 15 and 16; 13 in a clause about a predicate that is barred and named.
abbrev pub loose_deck : List ℕ
loose_deck = deck_of symbols (0 ∷ []) (2 ∷ 32768 ∷ [])

pub lower-number :
    opens (set (set deck_l 0 2) 8 16)
    ∷ opens (set (set deck_l 8 16) 13 1)
    ∷ opens (deck_of symbols (0 ∷ 257 ∷ []) (2 ∷ nested 255))
    ∷ opens (deck_of symbols (0 ∷ 2 ∷ []) (2 ∷ 32769 ∷ 2 ∷ nested 255))
    ∷ opens (deck_of symbols (0 ∷ 257 ∷ []) ((2 ∷ nested 255) ++ (2 ∷ 32769 ∷ [])))
    ∷ checked_number (check_query (deck_of symbols (0 ∷ []) (0 ∷ [])) (replicate 501 3))
    ∷ asks (replicate 501 0)
    ∷ checked_number (run deck_l (0 ∷ []) (unbarred deck_l) 0 0 0 8192)
    ∷ lends 0 0
    ∷ checked_number (run loose_deck [] (unbarred loose_deck) 0 0 1024 0)
    ∷ checked_number (run deck_l (16387 ∷ 32768 ∷ []) (unbarred deck_l) 0 0 1024 0)
    ∷ checked_number (run loose_deck (16386 ∷ 32768 ∷ []) (unbarred loose_deck) 0 0 1024 8192)
    ∷ checked_number (run deck_l (16387 ∷ 32768 ∷ []) [] 0 0 1024 8192)
    ∷ checked_number (run deck_l (4 ∷ 32768 ∷ []) (1 ∷ 0 ∷ 0 ∷ 0 ∷ 1 ∷ []) 0 0 1024 8192)
    ∷ checked_number (run loose_deck (2 ∷ 0 ∷ []) (0 ∷ 0 ∷ 1 ∷ 0 ∷ []) 0 0 1024 8192)
    ∷ []
    ≡ 1 ∷ 2 ∷ 3 ∷ 4 ∷ 4 ∷ 5 ∷ 6 ∷ 7 ∷ 8 ∷ 9 ∷ 9 ∷ 13 ∷ 14 ∷ 15 ∷ 13 ∷ []
unfolding rules
lower-number = refl
