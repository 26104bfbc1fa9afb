-- Decks of format 2 and columns (document 02, U10), shown about the written rules by computing them.
use Prim.Native.Nat.{ℕ, zero, suc}
use mathlib.Core.Path.{◌≡◌, refl}
use mathlib.Core.List.{List, [], ◌∷◌, ◌++◌, map}
use lib.IntN.{pos, negsuc}
use lib.ListN.{drop}
use Rattle.rules.specs.Syntax.{Deck}
use Rattle.rules.specs.Refusals.{Checked, refused, accepted, checked_number}
use Rattle.rules.specs.Decks.{open_deck, write_deck}
use Rattle.rules.specs.Evaluation.{finished}
use Rattle.rules.specs.Run.{answers_after}
use Rattle.rules.specs.Column.{mean, column}
use Rattle.rules.specs.All.{rules}
use Rattle.rules.proofs.Cases.{case, shows, actual, outcome_of, words_of_run}
use Rattle.rules.proofs.Table.{deck_l}

-- Eight header words, the symbol words, the clause starts, the cells.
abbrev words : List ℕ → List ℕ → List ℕ → List ℕ → List ℕ
words header symbols starts cells = header ++ (symbols ++ (starts ++ cells))

abbrev header_m : List ℕ
header_m = 2 ∷ 5 ∷ 8 ∷ 2 ∷ 18 ∷ 6 ∷ 20 ∷ 26 ∷ []

abbrev symbols_m : List ℕ
symbols_m = 0 ∷ 0 ∷ 0 ∷ 0 ∷ 512 ∷ 65501 ∷ 512 ∷ 28 ∷ 258 ∷ 0 ∷ []

abbrev starts_m : List ℕ
starts_m = 0 ∷ 3 ∷ []

abbrev cells_m : List ℕ
cells_m = 4 ∷ 0 ∷ 2 ∷ 4 ∷ 1 ∷ 3 ∷ []

-- Deck M: the shot of a is -35, that of b is 28. Symbols: a, b, -35, 28, shot.
abbrev pub deck_m : List ℕ
deck_m = words header_m symbols_m starts_m cells_m

-- Deck L in format 2.
abbrev pub deck_l2 : List ℕ
deck_l2 =
    words (2 ∷ 5 ∷ 8 ∷ 4 ∷ 18 ∷ 12 ∷ 22 ∷ 34 ∷ []) (0 ∷ 0 ∷ 0 ∷ 0 ∷ 257 ∷ 0 ∷ 257 ∷ 0 ∷ 257 ∷ 0 ∷ []) (0 ∷ 2 ∷ 4 ∷ 6 ∷ [])
    (2 ∷ 0 ∷ 2 ∷ 1 ∷ 3 ∷ 0 ∷ 4 ∷ 32768 ∷ 2 ∷ 32768 ∷ 16387 ∷ 32768 ∷ [])

abbrev zeros : ℕ → List ℕ
zeros zero = []
zeros (suc n) = 0 ∷ zeros n

-- p if p and .. and p, with so many cells; p is symbol 0.
abbrev deck_long : ℕ → ℕ → ℕ → List ℕ
deck_long n total format = words (format ∷ 1 ∷ 8 ∷ 1 ∷ 10 ∷ n ∷ 11 ∷ total ∷ []) (256 ∷ 0 ∷ []) (0 ∷ []) (zeros n)

-- WHICH DECKS OPEN, and with which number the others are refused.
abbrev opening : List ℕ → ℕ
opening ws = checked_number (open_deck ws)

pub open-table :
    map opening
    (deck_l ∷ deck_m ∷ deck_l2 ∷ deck_long 256 267 2 ∷ [])
    ≡ 0 ∷ 0 ∷ 0 ∷ 0 ∷ []
unfolding rules
open-table = refl

-- 1: deck M's words as format 0, 3 and 1, deck L's as 0, 3 and 2; offsets of format 1 in format 2; a word more; an odd number of symbol words.
pub refused-1 :
    map opening
    (words (0 ∷ 5 ∷ 8 ∷ 2 ∷ 18 ∷ 6 ∷ 20 ∷ 26 ∷ []) symbols_m starts_m cells_m
    ∷ words (3 ∷ 5 ∷ 8 ∷ 2 ∷ 18 ∷ 6 ∷ 20 ∷ 26 ∷ []) symbols_m starts_m cells_m
    ∷ words (1 ∷ 5 ∷ 8 ∷ 2 ∷ 18 ∷ 6 ∷ 20 ∷ 26 ∷ []) symbols_m starts_m cells_m
    ∷ (0 ∷ drop 1 deck_l)
    ∷ (3 ∷ drop 1 deck_l)
    ∷ (2 ∷ drop 1 deck_l)
    ∷ words (2 ∷ 5 ∷ 8 ∷ 2 ∷ 13 ∷ 6 ∷ 15 ∷ 21 ∷ []) symbols_m starts_m cells_m
    ∷ words header_m symbols_m starts_m (cells_m ++ (0 ∷ []))
    ∷ words (2 ∷ 5 ∷ 8 ∷ 2 ∷ 17 ∷ 6 ∷ 19 ∷ 25 ∷ []) (0 ∷ 0 ∷ 0 ∷ 0 ∷ 512 ∷ 65501 ∷ 512 ∷ 28 ∷ 258 ∷ []) starts_m cells_m
    ∷ words (2 ∷ 0 ∷ 8 ∷ 0 ∷ 8 ∷ 0 ∷ 8 ∷ 8 ∷ []) [] [] []
    ∷ [])
    ≡ 1 ∷ 1 ∷ 1 ∷ 1 ∷ 1 ∷ 1 ∷ 1 ∷ 1 ∷ 1 ∷ 1 ∷ []
unfolding rules
refused-1 = refl

-- 2: first words 16, 272, 511, 513, 768; a second word at a functor, at a predicate; two equal values; 512 in format 1.
abbrev with_symbols : List ℕ → List ℕ
with_symbols names = words header_m names starts_m cells_m

pub refused-2 :
    map opening
    (with_symbols (16 ∷ 0 ∷ 0 ∷ 0 ∷ 512 ∷ 65501 ∷ 512 ∷ 28 ∷ 258 ∷ 0 ∷ [])
    ∷ with_symbols (272 ∷ 0 ∷ 0 ∷ 0 ∷ 512 ∷ 65501 ∷ 512 ∷ 28 ∷ 258 ∷ 0 ∷ [])
    ∷ with_symbols (0 ∷ 0 ∷ 0 ∷ 0 ∷ 511 ∷ 0 ∷ 512 ∷ 28 ∷ 258 ∷ 0 ∷ [])
    ∷ with_symbols (0 ∷ 0 ∷ 0 ∷ 0 ∷ 513 ∷ 0 ∷ 512 ∷ 28 ∷ 258 ∷ 0 ∷ [])
    ∷ with_symbols (0 ∷ 0 ∷ 0 ∷ 0 ∷ 768 ∷ 0 ∷ 512 ∷ 28 ∷ 258 ∷ 0 ∷ [])
    ∷ with_symbols (0 ∷ 1 ∷ 0 ∷ 0 ∷ 512 ∷ 65501 ∷ 512 ∷ 28 ∷ 258 ∷ 0 ∷ [])
    ∷ with_symbols (0 ∷ 0 ∷ 0 ∷ 0 ∷ 512 ∷ 65501 ∷ 512 ∷ 28 ∷ 258 ∷ 7 ∷ [])
    ∷ with_symbols (0 ∷ 0 ∷ 0 ∷ 0 ∷ 512 ∷ 28 ∷ 512 ∷ 28 ∷ 258 ∷ 0 ∷ [])
    ∷ with_symbols (512 ∷ 0 ∷ 0 ∷ 0 ∷ 0 ∷ 0 ∷ 512 ∷ 0 ∷ 258 ∷ 0 ∷ [])
    ∷ with_symbols (512 ∷ 65501 ∷ 512 ∷ 28 ∷ 512 ∷ 27 ∷ 512 ∷ 65501 ∷ 258 ∷ 0 ∷ [])
    ∷ words (1 ∷ 2 ∷ 8 ∷ 1 ∷ 10 ∷ 2 ∷ 11 ∷ 13 ∷ []) (512 ∷ 257 ∷ []) (0 ∷ []) (1 ∷ 0 ∷ [])
    ∷ [])
    ≡ 2 ∷ 2 ∷ 2 ∷ 2 ∷ 2 ∷ 2 ∷ 2 ∷ 2 ∷ 2 ∷ 2 ∷ 2 ∷ []
unfolding rules
refused-2 = refl

-- 3: starts; 4: 257 cells; 5: a number with a term, a number as a literal, negated, a functor's place left out.
pub refused-3-4-5 :
    map opening
    (words header_m symbols_m (0 ∷ 6 ∷ []) cells_m
    ∷ words header_m symbols_m (1 ∷ 3 ∷ []) cells_m
    ∷ deck_long 257 268 2
    ∷ words header_m symbols_m starts_m (4 ∷ 2 ∷ 2 ∷ 4 ∷ 1 ∷ 4 ∷ [])
    ∷ words header_m symbols_m starts_m (4 ∷ 0 ∷ 2 ∷ 2 ∷ 1 ∷ 3 ∷ [])
    ∷ words header_m symbols_m (0 ∷ 4 ∷ []) (4 ∷ 0 ∷ 2 ∷ 2 ∷ 2 ∷ 2 ∷ [])
    ∷ words header_m symbols_m (0 ∷ 5 ∷ []) (4 ∷ 0 ∷ 2 ∷ 16386 ∷ 2 ∷ 2 ∷ [])
    ∷ [])
    ≡ 3 ∷ 3 ∷ 4 ∷ 5 ∷ 5 ∷ 5 ∷ 5 ∷ []
unfolding rules
refused-3-4-5 = refl

-- What deck M opens as, and its words again.
abbrev formats_of : Checked Deck → List ℕ
formats_of (refused n) = []
formats_of (accepted d) = write_deck d

pub written-again : map (λ ws. formats_of (open_deck ws)) (deck_l ∷ deck_m ∷ deck_l2 ∷ []) ≡ deck_l ∷ deck_m ∷ deck_l2 ∷ []
unfolding rules
written-again = refl

-- RUNS on decks of format 2: deck L in format 2 as in format 1; shot(x, y); shot(x, -35); a query that names a number as a literal.
pub runs-table :
    map actual
    (case deck_l2 (4 ∷ 32768 ∷ []) 13 (shows finished 8 1 0 [] 13)
    ∷ case deck_m (4 ∷ 32768 ∷ 32769 ∷ []) 100 (shows finished 3 2 0 [] 7)
    ∷ case deck_m (4 ∷ 32768 ∷ 2 ∷ []) 100 (shows finished 2 1 0 [] 6)
    ∷ [])
    ≡ shows finished 8 1 0 [] 13 ∷ shows finished 3 2 0 [] 7 ∷ shows finished 2 1 0 [] 6 ∷ []
unfolding rules
runs-table = refl

abbrev answers_m : List ℕ
answers_m = 4 ∷ 2 ∷ 0 ∷ 2 ∷ 4 ∷ 2 ∷ 1 ∷ 3 ∷ []

pub answers-of-M : words_of_run (λ o. answers_after o (zeros 8)) (outcome_of (case deck_m (4 ∷ 32768 ∷ 32769 ∷ []) 100 (shows finished 3 2 0 [] 7))) ≡ answers_m
unfolding rules
answers-of-M = refl

-- COLUMNS.

-- -35 and 28 are -7: the mean is -4, and 1 over. -35 three times and 28. One answer. The greatest and the least value.
pub column-table :
    column deck_m answers_m 2 2 1
    ∷ column deck_m (answers_m ++ (4 ∷ 2 ∷ 0 ∷ 2 ∷ 4 ∷ 2 ∷ 0 ∷ 2 ∷ [])) 4 2 1
    ∷ column deck_m answers_m 1 2 1
    ∷ column deck_m (4 ∷ 2 ∷ 3 ∷ 2 ∷ []) 1 2 0
    ∷ []
    ≡ accepted (record { sum = negsuc 6; whole = negsuc 3; remainder = 1 })
    ∷ accepted (record { sum = negsuc 76; whole = negsuc 19; remainder = 3 })
    ∷ accepted (record { sum = negsuc 34; whole = negsuc 34; remainder = 0 })
    ∷ accepted (record { sum = pos 28; whole = pos 28; remainder = 0 })
    ∷ []
unfolding rules
column-table = refl

abbrev column_number : List ℕ → ℕ → ℕ → ℕ → ℕ
column_number ws count terms place = checked_number (column deck_m ws count terms place)

-- 17: no count, one too many; no such column; another number of terms; a mark; a literal; misnumbered; cut short; word 1 wrong.
-- 18: a functor, a variable. A variable beside the column is fine.
pub column-refused :
    column_number answers_m 0 2 1
    ∷ column_number answers_m 3 2 1
    ∷ column_number answers_m 65536 2 1
    ∷ column_number answers_m 2 2 2
    ∷ column_number answers_m 2 3 1
    ∷ column_number (4100 ∷ 2 ∷ 0 ∷ 2 ∷ []) 1 2 1
    ∷ column_number (7 ∷ 2 ∷ 0 ∷ 2 ∷ 4 ∷ 0 ∷ 2 ∷ []) 1 2 1
    ∷ column_number (4 ∷ 2 ∷ 32769 ∷ 2 ∷ []) 1 2 1
    ∷ column_number (4 ∷ 2 ∷ 0 ∷ []) 1 2 1
    ∷ column_number (4 ∷ 1 ∷ 0 ∷ 2 ∷ []) 1 2 1
    ∷ column_number (2 ∷ 0 ∷ []) 1 0 0
    ∷ column_number answers_m 2 2 0
    ∷ column_number (4 ∷ 2 ∷ 2 ∷ 32768 ∷ []) 1 2 1
    ∷ column_number (4 ∷ 2 ∷ 32768 ∷ 2 ∷ []) 1 2 1
    ∷ []
    ≡ 17 ∷ 17 ∷ 17 ∷ 17 ∷ 17 ∷ 17 ∷ 17 ∷ 17 ∷ 17 ∷ 17 ∷ 17 ∷ 18 ∷ 18 ∷ 0 ∷ []
unfolding rules
column-refused = refl

-- The mean alone: -7 of 2; -1 of 65,535; -32,768 times 65,535; 32,767 times 65,535; 7 of 2; -8 of 2.
pub mean-table :
    mean 2 (negsuc 6) ∷ mean 65535 (negsuc 0) ∷ mean 65535 (negsuc 2147450879) ∷ mean 65535 (pos 2147385345) ∷ mean 2 (pos 7) ∷ mean 2 (negsuc 7) ∷ []
    ≡ record { sum = negsuc 6; whole = negsuc 3; remainder = 1 }
    ∷ record { sum = negsuc 0; whole = negsuc 0; remainder = 65534 }
    ∷ record { sum = negsuc 2147450879; whole = negsuc 32767; remainder = 0 }
    ∷ record { sum = pos 2147385345; whole = pos 32767; remainder = 0 }
    ∷ record { sum = pos 7; whole = pos 3; remainder = 1 }
    ∷ record { sum = negsuc 7; whole = negsuc 3; remainder = 0 }
    ∷ []
unfolding rules
mean-table = refl
