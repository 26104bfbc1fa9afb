-- What the two programs over texts print, shown by computing it.
use mathlib.Core.Path.{◌≡◌, refl}
use Prim.Native.Nat.{ℕ}
use mathlib.Core.List.{List, [], ◌∷◌, ◌++◌, map}
use mathlib.Core.Option.{some, none}
use lib.ListN.{replicate}
use Rattle.text_rules.specs.TextProgram.{read_program, write_program}
use Rattle.text_rules.specs.All.{rules}
use Rattle.rules.proofs.Table.{bytes_l}
use Rattle.text_rules.proofs.TextTable.{deep, text_l}
use Rattle.rules.proofs.ListingRuns.{text}

-- Deck L both ways.
pub reads-L : read_program text_l ≡ bytes_l
unfolding rules
reads-L = refl

pub writes-L : write_program (some bytes_l) ≡ text_l
unfolding rules
writes-L = refl

-- A deck of format 2 both ways: `nu n1 -35.` has the words 512 and 65501.
abbrev bytes_n : List ℕ
bytes_n = 2 ∷ 0 ∷ 2 ∷ 0 ∷ 8 ∷ 0 ∷ 1 ∷ 0 ∷ 12 ∷ 0 ∷ 2 ∷ 0 ∷ 13 ∷ 0 ∷ 15 ∷ 0 ∷ 0 ∷ 2 ∷ 221 ∷ 255 ∷ 1 ∷ 1 ∷ 0 ∷ 0 ∷ 0 ∷ 0 ∷ 1 ∷ 0 ∷ 0 ∷ 0 ∷ []

pub reads-numbers : read_program (text "v2.\nnu n1 -35.\npr p/1.\np(n1).\n") ≡ bytes_n
unfolding rules
reads-numbers = refl

pub writes-numbers : write_program (some bytes_n) ≡ text "v2.\nnu s0 -35.\npr s1/1.\ns1(s0).\n"
unfolding rules
writes-numbers = refl

-- Bytes of 256 and above: `pr p/1.` and `p(_0).` have the words 257 and 32768.
pub reads_bytes :
    read_program (text "pr p/1.p(_0).")
    ≡ 1 ∷ 0 ∷ 1 ∷ 0 ∷ 8 ∷ 0 ∷ 1 ∷ 0 ∷ 9 ∷ 0 ∷ 2 ∷ 0 ∷ 10 ∷ 0 ∷ 12 ∷ 0 ∷ 1 ∷ 1 ∷ 0 ∷ 0 ∷ 0 ∷ 0 ∷ 0 ∷ 128 ∷ []
unfolding rules
reads_bytes = refl

-- The empty text; a clause of 257 cells; a functor in a literal's place; the places of a byte, of a name, and of the text's end; `-0`; two numbers of equal values.
pub reading-refused :
    map read_program
    ([] ∷ deep 255 ∷ text "fn a/0.a." ∷ text "A" ∷ text "pr p/1.p(a)." ∷ text "pr p/0.p  " ∷ text "v2.nu a-0." ∷ text "v2.nu a 5.nu b 5." ∷ [])
    ≡ text "refused 1\n" ∷ text "refused 4\n" ∷ text "refused 5\n" ∷ text "refused 10 0\n" ∷ text "refused 10 9\n" ∷ text "refused 10 10\n" ∷ text "refused 10 7\n" ∷ text "refused 2\n" ∷ []
unfolding rules
reading-refused = refl

-- One byte too many, though the text is spaces.
pub reading-long : read_program (replicate 262145 32) ≡ text "refused 11\n"
unfolding rules
reading-long = refl

-- No file; an odd one; a header alone; a bad symbol word; clause starts that are not in order; a long clause; a variable as a literal.
pub writing-refused :
    map write_program
    (none
    ∷ some (bytes_l ++ (0 ∷ []))
    ∷ some (1 ∷ 0 ∷ [])
    ∷ some (1 ∷ 0 ∷ 1 ∷ 0 ∷ 8 ∷ 0 ∷ 0 ∷ 0 ∷ 9 ∷ 0 ∷ 0 ∷ 0 ∷ 9 ∷ 0 ∷ 9 ∷ 0 ∷ 16 ∷ 0 ∷ [])
    ∷ some (1 ∷ 0 ∷ 1 ∷ 0 ∷ 8 ∷ 0 ∷ 1 ∷ 0 ∷ 9 ∷ 0 ∷ 1 ∷ 0 ∷ 10 ∷ 0 ∷ 11 ∷ 0 ∷ 0 ∷ 1 ∷ 1 ∷ 0 ∷ 0 ∷ 0 ∷ [])
    ∷ some ((1 ∷ 0 ∷ 1 ∷ 0 ∷ 8 ∷ 0 ∷ 1 ∷ 0 ∷ 9 ∷ 0 ∷ 1 ∷ 1 ∷ 10 ∷ 0 ∷ 11 ∷ 1 ∷ 0 ∷ 1 ∷ 0 ∷ 0 ∷ []) ++ replicate 514 0)
    ∷ some (1 ∷ 0 ∷ 1 ∷ 0 ∷ 8 ∷ 0 ∷ 1 ∷ 0 ∷ 9 ∷ 0 ∷ 1 ∷ 0 ∷ 10 ∷ 0 ∷ 11 ∷ 0 ∷ 0 ∷ 1 ∷ 0 ∷ 0 ∷ 0 ∷ 128 ∷ [])
    ∷ [])
    ≡ text "refused 1\n" ∷ text "refused 1\n" ∷ text "refused 1\n" ∷ text "refused 2\n" ∷ text "refused 3\n" ∷ text "refused 4\n" ∷ text "refused 5\n" ∷ []
unfolding rules
writing-refused = refl
