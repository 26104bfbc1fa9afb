-- Where clauses start and end, and the rows of their cells one after the other.
use Prim.Native.Nat.{ℕ, zero, suc, ◌+◌, ◌-◌, ◌≤◌, ◌<◌}
use mathlib.Core.Path.{◌≡◌, refl, ap, sym, ◌∙◌}
use mathlib.Core.Bool.{Bool, true, ◌&&◌, and-eq-true_iff}
use mathlib.Core.List.{List, [], ◌∷◌}
use native.Mathlib.Omega.{arith}
use native.Mathlib.Numerals.{add-one}
use lib.ListN.{length, get_or, take, drop, length-drop, drop_of_length-le}
use lib.Seq.{drop-cons, take_all}
use lib.Dec.{ltb, eqb}
use borrow.Author.Tests.{ltb-true}
use Rattle.std.specs.List.{list_all, range_with_len}
use Rattle.rules.specs.Decks.{rising, starts_fit, clause_row, clause_rows}
use Rattle.deck.specs.Rows.{row_at}

-- An element that is there, whatever stands for one that is not.
pub get_or-any : (l : List ℕ) (n d e : ℕ) → n < length l → get_or l n d ≡ get_or l n e
get_or-any [] n d e h = absurd (omega arith)
get_or-any (x ∷ xs) zero d e h = refl
get_or-any (x ∷ xs) (suc n) d e h = get_or-any xs n d e (omega arith)

-- A row and those after it.
row_next : (cells : List ℕ) (s : ℕ) (ss : List ℕ) → clause_row cells s ss ≡ take (get_or ss 0 (length cells) - s) (drop s cells)
unfolding clause_row
row_next cells s [] = sym (take_all (length cells - s) (drop s cells) (simp length-drop (omega arith)))
row_next cells s (end ∷ ss) = refl

rows-suc : (cells starts : List ℕ) (i : ℕ) → i < length starts
    → clause_rows cells (drop i starts) ≡ take (get_or starts (suc i) (length cells) - get_or starts i 0) (drop (get_or starts i 0) cells) ∷ clause_rows cells (drop (suc i) starts)
unfolding clause_rows
rows-suc cells [] i h = absurd (omega arith)
rows-suc cells (s ∷ ss) zero h = ap {B = List (List ℕ)} (λ r. r ∷ clause_rows cells ss) (row_next cells s ss)
rows-suc cells (s ∷ ss) (suc i) h = rows-suc cells ss i (omega arith)

pub rows_at : (cells starts : List ℕ) (i : ℕ) → i < length starts → clause_rows cells (drop i starts) ≡ row_at cells starts i ∷ clause_rows cells (drop (i + 1) starts)
rows_at cells starts i h = rw add-one (rows-suc cells starts i h)

-- Starts that fit: each is before the clause's end, which is at most the number of cells.
rising-between : (T s : ℕ) (ss : List ℕ) (i : ℕ) → s < T → rising T s ss ≡ true → i ≤ length ss → (get_or (s ∷ ss) i 0 < get_or ss i T) × (get_or ss i T ≤ T)
unfolding rising
rising-between T s [] zero l e h = (l, omega arith)
rising-between T s [] (suc i) l e h = absurd (omega arith)
rising-between T s (r ∷ ss) zero l e h =
    let b = (and-eq-true_iff (ltb s r && ltb r T) (rising T r ss)).0 e in
    let c = (and-eq-true_iff (ltb s r) (ltb r T)).0 b.0 in
    (ltb-true s r c.0, omega (arith, ltb-true r T c.1))
rising-between T s (r ∷ ss) (suc i) l e h =
    let b = (and-eq-true_iff (ltb s r && ltb r T) (rising T r ss)).0 e in
    rising-between T r ss i (ltb-true r T ((and-eq-true_iff (ltb s r) (ltb r T)).0 b.0).1) b.1 (omega arith)

pub start_end : (T : ℕ) (starts : List ℕ) (i : ℕ) → starts_fit T starts ≡ true → i < length starts → (get_or starts i 0 < get_or starts (i + 1) T) × (get_or starts (i + 1) T ≤ T)
unfolding starts_fit
start_end T [] i e h = absurd (omega arith)
start_end T (s ∷ ss) i e h =
    let b = (and-eq-true_iff (eqb s 0 && ltb s T) (rising T s ss)).0 e in
    rw add-one (rising-between T s ss i (ltb-true s T ((and-eq-true_iff (eqb s 0) (ltb s T)).0 b.0).1) b.1 (omega arith))

-- A test of all rows is that of each.
module _ (test : List ℕ → Bool) (all : List (List ℕ) → Bool) (none : all [] ≡ true) (more : (row : List ℕ) (rows : List (List ℕ)) → all (row ∷ rows) ≡ test row && all rows)
    (cells starts : List ℕ) where
  rows-from : (i n : ℕ) → i + n ≡ length starts → list_all (λ k. test (row_at cells starts k)) (range_with_len i n) ≡ all (clause_rows cells (drop i starts))
  unfolding clause_rows
  rows-from i zero e = let past : length starts ≤ i = omega arith in rw (drop_of_length-le starts past) (sym none)
  rows-from i (suc n) e =
      rw (rows_at cells starts i (omega arith))
      (ap (test (row_at cells starts i) &&◌) (rows-from (i + 1) n (omega arith)) ∙ sym (more (row_at cells starts i) (clause_rows cells (drop (i + 1) starts))))

  pub each-row : (r : Bool) → r ≡ list_all (λ k. test (row_at cells starts k)) (range_with_len 0 (length starts)) → r ≡ all (clause_rows cells starts)
  each-row r e = e ∙ rows-from 0 (length starts) (omega arith)

-- Starts that rise, one at a time.
pub rising_from :
    (T before : ℕ) (starts : List ℕ) (i : ℕ) → i < length starts
    → rising T before (drop i starts) ≡ ltb before (get_or starts i 0) && ltb (get_or starts i 0) T && rising T (get_or starts i 0) (drop (i + 1) starts)
unfolding rising
rising_from T before starts i h = rw (add-one i, drop-cons starts i 0 h)

pub rising_end : (T before : ℕ) (starts : List ℕ) (i : ℕ) → length starts ≤ i → rising T before (drop i starts) ≡ true
unfolding rising
rising_end T before starts i h = rw (drop_of_length-le starts h)
